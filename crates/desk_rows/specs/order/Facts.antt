-- The registry's facts that the tables' rows represent.
use Rattle.std.specs.Prelude.{ℕ, Bool, List, map, find, Option, option_map, bytes_eq}
use Rattle.std.specs.List.{list_any}
use Rattle.registry_core.specs.declared.facts.Booking.{Booking}
use Rattle.registry_core.specs.declared.facts.Session.{Session}
use Rattle.registry_core.specs.State.{State}
use Rattle.desk_rows.specs.Rows.{Rows, SenderRow, DeviceRow, SessionRow, ReceptionRow, BookingRow, LimitRow, is_reception, is_device, is_limit, is_sender_named}

-- ---- the row with a key

abbrev pub is_name_row : List ℕ → List ℕ → Bool
is_name_row name row = bytes_eq row name

-- ---- the facts that the rows represent

abbrev pub sessions_in : List SessionRow → List Session
sessions_in rows = map (λ s. s.session) rows

abbrev pub bookings_in : List BookingRow → List Booking
bookings_in rows = map (λ b. b.booking) rows

-- the limit in the row of a gateway's band, by the band's number
abbrev pub limit_found : List LimitRow → List ℕ → ℕ → Option ℕ
limit_found limits gateway band = option_map (λ (l : LimitRow). l.limit.most) (find (is_limit gateway band) limits)

-- the facts: what has a key is in the row with that key, and nothing else is there
abbrev pub facts_in : Rows → State
facts_in r = record {
  senders = λ name. option_map (λ (s : SenderRow). s.role) (find (is_sender_named name) r.senders);
  owners = λ name. list_any (is_name_row name) r.owners;
  gateways = λ name. list_any (is_name_row name) r.gateways;
  devices = λ dev_eui. option_map (λ (d : DeviceRow). d.device) (find (is_device dev_eui) r.devices);
  sessions = sessions_in r.sessions;
  uplinks = r.uplinks;
  receptions = λ number gateway. option_map (λ (c : ReceptionRow). c.reception) (find (is_reception number gateway) r.receptions);
  bookings = bookings_in r.bookings;
  limits = limit_found r.limits;
}
