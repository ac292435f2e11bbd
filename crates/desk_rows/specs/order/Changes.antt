-- What each effect does to the rows, table by table.
use Rattle.std.specs.Prelude.{ℕ, ◌+◌, Bool, if◌then◌else◌, List, [], ◌∷◌, ◌++◌, length, max, Some, None}
use Rattle.std.specs.List.{list_any}
use Rattle.std.specs.Option.{option_map_or}
use Rattle.radio_core.specs.Bands.{band_number}
use Rattle.registry_core.specs.declared.effects.Effect.{Effect}
use Rattle.registry_core.specs.declared.effects.Effect.TheVariants.{Nothing, AddsSender, AddsOwner, AddsGateway, AddsDevice, MovesDevice, AddsSession, AddsUplink, AddsReception, AddsBooking, EndsBooking, SetsLimit}
use Rattle.registry_core.specs.declared.facts.Booking.{Booking}
use Rattle.registry_core.specs.declared.facts.Device.{Device}
use Rattle.registry_core.specs.declared.facts.Kind.{Kind}
use Rattle.registry_core.specs.declared.facts.Kind.TheVariants.{Join, Data}
use Rattle.registry_core.specs.declared.facts.Reception.{Reception}
use Rattle.registry_core.specs.declared.facts.Session.{Session}
use Rattle.registry_core.specs.declared.facts.Uplink.{Uplink}
use Rattle.registry_core.specs.declared.messages.Role.{Role}
use Rattle.registry_core.specs.declared.messages.Role.TheVariants.{Operator}
use Rattle.registry_core.specs.Derived.{is_of_device}
use Rattle.registry_core.specs.Fits.{Fits}
use Rattle.registry_core.specs.Limits.{Limit}
use Rattle.registry_core.specs.Numbered.{item_at, item_changed}
use Rattle.registry_core.specs.Settings.{Settings}
use Rattle.registry_core.specs.State.{State, ended, opening, owned_by, state_with}
use Rattle.sqlite_keyed.specs.Lists.{update_where}
use Rattle.desk_rows.specs.Rows.{Rows, SenderRow, ReplyRow, DeviceRow, SessionRow, ReceptionRow, BookingRow, LimitRow, is_device, is_limit}
use Rattle.desk_rows.specs.order.Facts.{sessions_in}
use Rattle.desk_rows.specs.order.RowsOf.{AreRowsOf}

-- ---- rows

abbrev pub sender_row : List ℕ → Role → SenderRow
sender_row name role = record { name = name; role = role }

-- a device that has sent no data yet
abbrev pub device_row : ℕ → Device → DeviceRow
device_row dev_eui device = record { dev_eui = dev_eui; device = device; floor = None }

abbrev pub moved : List ℕ → DeviceRow → DeviceRow
moved owner d = record d { device = owned_by owner d.device }

-- the floor is this number, or stays if it is above it
abbrev pub raised : ℕ → DeviceRow → DeviceRow
raised number d = record d { floor = Some (option_map_or (max number) d.floor number) }

-- a session for which no downlink was booked yet
abbrev pub session_row : Session → SessionRow
session_row session = record { session = session; next_down = 0 }

-- one more downlink
abbrev pub counted_down : SessionRow → SessionRow
counted_down s = record s { next_down = s.next_down + 1 }

abbrev pub reception_row : ℕ → List ℕ → Reception → ReceptionRow
reception_row number gateway reception = record { uplink = number; gateway = gateway; reception = reception }

-- the session and the kind of the uplink with this number
abbrev pub session_of_uplink : List Uplink → ℕ → ℕ
session_of_uplink uplinks number = option_map_or (λ u. u.session) (item_at uplinks number) 0

abbrev pub kind_at : List Uplink → ℕ → Kind
kind_at uplinks number = option_map_or (λ u. u.kind) (item_at uplinks number) Join

-- a booking with the session and the kind of its uplink
abbrev pub booking_row : List Uplink → Booking → BookingRow
booking_row uplinks booking = record { booking = booking; session = session_of_uplink uplinks booking.uplink; kind = kind_at uplinks booking.uplink }

abbrev pub ended_row : Bool → BookingRow → BookingRow
ended_row sent b = record b { booking = ended sent b.booking }

abbrev pub limit_row : List ℕ → Limit → LimitRow
limit_row gateway limit = record { gateway = gateway; limit = limit }

-- the same band with this limit
abbrev pub limited : ℕ → LimitRow → LimitRow
limited most l = record l { limit = record { band = l.limit.band; most = most } }

-- ---- one table each

-- the devices, with the floor of this session's device raised to the session
abbrev pub devices_raised : List SessionRow → ℕ → List DeviceRow → List DeviceRow
devices_raised sessions number devices = update_where (λ d. is_of_device (sessions_in sessions) d.dev_eui number) (raised number) devices

-- the sessions, with one more downlink in the one with this number if it answers data
abbrev pub sessions_counted : Kind → ℕ → List SessionRow → List SessionRow
sessions_counted Join number sessions = sessions
sessions_counted Data number sessions = item_changed counted_down sessions number

-- there is a row of the gateway's band, by the band's number
abbrev pub has_limit : List ℕ → ℕ → List LimitRow → Bool
has_limit gateway band limits = list_any (is_limit gateway band) limits

-- the limits with this one for the gateway's band: in the band's row if there is one, and else in a new row
abbrev pub limits_set : List ℕ → Limit → List LimitRow → List LimitRow
limits_set gateway limit limits =
    if has_limit gateway (band_number limit.band) limits then update_where (is_limit gateway (band_number limit.band)) (limited limit.most) limits
    else limits ++ limit_row gateway limit ∷ []

-- ---- rows with an effect

abbrev pub with_uplink_row : Uplink → List ℕ → Reception → Rows → Rows
with_uplink_row uplink gateway reception r = record r {
  uplinks = r.uplinks ++ uplink ∷ [];
  receptions = r.receptions ++ reception_row (length r.uplinks + 1) gateway reception ∷ [];
}

-- the rows after an effect, without its message
abbrev pub rows_changed : Effect → Rows → Rows
rows_changed Nothing r = r
rows_changed (AddsSender name role) r = record r { senders = r.senders ++ sender_row name role ∷ [] }
rows_changed (AddsOwner name) r = record r { owners = r.owners ++ name ∷ [] }
rows_changed (AddsGateway name) r = record r { gateways = r.gateways ++ name ∷ [] }
rows_changed (AddsDevice dev_eui device) r = record r { devices = r.devices ++ device_row dev_eui device ∷ [] }
rows_changed (MovesDevice dev_eui owner) r = record r { devices = update_where (is_device dev_eui) (moved owner) r.devices }
-- a join leaves the floor as it is
rows_changed (AddsSession session uplink gateway reception) r =
    with_uplink_row uplink gateway reception (record r { sessions = r.sessions ++ session_row session ∷ [] })
rows_changed (AddsUplink uplink gateway reception) r =
    with_uplink_row uplink gateway reception (record r { devices = devices_raised r.sessions uplink.session r.devices })
rows_changed (AddsReception number gateway reception) r = record r { receptions = r.receptions ++ reception_row number gateway reception ∷ [] }
rows_changed (AddsBooking booking) r = record r {
  sessions = sessions_counted (kind_at r.uplinks booking.uplink) (session_of_uplink r.uplinks booking.uplink) r.sessions;
  bookings = r.bookings ++ booking_row r.uplinks booking ∷ [];
}
rows_changed (EndsBooking number sent) r = record r { bookings = item_changed (ended_row sent) r.bookings number }
rows_changed (SetsLimit gateway limit) r = record r { limits = limits_set gateway limit r.limits }

-- the rows after an effect, with the message and its answer at the end
abbrev pub rows_with : Effect → ReplyRow → Rows → Rows
rows_with effect reply r = record (rows_changed effect r) { replies = r.replies ++ reply ∷ [] }

-- the first rows: the configuration, and its operator as the only sender
abbrev pub opening_rows : Settings → Rows
opening_rows c = record {
  settings = c;
  senders = sender_row c.operator Operator ∷ [];
  replies = [];
  owners = [];
  gateways = [];
  devices = [];
  sessions = [];
  uplinks = [];
  receptions = [];
  bookings = [];
  limits = [];
}

-- ---- laws

-- the first rows are those of the opening state
abbrev pub OpeningRowsTell : Type 0
OpeningRowsTell = (c : Settings) → AreRowsOf c (opening c) (opening_rows c)

-- the rows after an effect are those of the facts after it
abbrev pub RowsFollowFacts : Type 0
RowsFollowFacts = (c : Settings) (facts : State) (r : Rows) (effect : Effect) (reply : ReplyRow)
    → AreRowsOf c facts r → Fits effect facts → AreRowsOf c (state_with facts effect) (rows_with effect reply r)
