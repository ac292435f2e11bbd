-- What each statement writes: the range of its values, when it may change the rows, and the rows after it.
use Rattle.std.specs.Prelude.{◌≡◌, ℕ, ◌+◌, ◌<◌, ◌^◌, Bool, false, List, [], ◌∷◌, ◌++◌, length, Some}
use Rattle.std.specs.List.{list_any}
use Rattle.radio_core.specs.Bands.{band_number}
use Rattle.registry_core.specs.declared.facts.Booking.{Booking}
use Rattle.registry_core.specs.declared.facts.Device.{Device}
use Rattle.registry_core.specs.declared.facts.Kind.{Kind}
use Rattle.registry_core.specs.declared.facts.Reception.{Reception}
use Rattle.registry_core.specs.declared.facts.Session.{Session}
use Rattle.registry_core.specs.declared.facts.Uplink.{Uplink}
use Rattle.registry_core.specs.declared.messages.Role.{Role}
use Rattle.registry_core.specs.Limits.{Limit}
use Rattle.registry_core.specs.Numbered.{item_at, item_changed}
use Rattle.sqlite_keyed.specs.Lists.{update_where}
use Rattle.desk_rows.specs.Rows.{Rows, BookingRow, SessionRow, is_device, is_limit, is_reception, is_reply, is_sender_named, is_session, is_uplink}
use Rattle.desk_rows.specs.order.Changes.{device_row, ended_row, limit_row, limited, moved, reception_row, sender_row, session_row}
use Rattle.desk_rows.specs.order.Facts.{is_name_row}
use Rattle.desk_rows.specs.order.Keys.{HasOnly, HasRowid, floor_set, next_down_set}

-- the range of the values that a statement writes, when it may change the rows, and the rows after it
pub record Written : Type 1 where
  pub InRange : Type 0
  pub May : Rows → Type 0
  pub after : Rows → Rows

-- no row has this key, and there is a rowid for one more row
abbrev pub IsNew : {X : Type 0} → (X → Bool) → List X → Type 0
IsNew has_key rows = (list_any has_key rows ≡ false) × HasRowid rows

-- exactly one row has this key, and each row has a rowid
abbrev pub IsThere : {X : Type 0} → (X → Bool) → List X → Type 0
IsThere has_key rows = HasOnly has_key rows × (length rows < 2 ^ 63)

-- ---- rows that are added, each at the end of its table

-- a sender with this role
abbrev pub sender_added : List ℕ → Role → Written
sender_added name role = record {
  InRange = Unit {0};
  May = λ r. IsNew (is_sender_named name) r.senders;
  after = λ r. record r { senders = r.senders ++ sender_row name role ∷ [] };
}

-- a message that was heard, and its answer
abbrev pub reply_added : List ℕ → ℕ → List ℕ → List ℕ → Written
reply_added sender number message answer = record {
  InRange = Unit {0};
  May = λ r. IsNew (is_reply sender number) r.replies;
  after = λ r. record r { replies = r.replies ++ record { sender = sender; number = number; message = message; answer = answer } ∷ [] };
}

-- an owner with this name
abbrev pub owner_added : List ℕ → Written
owner_added name = record {
  InRange = Unit {0};
  May = λ r. IsNew (is_name_row name) r.owners;
  after = λ r. record r { owners = r.owners ++ name ∷ [] };
}

-- a gateway with this name
abbrev pub gateway_added : List ℕ → Written
gateway_added name = record {
  InRange = Unit {0};
  May = λ r. IsNew (is_name_row name) r.gateways;
  after = λ r. record r { gateways = r.gateways ++ name ∷ [] };
}

-- a device with this DevEUI, none of whose sessions has a data uplink
abbrev pub device_added : ℕ → Device → Written
device_added dev_eui device = record {
  InRange = Unit {0};
  May = λ r. IsNew (is_device dev_eui) r.devices;
  after = λ r. record r { devices = r.devices ++ device_row dev_eui device ∷ [] };
}

-- a session for which no downlink was booked yet
abbrev pub session_added : Session → Written
session_added session = record {
  InRange = Unit {0};
  May = λ r. IsNew (is_session session.device session.nonce) r.sessions;
  after = λ r. record r { sessions = r.sessions ++ session_row session ∷ [] };
}

-- an uplink of a session
abbrev pub uplink_added : Uplink → Written
uplink_added uplink = record {
  InRange = uplink.session < 2 ^ 63;
  May = λ r. IsNew (is_uplink uplink.session uplink.kind uplink.counter) r.uplinks;
  after = λ r. record r { uplinks = r.uplinks ++ uplink ∷ [] };
}

-- the reception of the uplink with this number at a gateway
abbrev pub reception_added : ℕ → List ℕ → Reception → Written
reception_added uplink gateway reception = record {
  InRange = uplink < 2 ^ 63;
  May = λ r. IsNew (is_reception uplink gateway) r.receptions;
  after = λ r. record r { receptions = r.receptions ++ reception_row uplink gateway reception ∷ [] };
}

-- a booking, with the session and the kind of its uplink
abbrev pub booking_added : Booking → ℕ → Kind → Written
booking_added booking session kind = record {
  InRange = (booking.uplink < 2 ^ 63) × (session < 2 ^ 63);
  May = λ r. Unit {0} × HasRowid r.bookings;
  after = λ r. record r { bookings = r.bookings ++ record { booking = booking; session = session; kind = kind } ∷ [] };
}

-- the limit of a gateway's band
abbrev pub limit_added : List ℕ → Limit → Written
limit_added gateway limit = record {
  InRange = Unit {0};
  May = λ r. IsNew (is_limit gateway (band_number limit.band)) r.limits;
  after = λ r. record r { limits = r.limits ++ limit_row gateway limit ∷ [] };
}

-- ---- rows that are changed

-- the device with this DevEUI gets this owner
abbrev pub device_moved : ℕ → List ℕ → Written
device_moved dev_eui owner = record {
  InRange = Unit {0};
  May = λ r. IsThere (is_device dev_eui) r.devices;
  after = λ r. record r { devices = update_where (is_device dev_eui) (moved owner) r.devices };
}

-- the device's floor becomes this session
abbrev pub floor_changed : ℕ → ℕ → Written
floor_changed dev_eui session = record {
  InRange = Unit {0};
  May = λ r. IsThere (is_device dev_eui) r.devices;
  after = λ r. record r { devices = update_where (is_device dev_eui) (floor_set session) r.devices };
}

-- the session with this number gets this next downlink counter
abbrev pub next_down_changed : ℕ → ℕ → Written
next_down_changed session next_down = record {
  InRange = Unit {0};
  May = λ r. (row : SessionRow) × (item_at r.sessions session ≡ Some row);
  after = λ r. record r { sessions = item_changed (next_down_set next_down) r.sessions session };
}

-- the booking with this number becomes sent, or else dropped
abbrev pub booking_ended : ℕ → Bool → Written
booking_ended number sent = record {
  InRange = Unit {0};
  May = λ r. (row : BookingRow) × (item_at r.bookings number ≡ Some row);
  after = λ r. record r { bookings = item_changed (ended_row sent) r.bookings number };
}

-- the gateway's band gets this limit
abbrev pub limit_changed : List ℕ → Limit → Written
limit_changed gateway limit = record {
  InRange = Unit {0};
  May = λ r. IsThere (is_limit gateway (band_number limit.band)) r.limits;
  after = λ r. record r { limits = update_where (is_limit gateway (band_number limit.band)) (limited limit.most) r.limits };
}
