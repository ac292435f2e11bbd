-- What each effect finds in the rows: the keys that it adds are free, and the rows that it changes are there, each once.
use Rattle.std.specs.Prelude.{◌≡◌, ℕ, ◌+◌, ◌<◌, ◌^◌, ◌&&◌, Bool, true, false, List, [], ◌∷◌, ◌++◌, filter, length, Some, None, is_some, IsTrue}
use Rattle.std.specs.List.{list_any}
use Rattle.radio_core.specs.Bands.{band_number}
use Rattle.registry_core.specs.declared.effects.Effect.{Effect}
use Rattle.registry_core.specs.declared.effects.Effect.TheVariants.{Nothing, AddsSender, AddsOwner, AddsGateway, AddsDevice, MovesDevice, AddsSession, AddsUplink, AddsReception, AddsBooking, EndsBooking, SetsLimit}
use Rattle.registry_core.specs.declared.facts.Booking.{Booking}
use Rattle.registry_core.specs.declared.facts.Kind.TheVariants.{Join, Data}
use Rattle.registry_core.specs.declared.facts.Standing.TheVariants.{Booked}
use Rattle.registry_core.specs.declared.facts.Uplink.{Uplink}
use Rattle.registry_core.specs.Derived.{is_above}
use Rattle.registry_core.specs.Fits.{Fits}
use Rattle.registry_core.specs.Heard.{most_heard}
use Rattle.registry_core.specs.Limits.{Limit}
use Rattle.registry_core.specs.Numbered.{item_at, item_changed}
use Rattle.registry_core.specs.Settings.{Settings}
use Rattle.registry_core.specs.State.{State}
use Rattle.sqlite_keyed.specs.Lists.{update_where}
use Rattle.desk_rows.specs.Rows.{Rows, BookingRow, DeviceRow, SessionRow, is_reception, is_device, is_limit, is_sender_named, is_session, is_uplink}
use Rattle.desk_rows.specs.order.Changes.{booking_row, devices_raised, kind_at, limit_row, limited, limits_set, session_of_uplink, sessions_counted}
use Rattle.desk_rows.specs.order.Facts.{is_name_row, limit_found}
use Rattle.desk_rows.specs.order.RowsOf.{AreRowsOf}

-- ---- rows that are added

-- there is a rowid for one more row
abbrev pub HasRowid : {X : Type 0} → List X → Type 0
HasRowid rows = 1 + length rows < 2 ^ 63

-- and no row has its key
pub record IsFree {X : Type 0} (has_key : X → Bool) (rows : List X) : Type 0 where
  pub key : list_any has_key rows ≡ false
  pub room : HasRowid rows

-- if the gateway's band has no limit, its row can be added
abbrev pub IsFreeForLimit : List ℕ → Limit → Rows → Type 0
IsFreeForLimit gateway limit r = limit_found r.limits gateway (band_number limit.band) ≡ None → IsFree (is_limit gateway (band_number limit.band)) r.limits

-- each row that the effect adds can be added
abbrev pub IsFreeFor : Effect → Rows → Type 0
IsFreeFor Nothing r = Unit {0}
IsFreeFor (AddsSender name role) r = IsFree (is_sender_named name) r.senders
IsFreeFor (AddsOwner name) r = IsFree (is_name_row name) r.owners
IsFreeFor (AddsGateway name) r = IsFree (is_name_row name) r.gateways
IsFreeFor (AddsDevice dev_eui device) r = IsFree (is_device dev_eui) r.devices
IsFreeFor (MovesDevice dev_eui owner) r = Unit {0}
IsFreeFor (AddsSession session uplink gateway reception) r = IsFree (is_session session.device session.nonce) r.sessions
    × IsFree (is_uplink uplink.session uplink.kind uplink.counter) r.uplinks × IsFree (is_reception (length r.uplinks + 1) gateway) r.receptions
IsFreeFor (AddsUplink uplink gateway reception) r =
    IsFree (is_uplink uplink.session uplink.kind uplink.counter) r.uplinks × IsFree (is_reception (length r.uplinks + 1) gateway) r.receptions
IsFreeFor (AddsReception number gateway reception) r = IsFree (is_reception number gateway) r.receptions
IsFreeFor (AddsBooking booking) r = HasRowid r.bookings
IsFreeFor (EndsBooking number sent) r = Unit {0}
IsFreeFor (SetsLimit gateway limit) r = IsFreeForLimit gateway limit r

-- ---- rows that are changed

-- exactly one row passes the test, and changing those that pass is changing the row with this number
pub record HasOnly {X : Type 0} (test : X → Bool) (rows : List X) : Type 0 where
  pub number : ℕ
  pub row : X
  pub there : item_at rows number ≡ Some row
  pub only : filter test rows ≡ row ∷ []
  pub changed : (change : X → X) → update_where test change rows ≡ item_changed change rows number

abbrev pub floor_set : ℕ → DeviceRow → DeviceRow
floor_set number d = record d { floor = Some number }

abbrev pub next_down_set : ℕ → SessionRow → SessionRow
next_down_set n s = record s { next_down = n }

-- The device whose floor an uplink raises is that of its session. The floor is set if the session is above it, and else stays.
pub record RaisesOne (uplink : Uplink) (r : Rows) : Type 0 where
  pub session : SessionRow
  pub there : item_at r.sessions uplink.session ≡ Some session
  pub device : HasOnly (is_device session.session.device) r.devices
  pub sets : is_above uplink.session device.row.floor ≡ true
      → devices_raised r.sessions uplink.session r.devices ≡ item_changed (floor_set uplink.session) r.devices device.number
  pub stays : is_above uplink.session device.row.floor ≡ false → devices_raised r.sessions uplink.session r.devices ≡ r.devices
  -- both at once
  pub at_once : devices_raised r.sessions uplink.session r.devices
      ≡ update_where (λ d. is_device session.session.device d && is_above uplink.session d.floor) (floor_set uplink.session) r.devices

-- The session whose counter a booking raises is that of its uplink. A downlink that answers a join raises none.
pub record CountsOne (booking : Booking) (r : Rows) : Type 0 where
  pub uplink : Uplink
  pub answered : item_at r.uplinks booking.uplink ≡ Some uplink
  pub row : booking_row r.uplinks booking ≡ record { booking = booking; session = uplink.session; kind = uplink.kind }
  pub session : SessionRow
  pub there : item_at r.sessions uplink.session ≡ Some session
  pub counts : uplink.kind ≡ Data → sessions_counted (kind_at r.uplinks booking.uplink) (session_of_uplink r.uplinks booking.uplink) r.sessions
      ≡ item_changed (next_down_set (session.next_down + 1)) r.sessions uplink.session
  pub stays : uplink.kind ≡ Join → sessions_counted (kind_at r.uplinks booking.uplink) (session_of_uplink r.uplinks booking.uplink) r.sessions ≡ r.sessions

-- the booking that ends is neither sent nor dropped
pub record EndsOne (number : ℕ) (r : Rows) : Type 0 where
  pub row : BookingRow
  pub there : item_at r.bookings number ≡ Some row
  pub standing : row.booking.standing ≡ Booked

-- If a gateway's band has no limit, the limit is one more row; else the one row of the band is changed.
pub record SetsOne (gateway : List ℕ) (limit : Limit) (r : Rows) : Type 0 where
  pub adds : limit_found r.limits gateway (band_number limit.band) ≡ None → limits_set gateway limit r.limits ≡ r.limits ++ limit_row gateway limit ∷ []
  pub changes : IsTrue (is_some (limit_found r.limits gateway (band_number limit.band)))
      → HasOnly (is_limit gateway (band_number limit.band)) r.limits
      × (limits_set gateway limit r.limits ≡ update_where (is_limit gateway (band_number limit.band)) (limited limit.most) r.limits)

-- each row that the effect changes is there
abbrev pub IsThereFor : Effect → Rows → Type 0
IsThereFor (MovesDevice dev_eui owner) r = HasOnly (is_device dev_eui) r.devices
IsThereFor (AddsUplink uplink gateway reception) r = RaisesOne uplink r
IsThereFor (AddsBooking booking) r = CountsOne booking r
IsThereFor (EndsBooking number sent) r = EndsOne number r
IsThereFor (SetsLimit gateway limit) r = SetsOne gateway limit r
IsThereFor effect r = Unit {0}

-- ---- laws

-- if an effect fits and there is space for one more message, the keys of the rows that it adds are free
abbrev pub KeysAreFree : Type 0
KeysAreFree = (c : Settings) (facts : State) (r : Rows) (effect : Effect) → AreRowsOf c facts r → Fits effect facts → length r.replies < most_heard
    → IsFreeFor effect r × HasRowid r.replies

-- and the rows that it changes are there
abbrev pub ChangedRowsAreThere : Type 0
ChangedRowsAreThere = (c : Settings) (facts : State) (r : Rows) (effect : Effect) → AreRowsOf c facts r → Fits effect facts → IsThereFor effect r
