-- The rows of a configuration and of facts: they represent them, each stored counter is right, what a row names is there, and no two rows
-- have one key.
use Rattle.std.specs.Prelude.{◌≡◌, ℕ, ◌+◌, ◌≤◌, ◌==◌, ◌&&◌, Bool, List, map, filter, length, Option, Some, is_some, bytes_eq, nat_eq, IsTrue}
use Rattle.std.specs.List.{AllByRecursion, IsDistinct}
use Rattle.radio_core.specs.Bands.{band_number}
use Rattle.registry_core.specs.declared.facts.Kind.TheVariants.{Join}
use Rattle.registry_core.specs.declared.facts.Session.{Session}
use Rattle.registry_core.specs.declared.facts.Uplink.{Uplink}
use Rattle.registry_core.specs.Bookings.{next_down}
use Rattle.registry_core.specs.Derived.{is_data, is_of_device}
use Rattle.registry_core.specs.Numbered.{item_at, greatest}
use Rattle.registry_core.specs.Settings.{Settings}
use Rattle.registry_core.specs.State.{State}
use Rattle.desk_rows.specs.Rows.{Rows, SenderRow, DeviceRow, SessionRow, ReceptionRow, BookingRow, LimitRow}
use Rattle.desk_rows.specs.order.Facts.{bookings_in, facts_in, sessions_in}

-- ---- stored counters

-- a data uplink of a session of the device
abbrev pub is_data_from : List Session → ℕ → Uplink → Bool
is_data_from sessions dev_eui uplink = is_data uplink.kind && is_of_device sessions dev_eui uplink.session

-- the greatest number of a session of the device that has a data uplink
abbrev pub floor_of : List Uplink → List Session → ℕ → Option ℕ
floor_of uplinks sessions dev_eui = greatest (map (λ u. u.session) (filter (is_data_from sessions dev_eui) uplinks))

-- the uplink that a booking answers is there, and the booking's row has its session and kind
pub record AnswersUplink (uplinks : List Uplink) (b : BookingRow) : Type 0 where
  pub uplink : Uplink
  pub there : item_at uplinks b.booking.uplink ≡ Some uplink
  pub session : b.session ≡ uplink.session
  pub kind : b.kind ≡ uplink.kind

-- a device's floor, a session's next downlink counter, and a booking's session and kind are what the lists give
pub record IsCounted (r : Rows) : Type 0 where
  pub floors : AllByRecursion (λ (d : DeviceRow). d.floor ≡ floor_of r.uplinks (sessions_in r.sessions) d.dev_eui) r.devices
  pub next_downs : (n : ℕ) (s : SessionRow) → item_at r.sessions n ≡ Some s → s.next_down ≡ next_down (bookings_in r.bookings) r.uplinks n
  pub bookings : AllByRecursion (AnswersUplink r.uplinks) r.bookings

-- ---- what rows name

-- the uplink's session is there, and the counter of a join is its session's nonce
pub record IsOfSession (sessions : List Session) (uplink : Uplink) : Type 0 where
  pub session : Session
  pub there : item_at sessions uplink.session ≡ Some session
  pub nonce : uplink.kind ≡ Join → session.nonce ≡ uplink.counter

-- the uplink of a reception is there
abbrev pub IsOfUplink : List Uplink → ReceptionRow → Type 0
IsOfUplink uplinks row = IsTrue (is_some (item_at uplinks row.uplink))

-- the device of each session is there, the session of each uplink, and the uplink of each reception
pub record NamesRows (r : Rows) : Type 0 where
  pub sessions : AllByRecursion (λ (s : Session). IsTrue (is_some ((facts_in r).devices s.device))) (sessions_in r.sessions)
  pub uplinks : AllByRecursion (IsOfSession (sessions_in r.sessions)) r.uplinks
  pub receptions : AllByRecursion (IsOfUplink r.uplinks) r.receptions

-- ---- keys

abbrev pub same_join : Session → Session → Bool
same_join a b = a.device == b.device && a.nonce == b.nonce

-- the number of an uplink and a gateway
abbrev pub reception_key : ReceptionRow → ℕ × List ℕ
reception_key c = (c.uplink, c.gateway)

abbrev pub same_reception : ℕ × List ℕ → ℕ × List ℕ → Bool
same_reception a b = a.0 == b.0 && bytes_eq a.1 b.1

-- a gateway and a band by its number
abbrev pub limit_key : LimitRow → List ℕ × ℕ
limit_key l = (l.gateway, band_number l.limit.band)

abbrev pub same_band : List ℕ × ℕ → List ℕ × ℕ → Bool
same_band a b = bytes_eq a.0 b.0 && a.1 == b.1

-- No two senders, owners or gateways have one name, no two devices one DevEUI, no two sessions one device and one nonce, no two receptions
-- one uplink and one gateway, and no two limits one gateway and one band.
pub record IsKeyed (r : Rows) : Type 0 where
  pub senders : IsDistinct bytes_eq (map (λ (s : SenderRow). s.name) r.senders)
  pub owners : IsDistinct bytes_eq r.owners
  pub gateways : IsDistinct bytes_eq r.gateways
  pub devices : IsDistinct nat_eq (map (λ (d : DeviceRow). d.dev_eui) r.devices)
  pub sessions : IsDistinct same_join (sessions_in r.sessions)
  pub receptions : IsDistinct same_reception (map reception_key r.receptions)
  pub limits : IsDistinct same_band (map limit_key r.limits)

-- ---- how many

-- each message that was heard has added at most one row to a table; the operator's was there before
pub record IsFew (r : Rows) : Type 0 where
  pub senders : length r.senders ≤ length r.replies + 1
  pub owners : length r.owners ≤ length r.replies
  pub gateways : length r.gateways ≤ length r.replies
  pub devices : length r.devices ≤ length r.replies
  pub sessions : length r.sessions ≤ length r.replies
  pub uplinks : length r.uplinks ≤ length r.replies
  pub receptions : length r.receptions ≤ length r.replies
  pub bookings : length r.bookings ≤ length r.replies
  pub limits : length r.limits ≤ length r.replies

-- ---- all of it

-- the rows are those of this configuration and these facts
pub record AreRowsOf (c : Settings) (facts : State) (r : Rows) : Type 0 where
  pub settings : r.settings ≡ c
  pub is : facts ≡ facts_in r
  pub counted : IsCounted r
  pub names : NamesRows r
  pub keyed : IsKeyed r
  pub few : IsFew r
