-- Rows in order of their names, their DevEUIs or their starts, and the registry's lists that they are: all senders, owners, gateways and
-- devices, the gateways of an uplink's receptions, a device's uplinks and a gateway's bookings in a range of time.
use Rattle.std.specs.Prelude.{ℕ, ℤ, pos, ◌==◌, Bool, true, List, map}
use Rattle.std.specs.declared.cmp.Ordering.{Ordering}
use Rattle.std.specs.declared.cmp.Ordering.TheVariants.{Equal}
use Rattle.std.specs.Cmp.Lexicographic.{slice_cmp}
use Rattle.std.specs.List.{AllByRecursion}
use Rattle.std.specs.Ordering.{int_cmp, nat_cmp, ordering_then}
use Rattle.registry_core.specs.Listing.{AreBookingsFrom, AreDevices, AreNames, AreUplinksFrom, has_device, has_reception, has_sender, is_booking_from, uplink_start}
use Rattle.registry_core.specs.Ranges.{IsEui}
use Rattle.registry_core.specs.Settings.{Settings}
use Rattle.registry_core.specs.State.{State}
use Rattle.desk_rows.specs.Rows.{Rows, BookingRow, ReceptionRow, DeviceRow, SenderRow}
use Rattle.desk_rows.specs.order.Arranged.{booking_span, by_eui, by_start, is_uplink_between, numbers_by}
use Rattle.desk_rows.specs.order.LookUps.{rows_by}
use Rattle.desk_rows.specs.order.RowsOf.{AreRowsOf}

-- ---- rows in order

-- by a key, then by number
abbrev pub by_key : {X K : Type 0} → (K → K → Ordering) → (X → K) → ℕ × X → ℕ × X → Ordering
by_key cmp key a b = ordering_then (cmp (key a.1) (key b.1)) (ordering_then (int_cmp (pos a.0) (pos b.0)) Equal)

-- by the octets of a name, then by number
abbrev pub by_name : {X : Type 0} → (X → List ℕ) → ℕ × X → ℕ × X → Ordering
by_name name = by_key (slice_cmp nat_cmp) name

-- what each row that passes the test shows, in this order
abbrev pub listed : {X Y : Type 0} → (X → Y) → (ℕ × X → ℕ × X → Ordering) → (X → Bool) → List X → List Y
listed show order test rows = map (λ row. show row.1) (rows_by order test rows)

abbrev pub senders_listed : List SenderRow → List (List ℕ)
senders_listed senders = listed (λ (s : SenderRow). s.name) (by_name (λ (s : SenderRow). s.name)) (λ s. true) senders

abbrev pub names_listed : List (List ℕ) → List (List ℕ)
names_listed names = listed (λ name. name) (by_name (λ name. name)) (λ name. true) names

abbrev pub devices_listed : List DeviceRow → List ℕ
devices_listed devices = listed (λ (d : DeviceRow). d.dev_eui) by_eui (λ d. true) devices

-- a reception of the uplink with this number
abbrev pub is_reception_of : ℕ → ReceptionRow → Bool
is_reception_of uplink c = c.uplink == uplink

-- the gateways of the uplink's receptions
abbrev pub gateways_listed : ℕ → List ReceptionRow → List (List ℕ)
gateways_listed uplink receptions = listed (λ (c : ReceptionRow). c.gateway) (by_name (λ (c : ReceptionRow). c.gateway)) (is_reception_of uplink) receptions

-- the numbers of the device's uplinks that start at `from` or later and before `to`
abbrev pub uplinks_listed : ℕ → ℤ → ℤ → Rows → List ℕ
uplinks_listed dev_eui from to r = numbers_by (by_start uplink_start) (is_uplink_between r.sessions dev_eui from to) r.uplinks

-- the numbers of the gateway's bookings that start at `from` or later and before `to`, dropped ones too
abbrev pub bookings_listed : List ℕ → ℤ → ℤ → Rows → List ℕ
bookings_listed gateway from to r =
    numbers_by (by_start (λ (b : BookingRow). (booking_span b).start)) (λ b. is_booking_from gateway from to b.booking) r.bookings

-- ---- laws

-- In order the names of rows are those of the facts, each once, and so are the DevEUIs, the gateways of an uplink's receptions, and the
-- numbers of uplinks and of bookings in a range of time.
pub record AreListed (facts : State) (r : Rows) : Type 0 where
  pub senders : AreNames (has_sender facts) (senders_listed r.senders)
  pub owners : AreNames facts.owners (names_listed r.owners)
  pub gateways : AreNames facts.gateways (names_listed r.gateways)
  pub devices : AllByRecursion (λ (d : DeviceRow). IsEui d.dev_eui) r.devices → AreDevices (has_device facts) (devices_listed r.devices)
  pub receptions : (uplink : ℕ) → AreNames (has_reception facts uplink) (gateways_listed uplink r.receptions)
  pub uplinks : (dev_eui : ℕ) (from to : ℤ) → AreUplinksFrom facts dev_eui from to (uplinks_listed dev_eui from to r)
  pub bookings : (gateway : List ℕ) (from to : ℤ) → AreBookingsFrom facts gateway from to (bookings_listed gateway from to r)

abbrev pub ListedRowsTell : Type 0
ListedRowsTell = (c : Settings) (facts : State) (r : Rows) → AreRowsOf c facts r → AreListed facts r
