-- Rows in an order, and the registry's lists that they are: bookings and uplinks by start, an owner's devices by DevEUI.
use Rattle.std.specs.Prelude.{◌≡◌, ℕ, ◌<◌, ◌≤◌, ◌&&◌, ℤ, pos, int_le, int_lt, Bool, true, false, List, map, Option, bytes_eq}
use Rattle.std.specs.declared.cmp.Ordering.{Ordering}
use Rattle.std.specs.declared.cmp.Ordering.TheVariants.{Equal}
use Rattle.std.specs.List.{AllByRecursion}
use Rattle.std.specs.Option.{option_map_or}
use Rattle.std.specs.Cmp.Lexicographic.{slice_cmp}
use Rattle.std.specs.Int.{to_be_bytes, w64}
use Rattle.std.specs.Ordering.{int_cmp, is_gt, nat_cmp, ordering_then}
use Rattle.radio_core.specs.declared.bands.Band.{Band}
use Rattle.duty_core.specs.InOrder.{IsByStart}
use Rattle.duty_core.specs.Use.{Interval}
use Rattle.registry_core.specs.declared.facts.Uplink.{Uplink}
use Rattle.registry_core.specs.declared.views.NearBooking.{NearBooking}
use Rattle.registry_core.specs.Bookings.{downlinks_in, stands_in}
use Rattle.registry_core.specs.Near.{AreByStart, bookings_near, near_shown, stands_near}
use Rattle.registry_core.specs.Numbered.{item_at}
use Rattle.registry_core.specs.Ranges.{IsEui}
use Rattle.registry_core.specs.Reports.{IsNextDevice, in_band, interval_of, is_after, is_in_band, uplinks_from}
use Rattle.registry_core.specs.Settings.{Settings}
use Rattle.registry_core.specs.State.{State}
use Rattle.desk_rows.specs.Rows.{Rows, BookingRow, DeviceRow, SessionRow}
use Rattle.desk_rows.specs.order.LookUps.{Falls, first_by, is_row_of_device, rows_by}
use Rattle.desk_rows.specs.order.RowsOf.{AreRowsOf}

-- ---- by start, then by number

-- in this order starts rise, and of equal starts the one with the lower number comes first
abbrev pub PutsByStart : {X : Type 0} → (X → ℤ) → (ℕ × X → ℕ × X → Ordering) → Type 0
PutsByStart {X} start order = (a b : ℕ × X) → a.0 < b.0 → is_gt (order a b) ≡ int_lt (start b.1) (start a.1)

-- the times on air of the rows that pass the test, in this order
abbrev pub spans_by : {X : Type 0} → (X → Interval) → (ℕ × X → ℕ × X → Ordering) → (X → Bool) → List X → List Interval
spans_by span order test rows = map (λ row. span row.1) (rows_by order test rows)

-- the numbers of the rows that pass the test, in this order
abbrev pub numbers_by : {X : Type 0} → (ℕ × X → ℕ × X → Ordering) → (X → Bool) → List X → List ℕ
numbers_by order test rows = map (λ row. row.0) (rows_by order test rows)

abbrev pub booking_span : BookingRow → Interval
booking_span b = b.booking.span

-- the bands and times on air of the bookings that pass the test, in this order
abbrev pub near_by : (ℕ × BookingRow → ℕ × BookingRow → Ordering) → (BookingRow → Bool) → List BookingRow → List NearBooking
near_by order test rows = map (λ row. near_shown row.1.booking) (rows_by order test rows)

-- the booking is the gateway's and is near the start
abbrev pub is_near_at : List ℕ → ℤ → BookingRow → Bool
is_near_at gateway start b = stands_near gateway start b.booking

-- the uplink is one of the device's, and starts at `from` or later and before `to`
abbrev pub is_uplink_between : List SessionRow → ℕ → ℤ → ℤ → Uplink → Bool
is_uplink_between sessions dev_eui from to u =
    option_map_or (is_row_of_device dev_eui) (item_at sessions u.session) false && int_le from (pos u.start) && int_lt (pos u.start) to

-- the same, and it is booked in the band
abbrev pub is_uplink_of : List SessionRow → ℕ → Band → ℤ → ℤ → Uplink → Bool
is_uplink_of sessions dev_eui band from to u = is_uplink_between sessions dev_eui from to u && is_in_band band u

-- ---- by DevEUI

-- in this order the DevEUIs of 64 bits rise: a later one is not lower than an earlier one
pub record RisesByEui (order : ℕ × DeviceRow → ℕ × DeviceRow → Ordering) : Type 0 where
  pub after : (a b : ℕ × DeviceRow) → IsEui a.1.dev_eui → IsEui b.1.dev_eui → is_gt (order a b) ≡ true → b.1.dev_eui ≤ a.1.dev_eui
  pub before : (a b : ℕ × DeviceRow) → IsEui a.1.dev_eui → IsEui b.1.dev_eui → is_gt (order a b) ≡ false → a.1.dev_eui ≤ b.1.dev_eui

-- the device is the owner's, and above `after` if that is given
abbrev pub is_next_of : List ℕ → Option ℕ → DeviceRow → Bool
is_next_of owner after d = bytes_eq d.device.owner owner && is_after after d.dev_eui

-- ---- laws

-- in such orders the rows are the registry's lists
pub record ListsTell (facts : State) (r : Rows) : Type 0 where
  pub near : (gateway : List ℕ) (start : ℤ) (order : ℕ × BookingRow → ℕ × BookingRow → Ordering) → PutsByStart (λ b. (booking_span b).start) order
      → AreByStart (bookings_near facts.bookings gateway start) (near_by order (is_near_at gateway start) r.bookings)
  pub bookings : (gateway : List ℕ) (band : Band) (order : ℕ × BookingRow → ℕ × BookingRow → Ordering) → PutsByStart (λ b. (booking_span b).start) order
      → IsByStart (downlinks_in facts.bookings gateway band) (spans_by booking_span order (λ b. stands_in gateway band b.booking) r.bookings)
  pub uplinks : (dev_eui : ℕ) (band : Band) (from to : ℤ) (order : ℕ × Uplink → ℕ × Uplink → Ordering) → PutsByStart (λ u. (interval_of u).start) order
      → IsByStart (in_band band (uplinks_from facts.uplinks facts.sessions dev_eui from to))
      (spans_by interval_of order (is_uplink_of r.sessions dev_eui band from to) r.uplinks)
  pub next_device : (owner : List ℕ) (after : Option ℕ) (order : ℕ × DeviceRow → ℕ × DeviceRow → Ordering) → RisesByEui order
      → AllByRecursion (λ d. IsEui d.dev_eui) r.devices
      → IsNextDevice facts owner after (first_by (λ d. d.dev_eui) order (is_next_of owner after) r.devices)

abbrev pub ArrangedRowsTell : Type 0
ArrangedRowsTell = (c : Settings) (facts : State) (r : Rows) → AreRowsOf c facts r → ListsTell facts r

-- ---- orders by columns

-- by start, then by number
abbrev pub by_start : {X : Type 0} → (X → ℤ) → ℕ × X → ℕ × X → Ordering
by_start start a b = ordering_then (int_cmp (start a.1) (start b.1)) (ordering_then (int_cmp (pos a.0) (pos b.0)) Equal)

-- by DevEUI, octet by octet, then by number
abbrev pub by_eui : ℕ × DeviceRow → ℕ × DeviceRow → Ordering
by_eui a b = ordering_then (slice_cmp nat_cmp (to_be_bytes w64 a.1.dev_eui) (to_be_bytes w64 b.1.dev_eui)) (ordering_then (int_cmp (pos a.0) (pos b.0)) Equal)

-- in an order by the falling key, and then by anything, keys fall
abbrev pub FallsFirst : {A : Type 0} → (A → ℕ) → Type 0
FallsFirst {A} key = (rest : A → A → Ordering) → Falls key (λ a b. ordering_then (int_cmp (pos (key b)) (pos (key a))) (rest a b))

-- orders by columns are such orders
pub record OrdersHold : Type 0 where
  pub bookings : PutsByStart (λ (b : BookingRow). (booking_span b).start) (by_start (λ (b : BookingRow). (booking_span b).start))
  pub uplinks : PutsByStart (λ (u : Uplink). (interval_of u).start) (by_start (λ (u : Uplink). (interval_of u).start))
  pub devices : RisesByEui by_eui
  pub nonces : FallsFirst (λ (s : ℕ × SessionRow). s.1.session.nonce)
  pub counters : FallsFirst (λ (u : ℕ × Uplink). u.1.counter)
  pub session_numbers : FallsFirst (λ (s : ℕ × SessionRow). s.0)
  pub uplink_numbers : FallsFirst (λ (u : ℕ × Uplink). u.0)
  pub booking_numbers : FallsFirst (λ (b : ℕ × BookingRow). b.0)
