-- Rows in an order are the registry's lists: downlinks near a start, a gateway's downlinks, a device's uplinks, an owner's next device.
use Rattle.std.proofs.Common.{◌≡◌, ℕ, ◌≤◌, ◌&&◌, Bool, true, false, cond, List, [], ◌∷◌, map, filter, find, Option, Some, None, option_map, slice_get, refl, sym, ap, subst, ◌∙◌, arith, Ordering}
use Rattle.std.specs.Prelude.{ℤ, nat_eq, bytes_eq, IsTrue, int_le, int_lt, pos}
use Rattle.std.specs.List.{AllByRecursion, IsDistinct}
use Rattle.std.specs.Option.{option_map_or}
use Rattle.std.specs.Ordering.{is_gt}
use Rattle.std.proofs.lemmas.Bool.{and_from, and_parts, eq-eqb, eqb-true}
use Rattle.radio_core.specs.declared.bands.Band.{Band}
use Rattle.registry_core.specs.declared.facts.Booking.{Booking}
use Rattle.registry_core.specs.declared.facts.Device.{Device}
use Rattle.registry_core.specs.declared.facts.Uplink.{Uplink}
use Rattle.registry_core.specs.Bookings.{stands_in}
use Rattle.registry_core.specs.Derived.{is_of_device, is_session_of}
use Rattle.registry_core.specs.Near.{near_shown, stands_near}
use Rattle.registry_core.specs.Numbered.{item_at}
use Rattle.registry_core.specs.Ranges.{IsEui}
use Rattle.registry_core.specs.Reports.{IsNextDevice, in_band, interval_of, is_after, is_in_band, is_owned, is_uplink_from, uplinks_from}
use Rattle.sqlite_keyed.specs.Lists.{insert_sorted, sort_by}
use Rattle.desk_rows.specs.Rows.{Rows, BookingRow, DeviceRow, SessionRow, is_device}
use Rattle.desk_rows.specs.order.Arranged.{ArrangedRowsTell, ListsTell, RisesByEui, booking_span, is_near_at, is_next_of, is_uplink_between, is_uplink_of}
use Rattle.desk_rows.specs.order.Facts.{facts_in, sessions_in}
use Rattle.desk_rows.specs.order.LookUps.{first_by, is_row_of_device, zip_from}
use Rattle.desk_rows.proofs.OrderLemmas.Counting.{filter_alike, filter_twice}
use Rattle.desk_rows.proofs.OrderLemmas.Each.{all_both, all_found, all_kept, all_map, all_shown, all_so, all_were}
use Rattle.desk_rows.proofs.OrderLemmas.Finding.{found_passes}
use Rattle.desk_rows.proofs.Ordered.{every}
use Rattle.desk_rows.proofs.OrderLemmas.Looking.{filter_shown, zipped_shown}
use Rattle.desk_rows.proofs.OrderLemmas.Numbering.{item_shown}
use Rattle.desk_rows.proofs.OrderLemmas.Sorting.{all_sorted, near_in_order, spans_in_order}

-- ---- in order of start

own_row : (sessions : List SessionRow) (dev_eui n : ℕ)
    → option_map_or (is_row_of_device dev_eui) (item_at sessions n) false ≡ is_of_device (sessions_in sessions) dev_eui n
own_row sessions dev_eui n = sym (item_shown (λ (s : SessionRow). s.session) (is_session_of dev_eui) false sessions n)

-- a device's uplink in a range of time is one by the sessions that the rows represent
pub between_rows : (sessions : List SessionRow) (dev_eui : ℕ) (from to : ℤ) (u : Uplink)
    → is_uplink_between sessions dev_eui from to u ≡ is_uplink_from (sessions_in sessions) dev_eui from to u
between_rows sessions dev_eui from to u = ap (λ own. (own && int_le from (pos u.start)) && int_lt (pos u.start) to) (own_row sessions dev_eui u.session)

uplinks_shown : (sessions : List SessionRow) (uplinks : List Uplink) (dev_eui : ℕ) (band : Band) (from to : ℤ)
    → map interval_of (filter (is_uplink_of sessions dev_eui band from to) uplinks)
    ≡ in_band band (uplinks_from uplinks (sessions_in sessions) dev_eui from to)
uplinks_shown sessions uplinks dev_eui band from to = ap (map interval_of) (
    filter_alike (λ u. Unit {0}) (is_uplink_of sessions dev_eui band from to)
    (λ u. is_uplink_from (sessions_in sessions) dev_eui from to u && is_in_band band u)
    (λ u done. ap (λ passes. passes && is_in_band band u) (between_rows sessions dev_eui from to u)) uplinks
    (every uplinks)
    ∙ sym (filter_twice (is_uplink_from (sessions_in sessions) dev_eui from to) (is_in_band band) uplinks))

-- ---- the first in rising order

module _ (order : ℕ × DeviceRow → ℕ × DeviceRow → Ordering) (rises : RisesByEui order) where
  abbrev eui_of : ℕ × DeviceRow → ℕ
  eui_of a = a.1.dev_eui

  abbrev HasEui : ℕ × DeviceRow → Type 0
  HasEui a = IsEui (eui_of a)

  -- nothing is found of none, and else none has a lower DevEUI
  abbrev IsLeast : List (ℕ × DeviceRow) → Option (ℕ × DeviceRow) → Type 0
  IsLeast rows None = rows ≡ []
  IsLeast rows (Some a) = AllByRecursion (λ b. eui_of a ≤ eui_of b) rows

  least_by : (a z : ℕ × DeviceRow) (rows zs : List (ℕ × DeviceRow)) (t : Bool) → is_gt (order a z) ≡ t → HasEui a → HasEui z
      → AllByRecursion (λ b. eui_of z ≤ eui_of b) rows
      → IsLeast (a ∷ rows) (slice_get (cond t (z ∷ insert_sorted order a zs) (a ∷ z ∷ zs)) 0)
  least_by a z rows zs true is own other each = (rises.after a z own other is, each)
  least_by a z rows zs false is own other each =
      let low : eui_of a ≤ eui_of z = rises.before a z own other is in
      (omega arith, all_so (λ b. eui_of z ≤ eui_of b) (λ b. eui_of a ≤ eui_of b) (λ b above. omega arith) rows each)

  least_inserted : (a : ℕ × DeviceRow) (rows sorted : List (ℕ × DeviceRow)) → HasEui a → AllByRecursion HasEui sorted → IsLeast rows (slice_get sorted 0)
      → IsLeast (a ∷ rows) (slice_get (insert_sorted order a sorted) 0)
  least_inserted a rows [] own others none = (omega arith, subst (AllByRecursion (λ b. eui_of a ≤ eui_of b)) (sym none) tt)
  least_inserted a rows (z ∷ zs) own others each = least_by a z rows zs (is_gt (order a z)) refl own others.0 each

  least_first : (rows : List (ℕ × DeviceRow)) → AllByRecursion HasEui rows → IsLeast rows (slice_get (sort_by order rows) 0)
  least_first [] each = refl
  least_first (a ∷ rows) each = least_inserted a rows (sort_by order rows) each.0 (all_sorted order HasEui rows each.1) (least_first rows each.1)

-- what is true of each row is true of each with its number
module _ {X : Type 0} (P : X → Type 0) (test : X → Bool) (xs : List X) where
  abbrev beside : List (ℕ × X)
  beside = filter (λ a. test a.1) (zip_from 1 xs)

  all_beside : AllByRecursion P (filter test xs) → AllByRecursion (λ (a : ℕ × X). P a.1) beside
  all_beside each = all_shown (λ (a : ℕ × X). a.1) P beside
      (subst (AllByRecursion P) (sym (zipped_shown (λ x. x) test 1 xs)) (all_map P P (λ x. x) (λ x is. is) (filter test xs) each))

  all_alone : AllByRecursion (λ (a : ℕ × X). P a.1) beside → AllByRecursion P (filter test xs)
  all_alone each = all_shown (λ x. x) P (filter test xs)
      (subst (AllByRecursion P) (zipped_shown (λ x. x) test 1 xs) (all_map (λ (a : ℕ × X). P a.1) P (λ (a : ℕ × X). a.1) (λ a is. is) beside each))

first_all : {X : Type 0} (P : X → Type 0) (xs : List X) (x : X) → slice_get xs 0 ≡ Some x → AllByRecursion P xs → P x
first_all P [] x is each = let no : None ≡ Some x = is in cc
first_all P (y ∷ ys) x is each = let same : y ≡ x = cc in subst P same each.0

-- ---- devices

-- each device is found by its DevEUI
each_found : (devices : List DeviceRow) → IsDistinct nat_eq (map (λ (d : DeviceRow). d.dev_eui) devices)
    → AllByRecursion (λ (d : DeviceRow). find (is_device d.dev_eui) devices ≡ Some d) devices
unfolding IsDistinct
each_found [] apart = tt
each_found (e ∷ ds) apart = (
  ap (λ b. cond b (Some e) (find (is_device e.dev_eui) ds)) (eq-eqb e.dev_eui e.dev_eui refl),
  all_so (λ (d : DeviceRow). (nat_eq e.dev_eui d.dev_eui ≡ false) × (find (is_device d.dev_eui) ds ≡ Some d))
      (λ (d : DeviceRow). find (is_device d.dev_eui) (e ∷ ds) ≡ Some d)
      (λ d is. ap (λ b. cond b (Some e) (find (is_device d.dev_eui) ds)) is.0 ∙ is.1) ds
      (all_both (λ (d : DeviceRow). nat_eq e.dev_eui d.dev_eui ≡ false) (λ (d : DeviceRow). find (is_device d.dev_eui) ds ≡ Some d) ds
      (all_shown (λ (d : DeviceRow). d.dev_eui) (λ m. nat_eq e.dev_eui m ≡ false) ds apart.0) (each_found ds apart.1)),
)

module _ (r : Rows) (apart : IsDistinct nat_eq (map (λ (d : DeviceRow). d.dev_eui) r.devices)) (owner : List ℕ) (after : Option ℕ) where
  -- what the facts have of a device that is found
  owned_found : (dev_eui : ℕ) (found : Option DeviceRow) → find (is_device dev_eui) r.devices ≡ found
      → is_owned (facts_in r) owner dev_eui ≡ option_map_or (λ (d : DeviceRow). bytes_eq d.device.owner owner) found false
  owned_found dev_eui None is =
      ap (λ found. option_map_or (λ (device : Device). bytes_eq device.owner owner) (option_map (λ (d : DeviceRow). d.device) found) false) is
  owned_found dev_eui (Some d) is =
      ap (λ found. option_map_or (λ (device : Device). bytes_eq device.owner owner) (option_map (λ (d : DeviceRow). d.device) found) false) is

  abbrev IsWanted : ℕ → Type 0
  IsWanted dev_eui = IsTrue (is_owned (facts_in r) owner dev_eui && is_after after dev_eui)

  each_wanted : AllByRecursion (λ (d : DeviceRow). IsWanted d.dev_eui) (filter (is_next_of owner after) r.devices)
  each_wanted = all_kept (λ (d : DeviceRow). IsWanted d.dev_eui) (is_next_of owner after) r.devices
      (all_so (λ (d : DeviceRow). find (is_device d.dev_eui) r.devices ≡ Some d) (λ (d : DeviceRow). is_next_of owner after d ≡ true → IsWanted d.dev_eui)
      (λ d is passes. ap (λ b. b && is_after after d.dev_eui) (owned_found d.dev_eui (Some d) is) ∙ passes) r.devices (each_found r.devices apart))

  -- a wanted device is one that is asked for
  wanted_by : (dev_eui : ℕ) (found : Option DeviceRow) → find (is_device dev_eui) r.devices ≡ found → IsWanted dev_eui
      → (d : DeviceRow) × (find (is_device dev_eui) r.devices ≡ Some d) × (d.dev_eui ≡ dev_eui) × (is_next_of owner after d ≡ true)
  wanted_by dev_eui None is wanted =
      let no : false ≡ true = sym (owned_found dev_eui None is) ∙ (and_parts (is_owned (facts_in r) owner dev_eui) (is_after after dev_eui) wanted).0 in cc
  wanted_by dev_eui (Some d) is wanted =
      let parts = and_parts (is_owned (facts_in r) owner dev_eui) (is_after after dev_eui) wanted in
      let same : d.dev_eui ≡ dev_eui = eqb-true d.dev_eui dev_eui (found_passes (is_device dev_eui) r.devices d is) in
      (d, is, same, and_from _ _ (sym (owned_found dev_eui (Some d) is) ∙ parts.0) (ap (is_after after) same ∙ parts.1))

  -- what is true of each that is asked for is true of it
  of_wanted : (P : DeviceRow → Type 0) → AllByRecursion P (filter (is_next_of owner after) r.devices) → (dev_eui : ℕ) → IsWanted dev_eui
      → (d : DeviceRow) × (d.dev_eui ≡ dev_eui) × P d
  of_wanted P each dev_eui wanted =
      let d = wanted_by dev_eui (find (is_device dev_eui) r.devices) refl wanted in (
        d.0,
        d.2,
        all_found (λ d. is_next_of owner after d ≡ true
            → P d) (is_device dev_eui) r.devices d.0 d.1 (all_were P (is_next_of owner after) r.devices each) d.3,
      )

  module _ (order : ℕ × DeviceRow → ℕ × DeviceRow
      → Ordering) (rises : RisesByEui order) (euis : AllByRecursion (λ (d : DeviceRow). IsEui d.dev_eui) r.devices) where
    abbrev asked : List (ℕ × DeviceRow)
    asked = filter (λ a. is_next_of owner after a.1) (zip_from 1 r.devices)

    asked_euis : AllByRecursion (HasEui order rises) asked
    asked_euis = all_beside (λ (d : DeviceRow). IsEui d.dev_eui) (is_next_of owner after) r.devices
        (all_kept (λ (d : DeviceRow). IsEui d.dev_eui) (is_next_of owner after) r.devices
        (all_so (λ (d : DeviceRow). IsEui d.dev_eui) (λ d. is_next_of owner after d ≡ true → IsEui d.dev_eui) (λ d is passes. is) r.devices euis))

    owned_by : (found : Option (ℕ × DeviceRow)) → slice_get (sort_by order asked) 0 ≡ found → (dev_eui : ℕ)
        → option_map (λ (a : ℕ × DeviceRow). a.1.dev_eui) found ≡ Some dev_eui → IsWanted dev_eui
    owned_by None is dev_eui next = let no : None ≡ Some dev_eui = next in cc
    owned_by (Some a) is dev_eui next =
        let same : a.1.dev_eui ≡ dev_eui = cc in
        subst IsWanted same (first_all (λ (a : ℕ × DeviceRow). IsWanted a.1.dev_eui) (sort_by order asked) a is
        (all_sorted order (λ (a : ℕ × DeviceRow). IsWanted a.1.dev_eui) asked
        (all_beside (λ (d : DeviceRow). IsWanted d.dev_eui) (is_next_of owner after) r.devices each_wanted)))

    least_of : (found : Option (ℕ × DeviceRow)) → IsLeast order rises asked found → (dev_eui : ℕ) → IsWanted dev_eui
        → (n : ℕ) × (option_map (λ (a : ℕ × DeviceRow). a.1.dev_eui) found ≡ Some n) × (n ≤ dev_eui)
    least_of None none dev_eui wanted =
        absurd (of_wanted (λ d. ⊥) (all_alone (λ d. ⊥) (is_next_of owner after) r.devices (subst (AllByRecursion (λ a. ⊥)) (sym none) tt)) dev_eui wanted).2
    least_of (Some a) each dev_eui wanted =
        let d = of_wanted (λ (d : DeviceRow). a.1.dev_eui ≤ d.dev_eui)
        (all_alone (λ (d : DeviceRow). a.1.dev_eui ≤ d.dev_eui) (is_next_of owner after) r.devices each) dev_eui wanted in
        (a.1.dev_eui, refl, omega (arith, d.1, d.2))

    next_device : IsNextDevice (facts_in r) owner after (first_by (λ (d : DeviceRow). d.dev_eui) order (is_next_of owner after) r.devices)
    next_device = record {
      owned = owned_by (slice_get (sort_by order asked) 0) refl;
      least = least_of (slice_get (sort_by order asked) 0) (least_first order rises asked asked_euis);
    }

-- ---- all

pub arranged_rows_tell : ArrangedRowsTell
arranged_rows_tell c facts r are = subst (λ s. ListsTell s r) (sym are.is) (record {
  near = λ gateway start order puts. near_in_order (λ (b : BookingRow). near_shown b.booking) order puts (is_near_at gateway start) r.bookings _
      (filter_shown (λ (b : BookingRow). b.booking) near_shown (stands_near gateway start) r.bookings);
  bookings = λ gateway band order puts. spans_in_order booking_span order puts (λ b. stands_in gateway band b.booking) r.bookings _
      (filter_shown (λ (b : BookingRow). b.booking) (λ (b : Booking). b.span) (stands_in gateway band) r.bookings);
  uplinks = λ dev_eui band from to order puts. spans_in_order interval_of order puts (is_uplink_of r.sessions dev_eui band from to) r.uplinks _
      (uplinks_shown r.sessions r.uplinks dev_eui band from to);
  next_device = λ owner after order rises euis. next_device r are.keyed.devices owner after order rises euis;
})
