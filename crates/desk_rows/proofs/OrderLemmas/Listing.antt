-- Rows in order of their names, their DevEUIs or their starts are the registry's lists: they rise strictly, and have what the facts have.
use Rattle.std.proofs.Common.{◌≡◌, ℕ, zero, suc, ◌+◌, ◌<◌, ◌≤◌, ◌==◌, ◌&&◌, Bool, true, false, cond, true≢false, eqb-true, List, [], ◌∷◌, map, filter, refl, sym, ap, subst, map-id, ◌∙◌, arith, Ordering, Less, Equal, Greater}
use Rattle.std.specs.Prelude.{bytes_eq, nat_eq}
use Rattle.std.specs.Cmp.Lexicographic.{slice_cmp}
use Rattle.std.specs.List.{AllByRecursion, IsDistinct, list_any}
use Rattle.std.specs.List.Sorted.{IsStrictlyIncreasing}
use Rattle.std.specs.Ordering.{is_eq, is_gt, nat_cmp, ordering_reverse, ordering_then}
use Rattle.std.proofs.lemmas.Bool.{eq-eqb}
use Rattle.std.proofs.lemmas.Cmp.{nat_list_cmp_total}
use Rattle.std.proofs.lemmas.Map.Text.{is_eq-slice_cmp}
use Rattle.registry_core.specs.Listing.{AreNames, AreNumbersByStart, booking_start, is_booking_from, uplink_start}
use Rattle.registry_core.specs.Ranges.{IsEui}
use Rattle.sqlite_keyed.proofs.SliceLemmas.{any_is_found}
use Rattle.desk_rows.specs.Rows.{BookingRow, DeviceRow, ReceptionRow, SenderRow, is_device, is_reception, is_sender_named}
use Rattle.desk_rows.specs.order.Arranged.{booking_span, by_eui, is_uplink_between}
use Rattle.desk_rows.specs.order.Listed.{AreListed, ListedRowsTell, by_name, is_reception_of, listed, uplinks_listed}
use Rattle.desk_rows.specs.order.LookUps.{rows_by, zip_from}
use Rattle.desk_rows.specs.order.RowsOf.{reception_key, same_reception}
use Rattle.desk_rows.proofs.Ordered.{every, some_map, zip_all}
use Rattle.desk_rows.proofs.OrderLemmas.Arranging.{between_rows}
use Rattle.desk_rows.proofs.OrderLemmas.Each.{EachTwo, all_kept, all_map, all_passing, all_shown, all_so}
use Rattle.desk_rows.proofs.OrderLemmas.Euis.{rises_by_eui}
use Rattle.desk_rows.proofs.OrderLemmas.Looking.{zipped_shown}
use Rattle.desk_rows.proofs.OrderLemmas.NumbersByStart.{items_by_start, numbers_by_start}
use Rattle.desk_rows.proofs.OrderLemmas.Rising.{all_pass, any_listed, rises_sorted, strictly}

-- ---- rows whose keys differ

module _ {X K : Type 0} (key : X → K) (same : K → K → Bool) (order : ℕ × X → ℕ × X → Ordering) (P : ℕ × X → Type 0) (Below : ℕ × X → ℕ × X → Type 0)
    (after : (a b : ℕ × X) → P a → P b → same (key a.1) (key b.1) ≡ false → is_gt (order a b) ≡ true → Below b a)
    (before : (a b : ℕ × X) → P a → P b → same (key a.1) (key b.1) ≡ false → is_gt (order a b) ≡ false → Below a b)
    (chain : (a b c : ℕ × X) → Below a b → Below b c → Below a c) where
  abbrev Apart : ℕ × X → ℕ × X → Type 0
  Apart a b = same (key a.1) (key b.1) ≡ false

  apart_zipped : (test : X → Bool) (n : ℕ) (xs : List X) → IsDistinct same (map key (filter test xs)) → EachTwo Apart (filter (λ b. test b.1) (zip_from n xs))
  unfolding IsDistinct
  apart_zipped test n [] distinct = tt
  apart_zipped test n (x ∷ xs) distinct = by (test x) (filter (λ b. test b.1) (zip_from (n + 1) xs)) (zipped_shown key test (n + 1) xs) distinct
      (apart_zipped test (n + 1) xs)
    where
      by : (b : Bool) (rows : List (ℕ × X)) → map (λ a. key a.1) rows ≡ map key (filter test xs)
          → IsDistinct same (map key (cond b (x ∷ filter test xs) (filter test xs))) → (IsDistinct same (map key (filter test xs)) → EachTwo Apart rows)
          → EachTwo Apart (cond b ((n, x) ∷ rows) rows)
      by true rows are distinct rest = (
        all_shown (λ (a : ℕ × X). key a.1) (λ k. same (key x) k ≡ false) rows (subst (AllByRecursion (λ k. same (key x) k ≡ false)) (sym are) distinct.0),
        rest distinct.1,
      )
      by false rows are distinct rest = rest distinct

  rises_listed : (test : X → Bool) (xs : List X) → IsDistinct same (map key (filter test xs)) → AllByRecursion P (zip_from 1 xs) → EachTwo Below (rows_by order test xs)
  rises_listed test xs distinct each = rises_sorted order P Apart Below after before chain (filter (λ b. test b.1) (zip_from 1 xs))
      (all_passing P (λ b. test b.1) (zip_from 1 xs) each) (apart_zipped test 1 xs distinct)

-- ---- names

greater : (o rest : Ordering) → is_eq o ≡ false → is_gt (ordering_then o rest) ≡ true → o ≡ Greater
greater Less rest apart gt = absurd (true≢false (sym gt))
greater Equal rest apart gt = absurd (true≢false apart)
greater Greater rest apart gt = refl

less : (o rest : Ordering) → is_eq o ≡ false → is_gt (ordering_then o rest) ≡ false → o ≡ Less
less Less rest apart gt = refl
less Equal rest apart gt = absurd (true≢false apart)
less Greater rest apart gt = absurd (true≢false gt)

module _ {X : Type 0} (name : X → List ℕ) where
  abbrev compared : ℕ × X → ℕ × X → Ordering
  compared a b = slice_cmp nat_cmp (name a.1) (name b.1)

  abbrev BelowName : ℕ × X → ℕ × X → Type 0
  BelowName a b = compared a b ≡ Less

  name_after : (a b : ℕ × X) → Unit {0} → Unit {0} → bytes_eq (name a.1) (name b.1) ≡ false → is_gt (by_name name a b) ≡ true → BelowName b a
  name_after a b own other apart gt =
      nat_list_cmp_total.antisymm (name b.1) (name a.1)
      ∙ ap ordering_reverse (greater (compared a b) _ (is_eq-slice_cmp (name a.1) (name b.1) ∙ apart) gt)

  name_before : (a b : ℕ × X) → Unit {0} → Unit {0} → bytes_eq (name a.1) (name b.1) ≡ false → is_gt (by_name name a b) ≡ false → BelowName a b
  name_before a b own other apart gt = less (compared a b) _ (is_eq-slice_cmp (name a.1) (name b.1) ∙ apart) gt

  name_chain : (a b c : ℕ × X) → BelowName a b → BelowName b c → BelowName a c
  name_chain a b c = nat_list_cmp_total.trans (name a.1) (name b.1) (name c.1)

  -- the names of rows that differ, if the facts have the names that some row has
  names_passing : (test : X → Bool) (xs : List X) (has : List ℕ → Bool) → IsDistinct bytes_eq (map name (filter test xs))
      → ((text : List ℕ) → list_any (λ x. test x && bytes_eq (name x) text) xs ≡ has text) → AreNames has (listed name (by_name name) test xs)
  names_passing test xs has distinct each = record {
    rising = strictly (slice_cmp nat_cmp) (λ (a : ℕ × X). name a.1) (rows_by (by_name name) test xs)
        (rises_listed name bytes_eq (by_name name) (λ b. Unit {0}) BelowName name_after name_before name_chain test xs distinct (every (zip_from 1 xs)));
    each = λ text. any_listed name (by_name name) test (λ other. bytes_eq other text) xs ∙ each text;
  }

  -- of all rows
  names_of : (xs : List X) (has : List ℕ → Bool) → IsDistinct bytes_eq (map name xs) → ((text : List ℕ) → list_any (λ x. bytes_eq (name x) text) xs ≡ has text)
      → AreNames has (listed name (by_name name) (λ x. true) xs)
  names_of xs has distinct each = names_passing (λ x. true) xs has (subst (λ ys. IsDistinct bytes_eq (map name ys)) (sym (all_pass xs)) distinct) each

-- ---- the gateways of an uplink's receptions

of_one_uplink : (n a b : ℕ) (t : Bool) → (a == n) ≡ true → (b == n) ≡ true → (a == b && t) ≡ false → t ≡ false
of_one_uplink n a b t is of apart = sym (ap (λ s. s && t) (eq-eqb a b (eqb-true a n is ∙ sym (eqb-true b n of)))) ∙ apart

gateways_apart : (n : ℕ) (receptions : List ReceptionRow) → IsDistinct same_reception (map reception_key receptions)
    → IsDistinct bytes_eq (map (λ (c : ReceptionRow). c.gateway) (filter (is_reception_of n) receptions))
unfolding IsDistinct
gateways_apart n [] apart = tt
gateways_apart n (c ∷ receptions) apart = by (is_reception_of n c) refl (gateways_apart n receptions apart.1)
  where
    by : (b : Bool) → is_reception_of n c ≡ b → IsDistinct bytes_eq (map (λ (c : ReceptionRow). c.gateway) (filter (is_reception_of n) receptions))
        → IsDistinct bytes_eq (map (λ (c : ReceptionRow). c.gateway) (cond b (c ∷ filter (is_reception_of n) receptions) (filter (is_reception_of n) receptions)))
    by true is rest = (
      all_map (λ (d : ReceptionRow). bytes_eq c.gateway d.gateway ≡ false) (λ name. bytes_eq c.gateway name ≡ false) (λ (d : ReceptionRow). d.gateway) (λ d no. no)
          (filter (is_reception_of n) receptions)
          (all_kept (λ (d : ReceptionRow). bytes_eq c.gateway d.gateway ≡ false) (is_reception_of n) receptions
          (all_so (λ d. same_reception (reception_key c) (reception_key d) ≡ false) (λ d. is_reception_of n d ≡ true → bytes_eq c.gateway d.gateway ≡ false)
          (λ d apart of. of_one_uplink n c.uplink d.uplink (bytes_eq c.gateway d.gateway) is of apart) receptions
          (all_shown reception_key (λ key. same_reception (reception_key c) key ≡ false) receptions apart.0))),
      rest,
    )
    by false is rest = rest

-- ---- DevEUIs

abbrev eui_of : ℕ × DeviceRow → ℕ
eui_of a = a.1.dev_eui

abbrev HasEui : ℕ × DeviceRow → Type 0
HasEui a = IsEui (eui_of a)

abbrev BelowEui : ℕ × DeviceRow → ℕ × DeviceRow → Type 0
BelowEui a b = eui_of a < eui_of b

not_same : (m n : ℕ) → nat_eq m n ≡ false → m ≡ n → ⊥
not_same m n apart same = true≢false (sym (eq-eqb m n same) ∙ apart)

eui_after : (a b : ℕ × DeviceRow) → HasEui a → HasEui b → nat_eq (eui_of a) (eui_of b) ≡ false → is_gt (by_eui a b) ≡ true → BelowEui b a
eui_after a b own other apart gt =
    let most : eui_of b ≤ eui_of a = rises_by_eui.after a b own other gt in
    omega (arith, most, not_same (eui_of a) (eui_of b) apart)

eui_before : (a b : ℕ × DeviceRow) → HasEui a → HasEui b → nat_eq (eui_of a) (eui_of b) ≡ false → is_gt (by_eui a b) ≡ false → BelowEui a b
eui_before a b own other apart gt =
    let most : eui_of a ≤ eui_of b = rises_by_eui.before a b own other gt in
    omega (arith, most, not_same (eui_of a) (eui_of b) apart)

eui_chain : (a b c : ℕ × DeviceRow) → BelowEui a b → BelowEui b c → BelowEui a c
eui_chain a b c low high = omega (arith, low, high)

increasing : (rows : List (ℕ × DeviceRow)) → EachTwo BelowEui rows → IsStrictlyIncreasing (map eui_of rows)
increasing [] up k within = absurd (omega arith)
increasing (a ∷ []) up k within = absurd (omega arith)
increasing (a ∷ b ∷ bs) up zero within = up.0.0
increasing (a ∷ b ∷ bs) up (suc k) within =
    let place : suc k + 1 ≡ suc (k + 1) = omega arith in
    rw place (increasing (b ∷ bs) up.1 k (omega arith))

-- ---- all

pub listed_rows_tell : ListedRowsTell
listed_rows_tell c facts r are = subst (λ s. AreListed s r) (sym are.is) (record {
  senders = names_of (λ (s : SenderRow). s.name) r.senders _ are.keyed.senders
      (λ name. any_is_found (is_sender_named name) r.senders ∙ sym (some_map (λ (s : SenderRow). s.role) _));
  owners = names_of (λ name. name) r.owners _ (subst (IsDistinct bytes_eq) (sym (map-id r.owners)) are.keyed.owners) (λ name. refl);
  gateways = names_of (λ name. name) r.gateways _ (subst (IsDistinct bytes_eq) (sym (map-id r.gateways)) are.keyed.gateways) (λ name. refl);
  devices = λ euis. record {
    rising = increasing (rows_by by_eui (λ d. true) r.devices)
        (rises_listed (λ (d : DeviceRow). d.dev_eui) nat_eq by_eui HasEui BelowEui eui_after eui_before eui_chain (λ d. true) r.devices
        (subst (λ ds. IsDistinct nat_eq (map (λ (d : DeviceRow). d.dev_eui) ds)) (sym (all_pass r.devices)) are.keyed.devices)
        (zip_all (λ (d : DeviceRow). IsEui d.dev_eui) 1 r.devices euis));
    each = λ dev_eui. any_listed (λ (d : DeviceRow). d.dev_eui) by_eui (λ d. true) (λ other. other == dev_eui) r.devices
        ∙ any_is_found (is_device dev_eui) r.devices ∙ sym (some_map (λ (d : DeviceRow). d.device) _);
  };
  receptions = λ uplink. names_passing (λ (c : ReceptionRow). c.gateway) (is_reception_of uplink) r.receptions _ (gateways_apart uplink r.receptions are.keyed.receptions)
      (λ gateway. any_is_found (is_reception uplink gateway) r.receptions ∙ sym (some_map (λ (c : ReceptionRow). c.reception) _));
  uplinks = λ dev_eui from to. subst (λ test. AreNumbersByStart uplink_start test r.uplinks (uplinks_listed dev_eui from to r))
      (λ i u. between_rows r.sessions dev_eui from to u i) (numbers_by_start uplink_start (is_uplink_between r.sessions dev_eui from to) r.uplinks);
  bookings = λ gateway from to. items_by_start (λ (b : BookingRow). b.booking) booking_start (is_booking_from gateway from to) r.bookings _
      (numbers_by_start (λ (b : BookingRow). (booking_span b).start) (λ b. is_booking_from gateway from to b.booking) r.bookings);
})
