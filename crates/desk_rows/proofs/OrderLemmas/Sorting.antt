-- Rows sorted by start and then by number are in order of start.
use Rattle.std.proofs.Common.{◌≡◌, ℕ, zero, suc, ◌+◌, ◌<◌, Bool, true, false, cond, List, [], ◌∷◌, map, filter, refl, sym, ap, subst, ◌∙◌, arith, Ordering}
use Rattle.std.specs.Prelude.{ℤ, int_lt, ◌≤ℤ◌, IsPermutation}
use Rattle.std.specs.List.{AllByRecursion}
use Rattle.std.specs.Ordering.{int_eq, is_gt}
use Rattle.std.proofs.lemmas.Bool.{both_ways}
use Rattle.std.proofs.lemmas.Int.{ints}
use Rattle.std.proofs.lemmas.List.Sorted.{IsPermutation-refl, IsPermutation-cons, IsPermutation-map, IsPermutation-middle, IsPermutation-sym, IsPermutation-trans}
use Rattle.duty_core.specs.InOrder.{IsByStart, StartsAscend}
use Rattle.duty_core.specs.Use.{Interval}
use Rattle.registry_core.specs.declared.views.NearBooking.{NearBooking}
use Rattle.registry_core.specs.Near.{AreByStart}
use Rattle.sqlite_keyed.specs.Lists.{insert_sorted, sort_by}
use Rattle.desk_rows.specs.order.Arranged.{PutsByStart, spans_by}
use Rattle.desk_rows.specs.order.LookUps.{rows_by, zip_from}
use Rattle.desk_rows.proofs.OrderLemmas.Each.{EachTwo, all_so, two_passing}
use Rattle.desk_rows.proofs.OrderLemmas.Looking.{zipped_shown}
use Rattle.desk_rows.proofs.OrderLemmas.Orders.{not_both}

-- ---- of three starts

not_below : (a b c : ℤ) → int_lt a b ≡ false → int_lt c a ≡ false → int_lt c b ≡ false
not_below a b c ab ca = grind (arith, ints)

at_most : (a b : ℤ) → int_lt b a ≡ false → a ≤ℤ b
at_most a b ba = grind (arith, ints)

below_apart : (a b c : ℤ) → int_lt a b ≡ true → int_eq b c ≡ true → int_eq a c ≡ false
below_apart a b c ab bc = grind (arith, ints)

-- ---- what is true of each row, sorted

module _ {X : Type 0} (order : X → X → Ordering) (P : X → Type 0) where
  pub all_inserted : (x : X) (ys : List X) → P x → AllByRecursion P ys → AllByRecursion P (insert_sorted order x ys)
  all_inserted x [] here each = (here, tt)
  all_inserted x (y ∷ ys) here each = by (is_gt (order x y)) (all_inserted x ys here each.1)
    where
      by : (t : Bool) → AllByRecursion P (insert_sorted order x ys) → AllByRecursion P (cond t (y ∷ insert_sorted order x ys) (x ∷ y ∷ ys))
      by true rest = (each.0, rest)
      by false rest = (here, each)

  pub all_sorted : (xs : List X) → AllByRecursion P xs → AllByRecursion P (sort_by order xs)
  all_sorted [] each = tt
  all_sorted (x ∷ xs) each = all_inserted x (sort_by order xs) each.0 (all_sorted xs each.1)

-- ---- numbered rows

abbrev pub NumbersRise : {X : Type 0} → List (ℕ × X) → Type 0
NumbersRise rows = EachTwo (λ a b. a.0 < b.0) rows

above_zipped : {X : Type 0} (n m : ℕ) (xs : List X) → n < m → AllByRecursion (λ (b : ℕ × X). n < b.0) (zip_from m xs)
above_zipped n m [] less = tt
above_zipped n m (x ∷ xs) less = (less, above_zipped n (m + 1) xs (omega arith))

rise_zipped : {X : Type 0} (n : ℕ) (xs : List X) → NumbersRise (zip_from n xs)
rise_zipped n [] = tt
rise_zipped n (x ∷ xs) = (above_zipped n (n + 1) xs (omega arith), rise_zipped (n + 1) xs)

-- those that pass a test
pub numbers_rise : {X : Type 0} (test : X → Bool) (xs : List X) → NumbersRise (filter (λ b. test b.1) (zip_from 1 xs))
numbers_rise {X} test xs = two_passing (λ (a b : ℕ × X). a.0 < b.0) (λ b. test b.1) (zip_from 1 xs) (rise_zipped 1 xs)

-- ---- sorted rows

module _ {X : Type 0} (span : X → Interval) (order : ℕ × X → ℕ × X → Ordering) (puts : PutsByStart (λ x. (span x).start) order) where
  abbrev start_of : ℕ × X → ℤ
  start_of a = (span a.1).start

  -- none starts before it
  abbrev NoneBefore : ℕ × X → List (ℕ × X) → Type 0
  NoneBefore a bs = AllByRecursion (λ b. int_lt (start_of b) (start_of a) ≡ false) bs

  abbrev Ascends : List (ℕ × X) → Type 0
  Ascends [] = Unit {0}
  Ascends (a ∷ rows) = NoneBefore a rows × Ascends rows

  -- ---- one row more, with a lower number than all

  module _ (a : ℕ × X) where
    abbrev IsAfter : ℕ × X → Type 0
    IsAfter b = a.0 < b.0

    ascends_by : (b : ℕ × X) (bs : List (ℕ × X)) (t : Bool) → int_lt (start_of b) (start_of a) ≡ t → Ascends (b ∷ bs) → Ascends (insert_sorted order a bs)
        → Ascends (cond t (b ∷ insert_sorted order a bs) (a ∷ b ∷ bs))
    ascends_by b bs true is up rest =
        (all_inserted order (λ d. int_lt (start_of d) (start_of b) ≡ false) a bs (not_both (start_of b) (start_of a) is) up.0, rest)
    ascends_by b bs false is up rest = (
      (
        is,
        all_so (λ d. int_lt (start_of d) (start_of b) ≡ false) (λ d. int_lt (start_of d) (start_of a) ≡ false)
            (λ d no. not_below (start_of b) (start_of a) (start_of d) is no) bs up.0,
      ),
      up,
    )

    ascends_inserted : (bs : List (ℕ × X)) → AllByRecursion IsAfter bs → Ascends bs → Ascends (insert_sorted order a bs)
    ascends_inserted [] after up = (tt, tt)
    ascends_inserted (b ∷ bs) after up = ascends_by b bs (is_gt (order a b)) (sym (puts a b after.0)) up (ascends_inserted bs after.1 up.1)

    moved_by : (b : ℕ × X) (bs : List (ℕ × X)) (t : Bool) → IsPermutation (a ∷ bs) (insert_sorted order a bs)
        → IsPermutation (a ∷ b ∷ bs) (cond t (b ∷ insert_sorted order a bs) (a ∷ b ∷ bs))
    moved_by b bs true rest = IsPermutation-trans (a ∷ b ∷ bs) (b ∷ a ∷ bs) _
        (IsPermutation-sym (b ∷ a ∷ bs) (a ∷ b ∷ bs) (IsPermutation-middle (b ∷ []) a bs)) (IsPermutation-cons b (a ∷ bs) _ rest)
    moved_by b bs false rest = IsPermutation-refl (a ∷ b ∷ bs)

    moved : (bs : List (ℕ × X)) → IsPermutation (a ∷ bs) (insert_sorted order a bs)
    moved [] = IsPermutation-refl (a ∷ [])
    moved (b ∷ bs) = moved_by b bs (is_gt (order a b)) (moved bs)

    module _ (start : ℤ) where
      abbrev starts_then : ℕ × X → Bool
      starts_then b = int_eq (start_of b) start

      passed : (b : ℕ × X) (bs : List (ℕ × X)) (s t : Bool) → starts_then a ≡ s → starts_then b ≡ t → int_lt (start_of b) (start_of a) ≡ true
          → cond t (b ∷ cond s (a ∷ filter starts_then bs) (filter starts_then bs)) (cond s (a ∷ filter starts_then bs) (filter starts_then bs))
          ≡ cond s (a ∷ cond t (b ∷ filter starts_then bs) (filter starts_then bs)) (cond t (b ∷ filter starts_then bs) (filter starts_then bs))
      passed b bs true true is js below = absurd (both_ways (starts_then b) (below_apart (start_of b) (start_of a) start below is) js)
      passed b bs true false is js below = refl
      passed b bs false t is js below = refl

      together_by : (b : ℕ × X) (bs : List (ℕ × X)) (t : Bool) → int_lt (start_of b) (start_of a) ≡ t
          → filter starts_then (insert_sorted order a bs) ≡ filter starts_then (a ∷ bs)
          → filter starts_then (cond t (b ∷ insert_sorted order a bs) (a ∷ b ∷ bs)) ≡ filter starts_then (a ∷ b ∷ bs)
      together_by b bs true is rest = ap (λ kept. cond (starts_then b) (b ∷ kept) kept) rest ∙ passed b bs (starts_then a) (starts_then b) refl refl is
      together_by b bs false is rest = refl

      together_inserted : (bs : List (ℕ × X)) → AllByRecursion IsAfter bs → filter starts_then (insert_sorted order a bs) ≡ filter starts_then (a ∷ bs)
      together_inserted [] after = refl
      together_inserted (b ∷ bs) after = together_by b bs (is_gt (order a b)) (sym (puts a b after.0)) (together_inserted bs after.1)

  -- ---- all rows

  ascends_sorted : (rows : List (ℕ × X)) → NumbersRise rows → Ascends (sort_by order rows)
  ascends_sorted [] rise = tt
  ascends_sorted (a ∷ rows) rise = ascends_inserted a (sort_by order rows) (all_sorted order (λ b. a.0 < b.0) rows rise.0) (ascends_sorted rows rise.1)

  permutation_sorted : (rows : List (ℕ × X)) → IsPermutation rows (sort_by order rows)
  permutation_sorted [] = IsPermutation-refl []
  permutation_sorted (a ∷ rows) =
      IsPermutation-trans (a ∷ rows) (a ∷ sort_by order rows) _ (IsPermutation-cons a rows _ (permutation_sorted rows)) (moved a (sort_by order rows))

  together_sorted : (start : ℤ) (rows : List (ℕ × X)) → NumbersRise rows
      → filter (λ b. int_eq (start_of b) start) (sort_by order rows) ≡ filter (λ b. int_eq (start_of b) start) rows
  together_sorted start [] rise = refl
  together_sorted start (a ∷ rows) rise = together_inserted a start (sort_by order rows) (all_sorted order (λ b. a.0 < b.0) rows rise.0)
      ∙ ap (λ kept. cond (int_eq (start_of a) start) (a ∷ kept) kept) (together_sorted start rows rise.1)

  neighbours : (rows : List (ℕ × X)) → Ascends rows → StartsAscend (map (λ a. span a.1) rows)
  neighbours [] up k d within = absurd (omega arith)
  neighbours (a ∷ []) up k d within = absurd (omega arith)
  neighbours (a ∷ b ∷ bs) up zero d within = at_most (start_of a) (start_of b) up.0.0
  neighbours (a ∷ b ∷ bs) up (suc k) d within =
      let place : suc k + 1 ≡ suc (k + 1) = omega arith in
      rw place (neighbours (b ∷ bs) up.1 k d (omega arith))

  shown_by : (start : ℤ) (a : ℕ × X) (kept : List (ℕ × X)) (more : List Interval) (t : Bool) → more ≡ map (λ a. span a.1) kept
      → cond t (span a.1 ∷ more) more ≡ map (λ a. span a.1) (cond t (a ∷ kept) kept)
  shown_by start a kept more true rest = ap (λ spans. span a.1 ∷ spans) rest
  shown_by start a kept more false rest = rest

  starts_shown : (start : ℤ) (rows : List (ℕ × X))
      → filter (λ (i : Interval). int_eq i.start start) (map (λ a. span a.1) rows) ≡ map (λ a. span a.1) (filter (λ a. int_eq (start_of a) start) rows)
  starts_shown start [] = refl
  starts_shown start (a ∷ rows) = shown_by start a _ _ (int_eq (start_of a) start) (starts_shown start rows)

  by_start : (rows : List (ℕ × X)) → NumbersRise rows → IsByStart (map (λ a. span a.1) rows) (map (λ a. span a.1) (sort_by order rows))
  by_start rows rise = record {
    same = IsPermutation-map (λ a. span a.1) rows (sort_by order rows) (permutation_sorted rows);
    ascend = neighbours (sort_by order rows) (ascends_sorted rows rise);
    together = λ start. starts_shown start (sort_by order rows) ∙ ap (map (λ a. span a.1)) (together_sorted start rows rise) ∙ sym (starts_shown start rows);
  }

  -- ---- rows that pass a test

  pub spans_in_order : (test : X → Bool) (xs : List X) (spans : List Interval) → map span (filter test xs) ≡ spans → IsByStart spans (spans_by span order test xs)
  spans_in_order test xs spans is =
      subst (λ l. IsByStart l (spans_by span order test xs)) (zipped_shown span test 1 xs
      ∙ is) (by_start (filter (λ b. test b.1) (zip_from 1 xs)) (numbers_rise test xs))

-- ---- near bookings

module _ {X : Type 0} (shown : X → NearBooking) (order : ℕ × X → ℕ × X → Ordering) (puts : PutsByStart (λ x. (shown x).span.start) order) where
  abbrev span_of : X → Interval
  span_of x = (shown x).span

  abbrev near_of : List (ℕ × X) → List NearBooking
  near_of rows = map (λ a. shown a.1) rows

  spans_of_near : (rows : List (ℕ × X)) → map (λ a. span_of a.1) rows ≡ map (λ (n : NearBooking). n.span) (near_of rows)
  spans_of_near [] = refl
  spans_of_near (a ∷ rows) = ap (λ spans. span_of a.1 ∷ spans) (spans_of_near rows)

  near_kept : (a : ℕ × X) (kept : List (ℕ × X)) (more : List NearBooking) (t : Bool) → more ≡ near_of kept
      → cond t (shown a.1 ∷ more) more ≡ near_of (cond t (a ∷ kept) kept)
  near_kept a kept more true rest = ap (λ near. shown a.1 ∷ near) rest
  near_kept a kept more false rest = rest

  near_starts : (start : ℤ) (rows : List (ℕ × X))
      → filter (λ (n : NearBooking). int_eq n.span.start start) (near_of rows) ≡ near_of (filter (λ a. int_eq (span_of a.1).start start) rows)
  near_starts start [] = refl
  near_starts start (a ∷ rows) = near_kept a _ _ (int_eq (span_of a.1).start start) (near_starts start rows)

  near_by_start : (rows : List (ℕ × X)) → NumbersRise rows → AreByStart (near_of rows) (near_of (sort_by order rows))
  near_by_start rows rise = record {
    same = IsPermutation-map (λ a. shown a.1) rows (sort_by order rows) (permutation_sorted span_of order puts rows);
    ascend = subst StartsAscend (spans_of_near (sort_by order rows)) (neighbours span_of order puts (sort_by order rows) (ascends_sorted span_of order puts rows rise));
    together = λ start. near_starts start (sort_by order rows) ∙ ap near_of (together_sorted span_of order puts start rows rise) ∙ sym (near_starts start rows);
  }

  pub near_in_order : (test : X → Bool) (xs : List X) (near : List NearBooking) → map shown (filter test xs) ≡ near → AreByStart near (near_of (rows_by order test xs))
  near_in_order test xs near is =
      subst (λ l. AreByStart l (near_of (rows_by order test xs))) (zipped_shown shown test 1 xs ∙ is)
      (near_by_start (filter (λ b. test b.1) (zip_from 1 xs)) (numbers_rise test xs))
