-- The numbers of the items at the places of those that pass are the numbers of these items by start.
use Rattle.std.proofs.Common.{◌≡◌, ◌∙◌, ℕ, zero, suc, ◌+◌, ◌<◌, Bool, true, false, cond, List, [], ◌∷◌, length, map, slice_get, Option, Some, None, refl, sym, ap, subst, arith}
use Rattle.std.specs.Prelude.{◌==◌, ◌&&◌, ◌||◌, ℤ, pos, bytes_eq, filter, int_le, int_lt, option_and_then, IsPermutation}
use Rattle.std.specs.declared.cmp.Ordering.TheVariants.{Less}
use Rattle.std.specs.List.{AllByRecursion, cons_option, filter_map, list_any, range_with_len}
use Rattle.std.specs.List.Sorted.{IsSortedBy, IsStrictlySortedBy}
use Rattle.std.specs.Option.{option_map_or}
use Rattle.std.specs.Ordering.{int_cmp, nat_cmp, ordering_then}
use Rattle.std.proofs.Math.Bool.{and_assoc}
use Rattle.std.proofs.lemmas.Bool.{eq-eqb, ne_eqb, or_from}
use Rattle.std.proofs.lemmas.List.Elements.{recursion_from_All, All-from_recursion}
use Rattle.std.proofs.lemmas.List.Sorted.{All-permutation, IsPermutation-map, IsPermutation-sym, IsPermutation-trans, list_any-IsPermutation}
use Rattle.registry_core.specs.declared.facts.Booking.{Booking}
use Rattle.registry_core.specs.Listing.{AreNumbersByStart, booking_start, is_booking_from, passes_at, start_at, start_cmp}
use Rattle.registry_core.specs.Numbered.{item_at}
use Rattle.desk_store.specs.declared.start_index.Place.{Place}
use Rattle.desk_store.specs.steps.BookingPlaces.{booking_places}
use Rattle.desk_store.specs.steps.StartIndex.{is_place_in, numbered_from, place_at, place_of, places_that}
use Rattle.desk_store.proofs.ByKey.{in_order_permutation}
use Rattle.desk_store.proofs.Listed.{from_one}
use Rattle.desk_store.proofs.PlaceOrder.{before, place_cmp, places_rising, places_sorted}
use Rattle.desk_store.proofs.ToldInOrder.{numbered_found}
use Rattle.desk_store.proofs.UplinksTold.{places_kept}

abbrev pub number_at : Place → ℕ
number_at place = place.number

module _ {X : Type 0} (start : X → ℤ) (test : X → Bool) where
  abbrev found : ℕ → List X → List Place
  found first xs = filter_map (place_of start test) (numbered_from first xs)

  -- ---- which numbers there are

  none_below : (first : ℕ) (xs : List X) (n : ℕ) → n < first → list_any (λ other. other == n) (map number_at (found first xs)) ≡ false
  none_below first [] n below = refl
  none_below first (x ∷ xs) n below = by (test x) (none_below (first + 1) xs n (omega arith))
    where
      apart : (first == n) ≡ false
      apart = ne_eqb first n (λ same. omega arith)

      by : (b : Bool) → list_any (λ other. other == n) (map number_at (found (first + 1) xs)) ≡ false
          → list_any (λ other. other == n) (map number_at (cons_option (cond b (Some (record { start = start x; number = first })) None) (found (first + 1) xs))) ≡ false
      by true rest = or_from _ _ apart rest
      by false rest = rest

  any_at : (first : ℕ) (xs : List X) (k n : ℕ) → n ≡ first + k → list_any (λ other. other == n) (map number_at (found first xs)) ≡ option_map_or test (slice_get xs k) false
  any_at first [] k n is = refl
  any_at first (x ∷ xs) zero n is = by (test x) (none_below (first + 1) xs n (omega arith))
    where
      here : (first == n) ≡ true
      here = eq-eqb first n (omega arith)

      by : (b : Bool) → list_any (λ other. other == n) (map number_at (found (first + 1) xs)) ≡ false
          → list_any (λ other. other == n) (map number_at (cons_option (cond b (Some (record { start = start x; number = first })) None) (found (first + 1) xs))) ≡ b
      by true rest = ap (λ c. c || list_any (λ other. other == n) (map number_at (found (first + 1) xs))) here
      by false rest = rest
  any_at first (x ∷ xs) (suc k) n is = by (test x) (any_at (first + 1) xs k n (omega arith))
    where
      apart : (first == n) ≡ false
      apart = ne_eqb first n (λ same. omega arith)

      by : (b : Bool) → list_any (λ other. other == n) (map number_at (found (first + 1) xs)) ≡ option_map_or test (slice_get xs k) false
          → list_any (λ other. other == n) (map number_at (cons_option (cond b (Some (record { start = start x; number = first })) None) (found (first + 1) xs)))
          ≡ option_map_or test (slice_get xs k) false
      by true rest = ap (λ c. c || list_any (λ other. other == n) (map number_at (found (first + 1) xs))) apart ∙ rest
      by false rest = rest

  each_at : (xs : List X) (n : ℕ) → list_any (λ other. other == n) (map number_at (found 1 xs)) ≡ passes_at test xs n
  each_at xs zero = none_below 1 xs zero (omega arith)
  each_at xs (suc k) = any_at 1 xs k (suc k) (omega arith)

  -- ---- in which order

  -- a place has the start of the item with its number
  starts_by : (xs : List X) (ns : List (ℕ × X)) → AllByRecursion (λ (n : ℕ × X). item_at xs n.0 ≡ Some n.1) ns
      → AllByRecursion (λ (p : Place). start_at start xs p.number ≡ p.start) (filter_map (place_of start test) ns)
  starts_by xs [] all = tt
  starts_by xs (n ∷ ns) all = by (test n.1) (starts_by xs ns all.1)
    where
      by : (b : Bool) → AllByRecursion (λ (p : Place). start_at start xs p.number ≡ p.start) (filter_map (place_of start test) ns)
          → AllByRecursion (λ (p : Place). start_at start xs p.number ≡ p.start) (cons_option (cond b (Some (record { start = start n.1; number = n.0 })) None) (filter_map (place_of start test) ns))
      by true rest = (ap (λ item. option_map_or start item (pos 0)) all.0, rest)
      by false rest = rest

  starts_are : (xs : List X) → AllByRecursion (λ (p : Place). start_at start xs p.number ≡ p.start) (places_that start test xs)
  starts_are xs = recursion_from_All _ _ (All-permutation (λ (p : Place). start_at start xs p.number ≡ p.start) (found 1 xs) (places_that start test xs)
      (in_order_permutation (λ (p : Place). p.start) (found 1 xs)) (All-from_recursion _ _ (starts_by xs (numbered_from 1 xs) (numbered_found xs))))

  after_all : (xs : List X) (p : Place) (ps : List Place) → start_at start xs p.number ≡ p.start → AllByRecursion (λ (q : Place). start_at start xs q.number ≡ q.start) ps
      → AllByRecursion (λ q. place_cmp p q ≡ Less) ps → AllByRecursion (λ n. start_cmp start xs p.number n ≡ Less) (map number_at ps)
  after_all xs p [] here starts less = tt
  after_all xs p (q ∷ qs) here starts less =
      ((λ i. ordering_then (int_cmp (here i) (starts.0 i)) (nat_cmp p.number q.number)) ∙ less.0, after_all xs p qs here starts.1 less.1)

  numbers_rising : (xs : List X) (ps : List Place) → AllByRecursion (λ (p : Place). start_at start xs p.number ≡ p.start) ps → IsStrictlySortedBy place_cmp ps
      → IsStrictlySortedBy (start_cmp start xs) (map number_at ps)
  unfolding IsStrictlySortedBy
  numbers_rising xs [] starts rising = tt
  numbers_rising xs (p ∷ ps) starts rising = (after_all xs p ps starts.0 starts.1 rising.0, numbers_rising xs ps starts.1 rising.1)

  pub numbers_listed : (xs : List X) (numbers : List ℕ) → numbers ≡ map number_at (places_that start test xs) → AreNumbersByStart start test xs numbers
  numbers_listed xs numbers are =
      let P : List ℕ → Type 0 = AreNumbersByStart start test xs in
      subst P (sym are) (record {
        rising = numbers_rising xs (places_that start test xs) (starts_are xs) (places_rising start test xs);
        each = λ n. sym (list_any-IsPermutation (λ other. other == n) (map number_at (found 1 xs)) (map number_at (places_that start test xs))
            (IsPermutation-map number_at (found 1 xs) (places_that start test xs) (in_order_permutation (λ (p : Place). p.start) (found 1 xs))))
            ∙ each_at xs n;
      })

  -- ---- places found by going through all numbers, then sorted

  places_by : (at : ℕ → Option X) (first : ℕ) (xs : List X) → ((k n : ℕ) → n ≡ first + k → at n ≡ slice_get xs k)
      → filter_map (λ n. option_and_then (λ (x : X). place_of start test (n, x)) (at n)) (range_with_len first (length xs)) ≡ found first xs
  places_by at first [] each = refl
  places_by at first (x ∷ xs) each = λ i. cons_option (option_and_then (λ (y : X). place_of start test (first, y)) (each 0 first (omega arith) i))
      (places_by at (first + 1) xs (λ k n is. each (suc k) n (omega arith)) i)

  pub numbers_sorted : (xs : List X) (places sorted : List Place) (numbers : List ℕ) → places ≡ filter_map (place_at start test xs) (range_with_len 1 (length xs))
      → IsPermutation places sorted → IsSortedBy before sorted → numbers ≡ map number_at sorted → AreNumbersByStart start test xs numbers
  numbers_sorted xs places sorted numbers are moved up told =
      let found_are : places ≡ found 1 xs = are ∙ places_by (item_at xs) 1 xs (from_one xs) in
      let P : List Place → Type 0 = λ ps. IsPermutation ps sorted in
      let same : IsPermutation (places_that start test xs) sorted =
      IsPermutation-trans (places_that start test xs) (found 1 xs) sorted
      (IsPermutation-sym (found 1 xs) (places_that start test xs) (in_order_permutation (λ (p : Place). p.start) (found 1 xs))) (subst P found_are moved) in
      numbers_listed xs numbers (told ∙ ap (map number_at) (places_sorted start test xs sorted up same))

-- ---- the places of a gateway's bookings that an index gives

pub bookings_listed : (bookings : List Booking) (gateway : List ℕ) (from to : ℤ) (numbers : List ℕ)
    → numbers ≡ map number_at (filter (is_place_in from to) (booking_places bookings gateway))
    → AreNumbersByStart booking_start (is_booking_from gateway from to) bookings numbers
bookings_listed bookings gateway from to numbers are =
    numbers_listed booking_start (is_booking_from gateway from to) bookings numbers
    (are ∙ ap (map number_at) (places_kept booking_start (λ b. bytes_eq b.gateway gateway) (λ s. int_le from s && int_lt s to) bookings
    ∙ (λ i. places_that booking_start (λ b. sym (and_assoc (bytes_eq b.gateway gateway) (int_le from b.span.start) (int_lt b.span.start to)) i) bookings)))
