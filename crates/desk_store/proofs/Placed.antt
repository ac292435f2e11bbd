-- One more item in the list is one more place in the index.
use Rattle.std.proofs.Common.{◌≡◌, ℕ, zero, suc, ◌+◌, Bool, true, false, cond, List, [], ◌∷◌, ◌++◌, length, Option, Some, None, refl, sym, ◌∙◌, ap, arith, add-zero}
use Rattle.std.specs.Prelude.{ℤ}
use Rattle.std.specs.Cmp.{IsEquivalence}
use Rattle.std.specs.List.{cons_option, filter_map}
use Rattle.std.specs.Map.{lookup}
use Rattle.std.specs.Option.{option_map_or}
use Rattle.std.proofs.lemmas.List.{append-nil}
use Rattle.std.proofs.lemmas.List.Elements.{filter_map-append}
use Rattle.registry_core.specs.Numbered.{item_changed, place_changed}
use Rattle.desk_store.specs.declared.start_index.Place.{Place}
use Rattle.desk_store.specs.declared.start_index.StartIndex.{StartIndex}
use Rattle.desk_store.specs.steps.ByKey.{in_order, put_after, Rises}
use Rattle.desk_store.specs.steps.StartIndex.{numbered_from, place_of, places_in, places_that, IsStartIndex}
use Rattle.desk_store.proofs.ByKey.{in_order_more, in_order_rises}

pub numbered_more : {X : Type 0} (first : ℕ) (xs : List X) (x : X) → numbered_from first (xs ++ x ∷ []) ≡ numbered_from first xs ++ (first + length xs, x) ∷ []
numbered_more first [] x = ap (λ n. (n, x) ∷ []) (sym (add-zero first))
numbered_more first (y ∷ ys) x =
    let place : (first + 1) + length ys ≡ first + length (y ∷ ys) = omega arith in
    ap (λ rest. (first, y) ∷ rest) (numbered_more (first + 1) ys x ∙ ap (λ n. numbered_from (first + 1) ys ++ (n, x) ∷ []) place)

in_order_one_more : (places : List Place) (place : Place) (b : Bool)
    → in_order (λ (p : Place). p.start) (places ++ cons_option (cond b (Some place) None) []) ≡ cond b (put_after (λ (p : Place). p.start) place (in_order (λ (p : Place). p.start) places)) (in_order (λ (p : Place). p.start) places)
in_order_one_more places place true = in_order_more (λ (p : Place). p.start) places place
in_order_one_more places place false = ap (in_order (λ (p : Place). p.start)) (append-nil places)

-- ---- what a map of places shows after a place is written

-- what a map shows at a key, where the key at which it was written has this value
shown_by : {V : Type 0} (shown : V → List Place) (b : Bool) (v : V) (found : Option V)
    → option_map_or shown (cond b (Some v) found) [] ≡ cond b (shown v) (option_map_or shown found [])
shown_by shown true v found = refl
shown_by shown false v found = refl

pub shown_written : {V : Type 0} (shown : V → List Place) (b : Bool) (v : V) (found was : Option V) (places : List Place) → found ≡ cond b (Some v) was
    → shown v ≡ places → option_map_or shown found [] ≡ cond b places (option_map_or shown was [])
shown_written shown b v found was places is told =
    ap (λ f. option_map_or shown f []) is ∙ shown_by shown b v was ∙ ap (λ ps. cond b ps (option_map_or shown was [])) told

-- equal keys have the same places
pub told_same : {K : Type 0} (eq : K → K → Bool) → IsEquivalence eq → (index : StartIndex K) (a b : K) (c : Bool) → eq a b ≡ c
    → cond c (places_in eq index a) (places_in eq index b) ≡ places_in eq index b
told_same eq laws index a b true same = λ i. option_map_or (λ places. places.items) (lookup (λ k. laws.congr a b k same i) index.keys.entries) []
told_same eq laws index a b false same = refl

module _ {X : Type 0} (start : X → ℤ) where
  pub places_rise : (test : X → Bool) (xs : List X) → Rises (λ (p : Place). p.start) (places_that start test xs)
  places_rise test xs = in_order_rises (λ (p : Place). p.start) (filter_map (place_of start test) (numbered_from 1 xs))

  -- the places of the items, with one more
  places_more : (test : X → Bool) (xs : List X) (x : X) (number : ℕ) → number ≡ length xs + 1
      → places_that start test (xs ++ x ∷ [])
      ≡ cond (test x) (put_after (λ (p : Place). p.start) (record { start = start x; number = number }) (places_that start test xs)) (places_that start test xs)
  places_more test xs x number last =
      let place : 1 + length xs ≡ number = omega arith in
      let key = λ (p : Place). p.start in
      ap (λ numbered. in_order key (filter_map (place_of start test) numbered)) (numbered_more 1 xs x ∙ ap (λ n. numbered_from 1 xs ++ (n, x) ∷ []) place)
      ∙ ap (in_order key) (filter_map-append (place_of start test) (numbered_from 1 xs) ((number, x) ∷ []))
      ∙ in_order_one_more (filter_map (place_of start test) (numbered_from 1 xs)) (record { start = start x; number = number }) (test x)

  -- ---- an item changed in its place

  changed_by : (test : X → Bool) (f : X → X) → ((n : ℕ) (x : X) → place_of start test (n, f x) ≡ place_of start test (n, x)) → (first : ℕ) (xs : List X) (n : ℕ)
      → filter_map (place_of start test) (numbered_from first (place_changed f xs n)) ≡ filter_map (place_of start test) (numbered_from first xs)
  changed_by test f same first [] n = refl
  changed_by test f same first (x ∷ xs) zero = ap (λ found. cons_option found (filter_map (place_of start test) (numbered_from (first + 1) xs))) (same first x)
  changed_by test f same first (x ∷ xs) (suc n) = ap (cons_option (place_of start test (first, x))) (changed_by test f same (first + 1) xs n)

  places_changed : (test : X → Bool) (f : X → X) → ((n : ℕ) (x : X) → place_of start test (n, f x) ≡ place_of start test (n, x)) → (xs : List X) (number : ℕ)
      → places_that start test (item_changed f xs number) ≡ places_that start test xs
  places_changed test f same xs zero = refl
  places_changed test f same xs (suc n) = ap (in_order (λ (p : Place). p.start)) (changed_by test f same 1 xs n)

  -- ---- an index

  module _ {K : Type 0} (eq : K → K → Bool) (key : X → K) where
    pub index_changed : (f : X → X) → ((k : K) (n : ℕ) (x : X) → place_of start (λ y. eq (key y) k) (n, f x) ≡ place_of start (λ y. eq (key y) k) (n, x))
        → (xs : List X) (number : ℕ) (told : K → List Place) → IsStartIndex start eq key xs told → IsStartIndex start eq key (item_changed f xs number) told
    index_changed f same xs number told was = record { places = λ k. was.places k ∙ sym (places_changed (λ x. eq (key x) k) f (same k) xs number) }

    -- an index with the same places
    pub index_same : (xs : List X) (old new : K → List Place) → IsStartIndex start eq key xs old → ((k : K) → new k ≡ old k) → IsStartIndex start eq key xs new
    index_same xs old new was same = record { places = λ k. same k ∙ was.places k }

    module _ (means : (a b : K) → eq a b ≡ true → a ≡ b) where
      put_by : (told : K → List Place) (place : Place) (a b : K) (c : Bool) → eq a b ≡ c
          → cond c (put_after (λ (p : Place). p.start) place (told a)) (told b) ≡ cond c (put_after (λ (p : Place). p.start) place (told b)) (told b)
      put_by told place a b true same = ap (λ k. put_after (λ (p : Place). p.start) place (told k)) (means a b same)
      put_by told place a b false same = refl

      -- each place that stays, and one more
      pub index_noted : (xs : List X) (x : X) (at : K) (place : Place) (old new : K → List Place) → at ≡ key x → place ≡ record { start = start x; number = length xs + 1 }
          → IsStartIndex start eq key xs old
          → ((k : K) → new k ≡ cond (eq at k) (put_after (λ (p : Place). p.start) place (old at)) (old k))
          → IsStartIndex start eq key (xs ++ x ∷ []) new
      index_noted xs x at place old new is_at is was noted = record {
        places = λ k. noted k
            ∙ put_by old place at k (eq at k) refl
            ∙ (λ i. cond (eq (is_at i) k) (put_after (λ (p : Place). p.start) (is i) (was.places k i)) (was.places k i))
            ∙ sym (places_more (λ y. eq (key y) k) xs x (length xs + 1) refl);
      }
