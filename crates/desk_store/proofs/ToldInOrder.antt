-- What is found of the items at their places is what a search of all items finds, ordered by start.
use Rattle.std.proofs.Common.{◌≡◌, ℕ, suc, ◌+◌, Bool, true, false, cond, List, [], ◌∷◌, Option, Some, None, slice_get, refl, subst, sym, ◌∙◌, ap, arith}
use Rattle.std.specs.Prelude.{ℤ, filter, option_and_then}
use Rattle.std.specs.List.{AllByRecursion, cons_option, filter_map}
use Rattle.std.proofs.lemmas.List.Elements.{recursion_from_All, All-from_recursion}
use Rattle.std.proofs.lemmas.List.Sorted.{All-permutation}
use Rattle.duty_core.specs.InOrder.{IsByStart}
use Rattle.duty_core.specs.Use.{Interval}
use Rattle.registry_core.specs.Numbered.{item_at}
use Rattle.desk_store.specs.declared.start_index.Place.{Place}
use Rattle.desk_store.specs.steps.ByKey.{in_order}
use Rattle.desk_store.specs.steps.StartIndex.{numbered_from, place_of, places_that}
use Rattle.desk_store.proofs.ByKey.{in_order_permutation, in_order_shown}
use Rattle.desk_store.proofs.ByStart.{by_start}

-- ---- some of a list, each shown as another

-- x, if it passes
abbrev pub passing : {X : Type 0} → (X → Bool) → X → Option X
passing test x = cond (test x) (Some x) None

pub filter_kept : {X : Type 0} (test : X → Bool) (xs : List X) → filter test xs ≡ filter_map (passing test) xs
filter_kept test [] = refl
filter_kept {X} test (x ∷ xs) = by (test x) (filter_kept test xs)
  where
    by : (b : Bool) → filter test xs ≡ filter_map (passing test) xs → cond b (x ∷ filter test xs) (filter test xs) ≡ cons_option (cond b (Some x) None) (filter_map (passing test) xs)
    by true rest = ap (λ ys. x ∷ ys) rest
    by false rest = rest

pub shown_twice : {X Y Z : Type 0} (f : X → Option Y) (g : Y → Option Z) (xs : List X) → filter_map g (filter_map f xs) ≡ filter_map (λ x. option_and_then g (f x)) xs
shown_twice f g [] = refl
shown_twice {X} {Y} {Z} f g (x ∷ xs) = by (f x) (shown_twice f g xs)
  where
    by : (found : Option Y) → filter_map g (filter_map f xs) ≡ filter_map (λ x. option_and_then g (f x)) xs
        → filter_map g (cons_option found (filter_map f xs)) ≡ cons_option (option_and_then g found) (filter_map (λ x. option_and_then g (f x)) xs)
    by None rest = rest
    by (Some y) rest = ap (cons_option (g y)) rest

shown_same : {X Y : Type 0} (f g : X → Option Y) (xs : List X) → AllByRecursion (λ x. f x ≡ g x) xs → filter_map f xs ≡ filter_map g xs
shown_same f g [] all = refl
shown_same f g (x ∷ xs) all = λ i. cons_option (all.0 i) (shown_same f g xs all.1 i)

pub all_weaker : {X : Type 0} (P Q : X → Type 0) → ((x : X) → P x → Q x) → (xs : List X) → AllByRecursion P xs → AllByRecursion Q xs
all_weaker P Q weaker [] all = tt
all_weaker P Q weaker (x ∷ xs) all = (weaker x all.0, all_weaker P Q weaker xs all.1)

-- ---- items with their numbers

numbered_past : {X : Type 0} (first : ℕ) (xs : List X) → AllByRecursion (λ (n : ℕ × X). (place : ℕ) × (n.0 ≡ first + place) × (slice_get xs place ≡ Some n.1)) (numbered_from first xs)
numbered_past first [] = tt
numbered_past {X} first (x ∷ xs) = (
  (0, omega arith, refl),
  all_weaker _ (λ (n : ℕ × X). (place : ℕ) × (n.0 ≡ first + place) × (slice_get (x ∷ xs) place ≡ Some n.1))
      (λ n at. (suc at.0, omega (arith, at.1), at.2)) (numbered_from (first + 1) xs) (numbered_past (first + 1) xs),
)

-- each item has its number
pub numbered_found : {X : Type 0} (xs : List X) → AllByRecursion (λ (n : ℕ × X). item_at xs n.0 ≡ Some n.1) (numbered_from 1 xs)
numbered_found {X} xs = all_weaker _ (λ (n : ℕ × X). item_at xs n.0 ≡ Some n.1)
    (λ n at. let number : n.0 ≡ suc at.0 = omega (arith, at.1) in rw number at.2) (numbered_from 1 xs) (numbered_past 1 xs)

pub shown_of_numbered : {X Y : Type 0} (f : X → Option Y) (first : ℕ) (xs : List X) → filter_map (λ (n : ℕ × X). f n.1) (numbered_from first xs) ≡ filter_map f xs
shown_of_numbered f first [] = refl
shown_of_numbered f first (x ∷ xs) = ap (cons_option (f x)) (shown_of_numbered f (first + 1) xs)

-- ---- items that pass a test, each shown as something with its start

module _ {X : Type 0} (start : X → ℤ) where
  abbrev pub start_of : ℕ × X → ℤ
  start_of n = start n.1

  place_start : (owns : X → Bool) (n : ℕ × X) (place : Place) → place_of start owns n ≡ Some place → place.start ≡ start_of n
  place_start owns n place is = by (owns n.1) is
    where
      by : (b : Bool) → cond b (Some (record { start = start n.1; number = n.0 })) None ≡ Some place → place.start ≡ start_of n
      by true told = let same : record { start = start n.1; number = n.0 } ≡ place = cc in sym (ap (λ (p : Place). p.start) same)
      by false told = let no : ⊥ = cc in absurd no

  pub places_are : (owns : X → Bool) (xs : List X) → places_that start owns xs ≡ filter_map (place_of start owns) (in_order start_of (numbered_from 1 xs))
  places_are owns xs = sym (in_order_shown start_of (λ (p : Place). p.start) (place_of start owns) (place_start owns) (numbered_from 1 xs))

  module _ (owns : X → Bool) {Y : Type 0} (shown_start : Y → ℤ) (shown : X → Option Y) (starts : (x : X) (y : Y) → shown x ≡ Some y → shown_start y ≡ start x)
      (test : ℤ → Bool) where
    -- what is shown of the item, if it is one of those and passes by its start
    abbrev pub shown_if : X → Option Y
    shown_if x = cond (owns x) (cond (test (start x)) (shown x) None) None

    shown_if_start : (n : ℕ × X) (a : Y) → shown_if n.1 ≡ Some a → shown_start a ≡ start_of n
    shown_if_start n a is = by (owns n.1) (test (start n.1)) is
      where
        by : (own passes : Bool) → cond own (cond passes (shown n.1) None) None ≡ Some a → shown_start a ≡ start_of n
        by true true told = starts n.1 a told
        by true false told = let no : ⊥ = cc in absurd no
        by false passes told = let no : ⊥ = cc in absurd no

    module _ (xs : List X) where
      abbrev told : Place → Option Y
      told place = option_and_then shown (item_at xs place.number)

      -- what is found at the places that pass
      abbrev told_at : Place → Option Y
      told_at place = option_and_then told (passing (λ (p : Place). test p.start) place)

      told_by : (n : ℕ × X) (own passes : Bool) → item_at xs n.0 ≡ Some n.1
          → option_and_then (λ (p : Place). option_and_then told (cond passes (Some p) None)) (cond own (Some (record { start = start n.1; number = n.0 })) None)
          ≡ cond own (cond passes (shown n.1) None) None
      told_by n true true found = ap (option_and_then shown) found
      told_by n true false found = refl
      told_by n false passes found = refl

      told_is : (n : ℕ × X) → item_at xs n.0 ≡ Some n.1 → option_and_then told_at (place_of start owns n) ≡ shown_if n.1
      told_is n found = by (owns n.1)
        where
          by : (own : Bool) → option_and_then told_at (cond own (Some (record { start = start n.1; number = n.0 })) None) ≡ cond own (cond (test (start n.1)) (shown n.1) None) None
          by true = told_by n true (test (start n.1)) found
          by false = refl

      all_in_order : AllByRecursion (λ (n : ℕ × X). option_and_then told_at (place_of start owns n) ≡ shown_if n.1) (in_order start_of (numbered_from 1 xs))
      all_in_order = all_weaker (λ (n : ℕ × X). item_at xs n.0 ≡ Some n.1) _ told_is (in_order start_of (numbered_from 1 xs))
          (recursion_from_All _ _ (All-permutation (λ (n : ℕ × X). item_at xs n.0 ≡ Some n.1) (numbered_from 1 xs) (in_order start_of (numbered_from 1 xs))
          (in_order_permutation start_of (numbered_from 1 xs)) (All-from_recursion _ _ (numbered_found xs))))

      pub told_in_order : filter_map told (filter (λ (p : Place). test p.start) (places_that start owns xs)) ≡ in_order shown_start (filter_map shown_if xs)
      told_in_order =
          ap (λ places. filter_map told (filter (λ (p : Place). test p.start) places)) (places_are owns xs)
          ∙ ap (filter_map told) (filter_kept (λ (p : Place). test p.start) (filter_map (place_of start owns) (in_order start_of (numbered_from 1 xs))))
          ∙ shown_twice (passing (λ (p : Place). test p.start)) told (filter_map (place_of start owns) (in_order start_of (numbered_from 1 xs)))
          ∙ shown_twice (place_of start owns) told_at (in_order start_of (numbered_from 1 xs))
          ∙ shown_same _ (λ (n : ℕ × X). shown_if n.1) (in_order start_of (numbered_from 1 xs)) all_in_order
          ∙ in_order_shown start_of shown_start (λ (n : ℕ × X). shown_if n.1) shown_if_start (numbered_from 1 xs)
          ∙ ap (in_order shown_start) (shown_of_numbered shown_if 1 xs)

pub by_start_from : (xs spans : List Interval) → spans ≡ in_order (λ (a : Interval). a.start) xs → IsByStart xs spans
by_start_from xs spans is = let P : List Interval → Type 0 = IsByStart xs in subst P (sym is) (by_start xs)

pub all_kept : {X : Type 0} (xs : List X) → filter (λ x. true) xs ≡ xs
all_kept [] = refl
all_kept (x ∷ xs) = ap (λ ys. x ∷ ys) (all_kept xs)
