-- A test of the keys divides a list that rises, and what a partition point means for it.
use Rattle.std.proofs.Common.{◌≡◌, ℕ, zero, suc, ◌<◌, ◌≤◌, Bool, true, false, cond, List, [], ◌∷◌, length, take, drop, refl, ◌∙◌, ap, arith}
use Rattle.std.specs.Prelude.{ℤ, pos, ◌+ℤ◌, int_lt, int_le, slice_index_or, filter, insert, not, ◌&&◌}
use Rattle.std.specs.List.{AllWithin}
use Rattle.std.specs.List.Sorted.{IsPartitionedBy, IsPartitionPoint}
use Rattle.std.proofs.lemmas.Int.{ints}
use Rattle.desk_store.specs.steps.ByKey.{NoneBelow, Rises, put_after}

-- ---- of three numbers

le_trans : (a b t : ℤ) → int_lt b a ≡ false → int_le b t ≡ true → int_le a t ≡ true
le_trans a b t ab bt = grind (arith, ints)

lt_trans : (a b t : ℤ) → int_lt b a ≡ false → int_lt b t ≡ true → int_lt a t ≡ true
lt_trans a b t ab bt = grind (arith, ints)

pub above_is : (a b : ℤ) → int_lt a b ≡ not (int_le b a)
above_is a b = grind (arith, ints)

pub from_is : (a b : ℤ) → int_le a b ≡ not (int_lt b a)
from_is a b = grind (arith, ints)

-- what comes after a moment comes from the next microsecond on
pub after_is : (low high start : ℤ) → (int_le (low +ℤ pos 1) start && int_lt start high) ≡ (int_lt low start && int_lt start high)
after_is low high start = ap (λ b. b && int_lt start high) from_next
  where
    from_next : int_le (low +ℤ pos 1) start ≡ int_lt low start
    from_next = grind (arith, ints)

-- ---- a list that rises

module _ {X : Type 0} (key : X → ℤ) where
  none_below_at : (x : X) (ys : List X) (j : ℕ) (d : X) → NoneBelow key x ys → j < length ys → int_lt (key (slice_index_or ys j d)) (key x) ≡ false
  none_below_at x [] j d all within = absurd (omega arith)
  none_below_at x (y ∷ ys) zero d all within = all.0
  none_below_at x (y ∷ ys) (suc j) d all within = none_below_at x ys j d all.1 (omega arith)

  -- no key is below one before it, however far
  rises_far : (xs : List X) (i j : ℕ) (d : X) → Rises key xs → i ≤ j → j < length xs
      → int_lt (key (slice_index_or xs j d)) (key (slice_index_or xs i d)) ≡ false
  rises_far [] i j d rises order within = absurd (omega arith)
  rises_far (x ∷ xs) zero zero d rises order within = irreflexive (key x)
    where
      irreflexive : (a : ℤ) → int_lt a a ≡ false
      irreflexive a = grind (arith, ints)
  rises_far (x ∷ xs) zero (suc j) d rises order within = none_below_at x xs j d rises.0 (omega arith)
  rises_far (x ∷ xs) (suc i) zero d rises order within = absurd (omega arith)
  rises_far (x ∷ xs) (suc i) (suc j) d rises order within = rises_far xs i j d rises.1 (omega arith) (omega arith)

  pub parted_to : (t : ℤ) (xs : List X) → Rises key xs → IsPartitionedBy (λ x. int_le (key x) t) xs
  parted_to t xs rises = λ i j d order within passes.
      le_trans (key (slice_index_or xs i d)) (key (slice_index_or xs j d)) t (rises_far xs i j d rises order within) passes

  pub parted_before : (t : ℤ) (xs : List X) → Rises key xs → IsPartitionedBy (λ x. int_lt (key x) t) xs
  parted_before t xs rises = λ i j d order within passes.
      lt_trans (key (slice_index_or xs i d)) (key (slice_index_or xs j d)) t (rises_far xs i j d rises order within) passes

-- ---- what a partition point means

module _ {X : Type 0} (p : X → Bool) where
  abbrev IsPointOf : List X → ℕ → Type 0
  IsPointOf xs at = IsPartitionPoint (λ x. p x ≡ true) (λ x. p x ≡ false) xs at

  point_of_rest : (x : X) (xs : List X) (at : ℕ) → IsPointOf (x ∷ xs) (suc at) → IsPointOf xs at
  point_of_rest x xs at point = (λ k d low high. point.0 (suc k) d (omega arith) (omega arith), λ k d low high. point.1 (suc k) d (omega arith) (omega arith))

  none_pass : (xs : List X) → AllWithin (λ x. p x ≡ false) xs 0 (length xs) → filter p xs ≡ []
  none_pass [] all = refl
  none_pass (x ∷ xs) all = rw (all 0 x (omega arith) (omega arith)) (none_pass xs (λ k d low high. all (suc k) d (omega arith) (omega arith)))

  pub front_passes : (xs : List X) (at : ℕ) → at ≤ length xs → IsPointOf xs at → filter p xs ≡ take at xs
  front_passes [] zero within point = refl
  front_passes [] (suc at) within point = absurd (omega arith)
  front_passes (x ∷ xs) zero within point = none_pass (x ∷ xs) point.1
  front_passes (x ∷ xs) (suc at) within point =
      rw (point.0 0 x (omega arith) (omega arith)) (ap (λ front. x ∷ front) (front_passes xs at (omega arith) (point_of_rest x xs at point)))

  module _ (q : X → Bool) (other : (x : X) → q x ≡ not (p x)) where
    all_pass : (xs : List X) → AllWithin (λ x. p x ≡ false) xs 0 (length xs) → filter q xs ≡ xs
    all_pass [] all = refl
    all_pass (x ∷ xs) all =
        rw (other x, all 0 x (omega arith) (omega arith)) (ap (λ rest. x ∷ rest) (all_pass xs (λ k d low high. all (suc k) d (omega arith) (omega arith))))

    pub back_passes : (xs : List X) (at : ℕ) → at ≤ length xs → IsPointOf xs at → filter q xs ≡ drop at xs
    back_passes [] zero within point = refl
    back_passes [] (suc at) within point = absurd (omega arith)
    back_passes (x ∷ xs) zero within point = all_pass (x ∷ xs) point.1
    back_passes (x ∷ xs) (suc at) within point =
        rw (other x, point.0 0 x (omega arith) (omega arith)) (back_passes xs at (omega arith) (point_of_rest x xs at point))

-- what goes in there goes in after all whose key isn't above its own
pub put_at : {X : Type 0} (key : X → ℤ) (x : X) (xs : List X) (at : ℕ) → at ≤ length xs
    → IsPartitionPoint (λ y. int_le (key y) (key x) ≡ true) (λ y. int_le (key y) (key x) ≡ false) xs at → insert xs at x ≡ put_after key x xs
put_at key x [] zero within point = refl
put_at key x [] (suc at) within point = absurd (omega arith)
put_at key x (y ∷ ys) zero within point =
    let above : int_lt (key x) (key y) ≡ true = above_is (key x) (key y) ∙ ap not (point.1 0 y (omega arith) (omega arith)) in rw above refl
put_at key x (y ∷ ys) (suc at) within point =
    let above : int_lt (key x) (key y) ≡ false = above_is (key x) (key y) ∙ ap not (point.0 0 y (omega arith) (omega arith)) in
    rw above (ap (λ rest. y ∷ rest) (put_at key x ys at (omega arith) (point_of_rest (λ z. int_le (key z) (key x)) y ys at point)))

-- ---- what passes one test and then another

pub filter_twice : {X : Type 0} (p q : X → Bool) (xs : List X) → filter q (filter p xs) ≡ filter (λ x. p x && q x) xs
filter_twice p q [] = refl
filter_twice {X} p q (x ∷ xs) = by (p x) (filter_twice p q xs)
  where
    by : (b : Bool) → filter q (filter p xs) ≡ filter (λ y. p y && q y) xs
        → filter q (cond b (x ∷ filter p xs) (filter p xs)) ≡ cond (b && q x) (x ∷ filter (λ y. p y && q y) xs) (filter (λ y. p y && q y) xs)
    by true rest = ap (λ ys. cond (q x) (x ∷ ys) ys) rest
    by false rest = rest

module _ {X : Type 0} (key : X → ℤ) (p : X → Bool) where
  none_below_by : (x y : X) (ys : List X) (b : Bool) → NoneBelow key x (y ∷ ys) → NoneBelow key x (filter p ys) → NoneBelow key x (cond b (y ∷ filter p ys) (filter p ys))
  none_below_by x y ys true all rest = (all.0, rest)
  none_below_by x y ys false all rest = rest

  none_below_filter : (x : X) (ys : List X) → NoneBelow key x ys → NoneBelow key x (filter p ys)
  none_below_filter x [] all = tt
  none_below_filter x (y ∷ ys) all = none_below_by x y ys (p y) all (none_below_filter x ys all.1)

  rises_by : (x : X) (xs : List X) (b : Bool) → NoneBelow key x (filter p xs) → Rises key (filter p xs) → Rises key (cond b (x ∷ filter p xs) (filter p xs))
  rises_by x xs true all rest = (all, rest)
  rises_by x xs false all rest = rest

  pub rises_filter : (xs : List X) → Rises key xs → Rises key (filter p xs)
  rises_filter [] rises = tt
  rises_filter (x ∷ xs) rises = rises_by x xs (p x) (none_below_filter x xs rises.0) (rises_filter xs rises.1)
