-- Lists ordered by start.
use Rattle.std.specs.Prelude.{◌≡◌, ℕ, ◌+◌, ◌<◌, ℤ, ◌≤ℤ◌, List, length, filter, slice_index_or, IsPermutation}
use Rattle.std.specs.Ordering.{int_eq}
use Rattle.duty_core.specs.Use.{Interval}

-- no start is less than the one before it
abbrev pub StartsAscend : List Interval → Type 0
StartsAscend l = (k : ℕ) (d : Interval) → k + 1 < length l
    → (slice_index_or l k d).start ≤ℤ (slice_index_or l (k + 1) d).start

-- ys are the intervals of xs ordered by start; those that start together stay in the order that they have in xs
pub record IsByStart (xs ys : List Interval) : Type 0 where
  pub same : IsPermutation xs ys
  pub ascend : StartsAscend ys
  pub together : (start : ℤ) → filter (λ a. int_eq a.start start) ys ≡ filter (λ a. int_eq a.start start) xs
