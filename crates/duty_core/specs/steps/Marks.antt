-- The sweep's state as it goes through a list whose edges don't fall.
use Rattle.std.specs.Prelude.{◌≡◌, ℕ, ◌+◌, ◌<◌, ◌≤◌, ◌^◌, ℤ, pos, neg_ℤ, ◌≤ℤ◌, ◌<ℤ◌, List, length, take, sum_by, slice_index_or}
use Rattle.duty_core.specs.Use.{Interval, end_of, count_between}
use Rattle.duty_core.specs.declared.marks.Edge.{Edge}
use Rattle.duty_core.specs.declared.marks.Edge.TheVariants.{Start, End}

-- the beginning or the end of an interval
abbrev pub edge_of : Edge → Interval → ℤ
edge_of Start a = a.start
edge_of End a = end_of a

-- no such edge is less than the one before it
abbrev pub IsRising : Edge → List Interval → Type 0
IsRising edge l = (k : ℕ) (d : Interval) → k + 1 < length l
    → edge_of edge (slice_index_or l k d) ≤ℤ edge_of edge (slice_index_or l (k + 1) d)

-- the sum of the distances to x of the edges before x
abbrev pub height_of : Edge → List Interval → ℤ → ℕ
height_of edge l x = sum_by (λ a. count_between (edge_of edge a) x) l

-- the first place: no time of 64 bits is before it
abbrev pub first_place : ℤ
first_place = neg_ℤ (pos (2 ^ 63))

-- the distance of x from it
abbrev pub distance_to : ℤ → ℕ
distance_to x = count_between first_place x

-- the first edges of the list, none after x, and the sum of their places
pub record IsMark (edge : Edge) (l : List Interval) (passed sum : ℕ) (x : ℤ) : Type 0 where
  pub within : passed ≤ length l
  pub total : sum ≡ sum_by (λ a. distance_to (edge_of edge a)) (take passed l)
  pub least : (k : ℕ) (d : Interval) → k < passed → first_place ≤ℤ edge_of edge (slice_index_or l k d)
  pub most : (k : ℕ) (d : Interval) → k < passed → edge_of edge (slice_index_or l k d) ≤ℤ x

-- and no others: the next edge, if there is one, is after x
abbrev pub HasPassedAll : Edge → List Interval → ℕ → ℤ → Type 0
HasPassedAll edge l passed x = (d : Interval) → passed < length l → x <ℤ edge_of edge (slice_index_or l passed d)
