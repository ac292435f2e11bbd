-- The marks of an hour that slides, and the greatest use that it meets.
use Rattle.std.proofs.Common.{◌≡◌, ℕ, ◌+◌, ◌<◌, max, refl, arith, ap, ◌∙◌, List, [], ◌∷◌, ◌++◌, ◌&&◌, length, get_or}
use Rattle.std.specs.Prelude.{ℤ, pos, ◌+ℤ◌, ◌-ℤ◌, ◌≤ℤ◌, nat_le}
use Rattle.std.proofs.lemmas.Bool.Decides.{nat_tests}
use Rattle.std.proofs.lemmas.List.{get_or_read}
use Rattle.std.proofs.lemmas.Int.{ints}
use borrow.Author.Differences.{up, down}
use Rattle.duty_core.specs.Use.{Interval, end_of, shared_count, hour, hour_from, use_of}
use Rattle.duty_core.specs.Computed.{edge_hours, greatest_use, peak_of, hours_within}
use Rattle.duty_core.specs.declared.marks.Edge.{Edge}
use Rattle.duty_core.specs.declared.marks.Edge.TheVariants.{Start, End}
use Rattle.duty_core.specs.steps.Edges.{edges_within}
use Rattle.duty_core.specs.steps.Marks.{edge_of, IsRising, height_of}
use Rattle.duty_core.specs.steps.Windows.{IsWindow}
use Rattle.duty_core.specs.declared.sweep.Window.{Window}
use Rattle.duty_core.proofs.Counting.{lap_is}
use Rattle.duty_core.proofs.EdgeHours.{edge_use, use_of-push}
use Rattle.duty_core.proofs.Heights.{use_from_heights, mark_later}

-- ---- the use of the hour

pub used_from_heights : (l : List Interval) (t now later : ℤ) (begun ended later_begun later_ended : ℕ) → now ≡ t → later ≡ (t +ℤ pos hour)
    → begun ≡ height_of Start l now → ended ≡ height_of End l now → later_begun ≡ height_of Start l later → later_ended ≡ height_of End l later
    → use_of l t + later_ended + begun ≡ later_begun + ended
used_from_heights l t now later begun ended later_begun later_ended e f h i j k =
    omega (arith, h ∙ ap (height_of Start l) e, i ∙ ap (height_of End l) e, j ∙ ap (height_of Start l) f, k ∙ ap (height_of End l) f, use_from_heights l t)

pub with_new : (l : List Interval) (new : Interval) (t now : ℤ) (u s f : ℕ) → u ≡ use_of l now → s ≡ shared_count new (hour_from now) → f ≡ s → now ≡ t
    → u + f ≡ use_of (l ++ new ∷ []) t
with_new l new t now u s f h k e same =
    omega (arith, h ∙ ap (use_of l) same, k ∙ ap (λ t. shared_count new (hour_from t)) same, e, use_of-push l new t)

-- ---- the marks for a later hour

pub window_later : (l : List Interval) (w : Window) (t s : ℤ) → IsWindow l w t → t ≤ℤ s → IsWindow l w s
window_later l w t s h k = record {
  starts = mark_later Start l w.starts.passed w.starts.sum t s h.starts k;
  ends = mark_later End l w.ends.passed w.ends.sum t s h.ends k;
  later_starts = mark_later Start l w.later_starts.passed w.later_starts.sum (t +ℤ pos hour) (s +ℤ pos hour) h.later_starts (omega (arith, ints, k));
  later_ends = mark_later End l w.later_ends.passed w.later_ends.sum (t +ℤ pos hour) (s +ℤ pos hour) h.later_ends (omega (arith, ints, k));
}

-- for that at the next edge
pub window_next : (edge : Edge) (l : List Interval) (w : Window) (t s : ℤ) (o i : ℕ) (a d : Interval) → IsWindow l w t → i < length l → a ≡ get_or l i a
    → (t +ℤ pos o) ≡ edge_of edge a → (s +ℤ pos o) ≡ edge_of edge (get_or l (i + 1) d) → IsRising edge l → i + 1 < length l → IsWindow l w s
window_next edge l w t s o i a d h within read at_a at_next rising more =
    window_later l w t s h (omega (arith, ints, at_a ∙ ap (edge_of edge) (get_or_read l i a within read d), at_next, rising i d more))

-- ---- the greatest use

-- with one of no microseconds too it is the same
pub with_none : (l : List Interval) (a : Interval) (ts : List ℤ) → a.len ≡ 0 → greatest_use (l ++ a ∷ []) ts ≡ greatest_use l ts
with_none l a [] h = refl
with_none l a (t ∷ ts) h =
    omega (arith, use_of-push l a t, lap_is a t hour (up a.start + down t) (up t + down a.start) (omega arith), h, with_none l a ts h)

pub greatest_of_push : (l k : List Interval) (new : Interval) → greatest_use l (edge_hours (k ++ new ∷ [])) ≡ max (edge_use l new) (greatest_use l (edge_hours k))
greatest_of_push l [] new = omega arith
greatest_of_push l (a ∷ k) new = omega (arith, greatest_of_push l k new)

-- ---- the limit

-- the new span's edges, and those of the list
within_max : (a b c m : ℕ) → nat_le (max (max a b) c) m ≡ ((nat_le a m && nat_le b m) && nat_le c m)
within_max a b c m = grind (arith, nat_tests)

pub within_both : (l : List Interval) (new : Interval) (m : ℕ) → let all = l ++ new ∷ [] in
    hours_within all m ≡ (edges_within all m new && nat_le (greatest_use all (edge_hours l)) m)
unfolding hours_within peak_of
within_both l new m = let all = l ++ new ∷ [] in
    ap (λ n. nat_le n m) (greatest_of_push all l new)
    ∙ within_max (use_of all new.start) (use_of all (end_of new -ℤ pos hour)) (greatest_use all (edge_hours l)) m
