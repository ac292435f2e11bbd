-- The loop of `rises`: no edge so far is less than the one before it.
use Rattle.std.proofs.Common.{ℕ, ◌+◌, ◌<◌, get_or}
use Rattle.std.specs.Prelude.{◌≤ℤ◌}
use Rattle.duty_core.specs.Use.{Interval}
use Rattle.duty_core.specs.steps.Marks.{edge_of}
use Rattle.duty_core.proofs.marks.rises.Given as goal

abbrev pub invariant-loop-i : goal.invariant-loop-i
invariant-loop-i l =
    (k : ℕ) (d : Interval) → k + 1 < l.i → edge_of l.edge (get_or l.spans k d) ≤ℤ edge_of l.edge (get_or l.spans (k + 1) d)
