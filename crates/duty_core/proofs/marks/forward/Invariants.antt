-- The loop of `forward`: the mark has the edges passed so far and the sum of their places, and fewer are left each time.
use Rattle.std.proofs.Common.{length, ◌-◌}
use Rattle.duty_core.specs.steps.Marks.{IsMark}
use Rattle.duty_core.proofs.marks.forward.Given as goal

abbrev pub invariant-loop-passed : goal.invariant-loop-passed
invariant-loop-passed l = IsMark l.edge l.spans l.passed l.sum l.x

abbrev pub decreases-loop-passed : goal.decreases-loop-passed
decreases-loop-passed l = length l.spans - l.passed
