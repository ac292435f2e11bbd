-- No passed edge is after x, so the sum of their places is at most their number times x's, and the subtraction succeeds.
use Rattle.std.proofs.Common.{◌*◌, arith, ap}
use Rattle.std.proofs.lemmas.Int.{to_z-of_z}
use Rattle.duty_core.proofs.Heights.{height_from_mark}
use Rattle.duty_core.proofs.marks.height.Goals as goal

pub overflow_sub-result : goal.overflow_sub-result
overflow_sub-result c =
    let fits = c.ranges.x in
    let same = (simp to_z-of_z at c.place.ensures) in
    omega (arith, same, ap (λ n. c.args.at.passed * n) same, height_from_mark c.args.edge c.args.spans.now c.args.at.passed c.args.at.sum c.args.x c.requires.mark c.requires.stop c.requires.rising)
