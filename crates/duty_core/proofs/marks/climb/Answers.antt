-- x fits 64 bits, so the height that is computed is the definition's at x.
use Rattle.std.proofs.lemmas.Int.{to_z-of_z}
use Rattle.duty_core.proofs.marks.climb.Goals as goal

pub returns-clause-same : goal.returns-clause-same
returns-clause-same c =
    let fits = c.ranges.x in
    simp to_z-of_z at c.height.ensures.same
