-- The edge's start fits 64 bits, so the use compared, with the new span too, is that of the definition.
use Rattle.std.proofs.Common.{arith, to_z, of_z, ◌++◌, ◌∷◌, []}
use mir.Syntax.{w64}
use Rattle.std.proofs.lemmas.Int.{ints}
use Rattle.duty_core.proofs.EdgeHours.{within_here}
use Rattle.duty_core.proofs.hours.start_fits.Goals as goal

pub returns : goal.returns
returns c =
    within_here (c.args.spans.now ++ c.args.new ∷ []) (to_z w64 (of_z w64 c.start.result)) c.args.edge.start _ _ c.args.most c.use_with.ensures (omega (arith, ints)) c.from.ensures
