-- The hour that ends with the edge begins at a time that fits 64 bits, so the use compared is that of the definition.
use Rattle.std.proofs.Common.{arith, to_z, of_z, ◌++◌, ◌∷◌, [], pos, ◌-ℤ◌}
use mir.Syntax.{w64}
use Rattle.std.proofs.lemmas.Int.{ints}
use Rattle.duty_core.specs.Use.{end_of, hour}
use Rattle.duty_core.proofs.EdgeHours.{within_here}
use Rattle.duty_core.proofs.hours.end_fits.Goals as goal

pub returns : goal.returns
returns c =
    within_here (c.args.spans.now ++ c.args.new ∷ []) (to_z w64 (of_z w64 c.hour_to_end.result)) (end_of c.args.edge -ℤ pos hour) _ _ c.args.most c.use_with.ensures (omega (arith, ints)) c.from.ensures
