-- The edge's start fits 64 bits, so the use of the hour from it is that of the definition.
use Rattle.std.proofs.Common.{arith, to_z, of_z}
use mir.Syntax.{w64}
use Rattle.std.proofs.lemmas.Int.{ints}
use Rattle.duty_core.proofs.EdgeHours.{use_here}
use Rattle.duty_core.proofs.hours.start_use.Goals as goal

pub returns : goal.returns
returns c = use_here c.args.spans.now (to_z w64 (of_z w64 c.start.result)) c.args.edge.start _ c.use_at.ensures (omega (arith, ints))
