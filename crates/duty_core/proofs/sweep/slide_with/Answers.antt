-- The use with the new span is that of the others and what the new one shares with the hour, whose beginning fits 64 bits.
use Rattle.std.proofs.Common.{arith, to_z, of_z}
use mir.Syntax.{w64}
use Rattle.std.proofs.lemmas.Int.{ints}
use Rattle.duty_core.proofs.Sliding.{with_new}
use Rattle.duty_core.proofs.sweep.slide_with.Goals as goal

pub returns-clause-used : goal.returns-clause-used
returns-clause-used c =
    with_new c.args.spans.now c.args.new c.args.t (to_z w64 (of_z w64 c.args.t)) _ _ _ c.slide-used.ensures.used c.in_hour.ensures c.from.ensures (omega (arith, ints))
