-- If memory runs out, the octets so far and the chunk that was read last are what was taken from the input.
use Rattle.std.proofs.Common.{inr, refl}
use Rattle.std.proofs.KnownBytes.{Consumes-trans}
use Rattle.desk_engine.proofs.csv_importing.report_text.Goals as goal

pub returns-then-is_err-clause-failed : goal.returns-then-is_err-clause-failed
returns-then-is_err-clause-failed g c = (inr refl, (_, Consumes-trans _ _ _ _ _ c.loop-chunk.invariant c.in-Ok.ensures.some))
