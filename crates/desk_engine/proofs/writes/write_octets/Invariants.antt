-- The loop of `write_octets`: exactly the octets before the rest are written.
use Rattle.std.proofs.Common.{◌≡◌, ◌++◌, ℕ, List}
use Rattle.std.specs.Io.KnownBytes.{Appends}
use Rattle.desk_engine.proofs.writes.write_octets.Given as goal

-- what is gone from the rest was written
abbrev pub invariant-loop : goal.invariant-loop
invariant-loop g l = (done : List ℕ) × (l.fn.octets ≡ done ++ l.rest) × Appends (g.W.Write.contents l.fn.writer) (g.W.Write.contents l.writer) done
