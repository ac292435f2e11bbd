-- The loop of `read_some`: nothing is taken from the input by the interrupted reads so far.
use Rattle.std.specs.Io.KnownBytes.{Keeps}
use Rattle.desk_engine.proofs.reads.read_some.Given as goal

abbrev pub invariant-loop : goal.invariant-loop
invariant-loop g l = Keeps (g.R.Read.remaining l.fn.reader) (g.R.Read.remaining l.reader)
