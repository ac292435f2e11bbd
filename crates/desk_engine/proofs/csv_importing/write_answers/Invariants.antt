-- The loop of `write_answers`: the lines of the answers so far are written.
use Rattle.std.proofs.Common.{take}
use Rattle.std.specs.List.{flat_map}
use Rattle.std.specs.Io.KnownBytes.{Appends}
use Rattle.desk_engine.specs.steps.CsvImporting.{line_of}
use Rattle.desk_engine.proofs.csv_importing.write_answers.Given as goal

-- the answers so far are written
abbrev pub invariant-loop-outcome : goal.invariant-loop-outcome
invariant-loop-outcome g l = Appends (g.W.Write.contents l.fn.writer) (g.W.Write.contents l.writer) (flat_map line_of (take l.outcome-index l.outcomes))
