-- The loop of `report_text`: the octets so far are those that were read, and fewer are allowed each time.
use Rattle.std.proofs.Common.{◌-◌, ◌+◌}
use Rattle.std.specs.Io.KnownBytes.{Consumes}
use Rattle.desk_wire.specs.CsvReports.{longest_report}
use Rattle.desk_engine.proofs.csv_importing.report_text.Given as goal

-- the octets so far are those that were read
abbrev pub invariant-loop-chunk : goal.invariant-loop-chunk
invariant-loop-chunk g l = Consumes (g.R.Read.remaining l.fn.reader) (g.R.Read.remaining l.reader) l.text.items

abbrev pub decreases-loop-chunk : goal.decreases-loop-chunk
decreases-loop-chunk g l = longest_report + 1 - l.text.len
