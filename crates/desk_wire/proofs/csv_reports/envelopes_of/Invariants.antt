-- The loop of `envelopes_of`: the envelopes so far, and then those of the records that are left, are all envelopes.
use Rattle.std.proofs.Common.{◌≡◌, ◌≤◌, ◌-◌}
use Rattle.desk_wire.specs.CsvReports.{envelopes_from}
use Rattle.desk_wire.specs.steps.CsvReports.{IsReading, rows_left}
use Rattle.desk_wire.proofs.CsvRows.{after}
use Rattle.desk_wire.proofs.csv_reports.envelopes_of.Given as goal

-- the envelopes so far, and then those of the records that are left, are the envelopes of all
abbrev pub invariant-loop-number : goal.invariant-loop-number
invariant-loop-number l = record {
  begun : 2 ≤ l.number;
  within : l.number ≤ 100002;
  reading : IsReading l.fn.rows → IsReading l.rows;
  left : IsReading l.fn.rows → envelopes_from l.fn.sender 2 (rows_left 100001 l.fn.rows) ≡ after l.envelopes.items (envelopes_from l.fn.sender l.number (rows_left (100003 - l.number) l.rows));
}
