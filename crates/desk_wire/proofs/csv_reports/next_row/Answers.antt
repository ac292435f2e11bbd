-- A record that is read is the first of those that were left, and after it the reader has the others.
use Rattle.desk_wire.proofs.CsvRows.{left_step, still_reading}
use Rattle.desk_wire.proofs.csv_reports.next_row.Goals as goal

pub returns-clause-reading : goal.returns-clause-reading
returns-clause-reading c = λ reading.
    still_reading c.args.rows.now c.read_byte_record.new.self c.in-Ok.found _ reading (c.in-Ok.ensures.reads reading.trim reading.ready) (c.in-Ok.ensures.ready reading.trim)

pub returns-clause-left : goal.returns-clause-left
returns-clause-left c = λ n reading.
    left_step n c.args.rows.now c.read_byte_record.new.self c.in-Ok.found _ reading (c.in-Ok.ensures.reads reading.trim reading.ready)
