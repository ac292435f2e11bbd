-- The first of the session's uplinks in falling order of starts has the greatest start.
use Rattle.desk_rows.proofs.LastOnes.{reads_last_start}
use Rattle.desk_rows.proofs.uplinks.last_start.Goals as goal

pub returns : goal.returns
returns g c = reads_last_start c.last_start_text.ensures c.args.session (rw (c.json_integer.ensures.same) at c.find.ensures)
