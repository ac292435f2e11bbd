-- The first of the session's data uplinks in falling order of counters has the last counter.
use Rattle.desk_rows.proofs.Latest.{reads_last_counter}
use Rattle.desk_rows.proofs.uplinks.last_counter.Goals as goal

pub returns : goal.returns
returns g c = reads_last_counter c.args.session (rw (c.json_integer.ensures.same) at c.find.ensures)
