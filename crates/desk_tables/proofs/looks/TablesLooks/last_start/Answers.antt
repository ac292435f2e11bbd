-- Reading the greatest start of a session's uplinks leaves what the store represents.
use Rattle.desk_tables.proofs.LookUps.{answered_by_rows}
use Rattle.desk_tables.proofs.looks.TablesLooks.last_start.Goals as goal

pub returns-clause-read : goal.returns-clause-read
returns-clause-read g c = answered_by_rows _ _ _ _ _ _ _ c.in_ok-working.ensures c.last_start-answer.ensures c.store_result.ensures
