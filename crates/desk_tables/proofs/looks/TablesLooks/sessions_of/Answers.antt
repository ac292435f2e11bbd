-- Reading the numbers of a device's sessions leaves what the store represents; an error gives no part of the list.
use Rattle.desk_tables.proofs.LookUps.{answered_by_rows}
use Rattle.desk_tables.proofs.looks.TablesLooks.sessions_of.Goals as goal

pub returns-clause-read : goal.returns-clause-read
returns-clause-read g c = answered_by_rows _ _ _ _ _ _ _ c.in_ok-working.ensures c.sessions_of-answer.ensures c.store_result.ensures
