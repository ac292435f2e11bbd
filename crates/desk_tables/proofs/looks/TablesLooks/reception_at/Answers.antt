-- Reading one reception leaves what the store represents; for an uplink number from 2^53 on nothing is read at all.
use Rattle.desk_tables.proofs.LookUps.{answered_by_rows}
use Rattle.desk_tables.proofs.looks.TablesLooks.reception_at.Goals as goal

pub returns-clause-read : goal.returns-clause-read
returns-clause-read g c = answered_by_rows _ _ _ _ _ _ _ c.in_ok-working.ensures c.reception_at-answer.ensures c.store_result.ensures
