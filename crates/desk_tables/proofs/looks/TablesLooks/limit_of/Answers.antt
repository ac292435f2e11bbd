-- Reading the limit of a gateway's band leaves what the store represents, also if the band's own limit is returned.
use Rattle.desk_tables.proofs.LookUps.{answered_by_rows}
use Rattle.desk_tables.proofs.looks.TablesLooks.limit_of.Goals as goal

pub returns-clause-read : goal.returns-clause-read
returns-clause-read g c = answered_by_rows _ _ _ _ _ _ _ c.in_ok-working.ensures c.limit_of-answer.ensures c.store_result.ensures
