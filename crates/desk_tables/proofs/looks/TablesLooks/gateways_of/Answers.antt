-- Reading the gateways of an uplink's receptions leaves what the store represents; what is returned is shown by the search.
use Rattle.desk_tables.proofs.LookUps.{answered_by_rows}
use Rattle.desk_tables.proofs.looks.TablesLooks.gateways_of.Goals as goal

pub returns-clause-read : goal.returns-clause-read
returns-clause-read g c = answered_by_rows _ _ _ _ _ _ _ c.in_ok-working.ensures c.gateways_of-answer.ensures c.store_result.ensures
