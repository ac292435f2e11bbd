-- Reading one message of the log by its number leaves the log and the facts as they were.
use Rattle.desk_tables.proofs.LookUps.{answered_by_rows}
use Rattle.desk_tables.proofs.looks.TablesLooks.entry.Goals as goal

pub returns-clause-read : goal.returns-clause-read
returns-clause-read g c = answered_by_rows _ _ _ _ _ _ _ c.in_ok-working.ensures c.entry-answer.ensures c.store_result.ensures
