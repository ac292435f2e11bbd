-- Reading one booking leaves what the store represents, and an error of the statement is the look-up's.
use Rattle.desk_tables.proofs.LookUps.{answered_by_rows}
use Rattle.desk_tables.proofs.looks.TablesLooks.booking.Goals as goal

pub returns-clause-read : goal.returns-clause-read
returns-clause-read g c = answered_by_rows _ _ _ _ _ _ _ c.in_ok-working.ensures c.booking-answer.ensures c.store_result.ensures
