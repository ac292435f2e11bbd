-- If reading the sender's role fails, the cached one stays, and so does what the store represents, unless the disk failed.
use Rattle.desk_tables.proofs.LookUps.{answered_by_rows}
use Rattle.desk_tables.proofs.looks.TablesLooks.role_of.Goals as goal

pub returns-in-Err-clause-read : goal.returns-in-Err-clause-read
returns-in-Err-clause-read g c = answered_by_rows _ _ _ _ _ _ _ c.in_ok-working.ensures c.role_of-answer.ensures c.in-Err.ensures
