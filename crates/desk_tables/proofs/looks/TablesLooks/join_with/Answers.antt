-- Two statements in a row, one for the session and one for its join uplink, leave what the store represents.
use Rattle.desk_tables.proofs.LookUps.{read_asked}
use Rattle.desk_tables.proofs.looks.TablesLooks.join_with.Goals as goal

pub returns-clause-read : goal.returns-clause-read
returns-clause-read g c = read_asked _ _ _ _ _ _ _ c.in_ok-working.ensures c.join_with-answer.ensures c.store_result.ensures
