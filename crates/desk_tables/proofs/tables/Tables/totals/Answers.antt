-- The counts are read in statements one after another, and the store represents the same after them.
use Rattle.desk_tables.proofs.LookUps.{read_asked}
use Rattle.desk_tables.proofs.tables.Tables.totals.Goals as goal

pub returns-clause-read : goal.returns-clause-read
returns-clause-read g c = read_asked _ _ _ _ _ _ _ c.if-self.false c.totals_in-answer.ensures c.store_result.ensures
