-- The batch makes all eleven tables in an empty schema; if it fails there, the error is `Memory`, `Disk` or `Size`.
use Rattle.desk_rows.proofs.MakingLemmas.{tables_made, tables_refused}
use Rattle.desk_rows.proofs.making.create_tables.Goals as goal

pub returns-in-Ok-clause-made : goal.returns-in-Ok-clause-made
returns-in-Ok-clause-made g c clean has = (tables_made g.S.Store c.args.tx.now.conn.now c.execute_batch.new.self.conn.now (c.in-Ok.ensures.ran clean) has).0

pub returns-in-Ok-clause-open : goal.returns-in-Ok-clause-open
returns-in-Ok-clause-open g c clean has = (tables_made g.S.Store c.args.tx.now.conn.now c.execute_batch.new.self.conn.now (c.in-Ok.ensures.ran clean) has).1

pub returns-in-Err-clause-in_order : goal.returns-in-Err-clause-in_order
returns-in-Err-clause-in_order g c clean inside has =
    rw c.fault_of.ensures (tables_refused g.S.Store c.args.tx.now.conn.now c.execute_batch.new.self.conn.now c.in-Err.error (c.in-Err.ensures.ran clean) has inside)
