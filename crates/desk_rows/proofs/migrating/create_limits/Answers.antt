-- The new table takes the ten tables to the state between the versions; a name that is used makes the statement fail.
use Rattle.sqlite.specs.Held.{state}
use Rattle.desk_rows.proofs.MigratingLemmas.{limits_in_order, limits_made, name_taken}
use Rattle.desk_rows.proofs.migrating.create_limits.Goals as goal

pub returns-clause-made : goal.returns-clause-made
returns-clause-made g c clean inside r has =
    limits_made (state g.S.Store c.args.tx.now.conn.now) (state g.S.Store c.write.new.tx.conn.now) c.write.ensures.written clean inside r has

pub returns-clause-taken : goal.returns-clause-taken
returns-clause-taken g c clean inside used =
    name_taken (state g.S.Store c.args.tx.now.conn.now) (state g.S.Store c.write.new.tx.conn.now) c.write.ensures.written clean inside used

pub returns-clause-in_order : goal.returns-clause-in_order
returns-clause-in_order g c clean inside r has =
    limits_in_order (state g.S.Store c.args.tx.now.conn.now) (state g.S.Store c.write.new.tx.conn.now) c.write.ensures.written clean inside r has
