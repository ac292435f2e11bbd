-- The version in the one row of meta becomes 2, which takes the state between the versions to that of the schema.
use Rattle.sqlite.specs.Held.{state}
use Rattle.desk_rows.proofs.MigratingLemmas.{version_in_order, version_raised}
use Rattle.desk_rows.proofs.migrating.raise_version.Goals as goal

pub returns-clause-made : goal.returns-clause-made
returns-clause-made g c clean inside r has =
    version_raised (state g.S.Store c.args.tx.now.conn.now) (state g.S.Store c.write.new.tx.conn.now) c.write.ensures.written clean inside r has

pub returns-clause-in_order : goal.returns-clause-in_order
returns-clause-in_order g c clean inside unlimited r has =
    version_in_order (state g.S.Store c.args.tx.now.conn.now) (state g.S.Store c.write.new.tx.conn.now) c.write.ensures.written clean inside r has unlimited
