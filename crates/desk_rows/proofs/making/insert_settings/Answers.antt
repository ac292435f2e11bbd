-- The row of meta makes the first rows of a desk in bare tables; without a step limit an error is `Memory`, `Disk` or `Size`.
use Rattle.sqlite.specs.Held.{state}
use Rattle.desk_rows.proofs.MakingLemmas.{settings_made, settings_in_order}
use Rattle.desk_rows.proofs.making.insert_settings.Goals as goal

pub returns-clause-made : goal.returns-clause-made
returns-clause-made g c clean inside bare =
    settings_made (state g.S.Store c.args.tx.now.conn.now) (state g.S.Store c.write.new.tx.conn.now) c.args.config.now bare
    (rw (c.text.ensures.same, c.text-2.ensures.same, c.word.ensures.same, c.word-2.ensures.same, c.receiver.ensures, c.operator.ensures, c.base.ensures, c.addresses.ensures.same) at c.write.ensures.written) clean inside

pub returns-clause-in_order : goal.returns-clause-in_order
returns-clause-in_order g c clean inside unlimited bare =
    settings_in_order (state g.S.Store c.args.tx.now.conn.now) (state g.S.Store c.write.new.tx.conn.now) c.args.config.now bare
    (rw (c.text.ensures.same, c.text-2.ensures.same, c.word.ensures.same, c.word-2.ensures.same, c.receiver.ensures, c.operator.ensures, c.base.ensures, c.addresses.ensures.same) at c.write.ensures.written) clean inside unlimited
