-- The row of meta and then the operator's make the opening rows; errors of both are `Memory`, `Disk` or `Size`.
use Rattle.std.proofs.Common.{arith, refl, ◌∙◌}
use Rattle.sqlite.specs.Held.{state}
use Rattle.sqlite.specs.State.{HasCleanDisk}
use Rattle.desk_rows.specs.Making.{settings_rows}
use Rattle.desk_tables.proofs.making.insert_first_rows.Goals as goal

pub returns-clause-made : goal.returns-clause-made
returns-clause-made g c clean inside up bare =
    let early : HasCleanDisk (state g.S.Store c.insert_settings.new.tx.conn.now) = omega (arith, c.insert_operator.ensures.changes.write.survives.clean, clean) in
    let one = c.in_ok-insert_settings.ensures.made early inside bare in
    let on = c.in_ok-insert_settings.ensures.write.goes_on early inside up in
    c.insert_operator.ensures.changes.made clean on.mode tt (settings_rows c.args.config.now) one

pub returns-clause-in_order : goal.returns-clause-in_order
returns-clause-in_order g c clean inside up unlimited bare =
    let early : HasCleanDisk (state g.S.Store c.insert_settings.new.tx.conn.now) = omega (arith, c.insert_operator.ensures.changes.write.survives.clean, clean) in
    let one = c.in_ok-insert_settings.ensures.made early inside bare in
    let on = c.in_ok-insert_settings.ensures.write.goes_on early inside up in
    c.insert_operator.ensures.changes.in_order clean on.mode (c.in_ok-insert_settings.ensures.write.survives.limit ∙ unlimited)
    tt (settings_rows c.args.config.now) one (refl, omega arith)
