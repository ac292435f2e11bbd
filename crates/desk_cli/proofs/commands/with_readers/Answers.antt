-- Five commands, `lines` to `import`, are added one after another, each after the ones before.
use Rattle.desk_cli.proofs.commands.with_readers.Goals as goal

pub returns : goal.returns
returns c _ line =
    let one = c.added-desk.ensures _ _ line c.lines_app.ensures in
    let two = c.added-desk-2.ensures _ _ one c.init_app.ensures in
    let three = c.added-desk-3.ensures _ _ two c.migrate_app.ensures in
    let four = c.added-desk-4.ensures _ _ three c.hear_app.ensures in
    c.added.ensures _ _ four c.import_app.ensures
