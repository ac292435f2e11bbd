-- How `hear_report` ended is reported on standard error; the records that it heard and answered are the command's.
use Rattle.desk_cli.proofs.commands.importing.import_command.Goals as goal

pub returns : goal.returns
returns g c =
    let done = c.hear_report-done.ensures in
    record { result = c.hear_report-done.result.0; ended = c.end.ensures; says = record { desk = done.imports; not_a_desk = done.not_a_desk; clean = done.clean } }
