-- How `hear_lines` ended is reported on standard error; what it read, heard and wrote is the command's.
use Rattle.desk_cli.proofs.commands.hear.hear_command.Goals as goal

pub returns : goal.returns
returns g c =
    let done = c.hear_lines-done.ensures in
    record { result = c.hear_lines-done.result.0; ended = c.end.ensures; says = record { desk = done.hears; not_a_desk = done.not_a_desk; clean = done.clean } }
