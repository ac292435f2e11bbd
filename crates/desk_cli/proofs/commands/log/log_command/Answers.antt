-- How `print_log` ended is reported on standard error; the lines that it printed are the command's.
use Rattle.desk_cli.proofs.commands.log.log_command.Goals as goal

pub returns : goal.returns
returns g c =
    let done = c.print_log-done.ensures in
    record { result = c.print_log-done.result.0; ended = c.end.ensures; says = record { desk = done.logs; not_a_desk = done.not_a_desk; clean = done.clean } }
