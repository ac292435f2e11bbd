-- How `print_check` ended is reported on standard error, and what it promises of the file is handed on.
use Rattle.desk_cli.proofs.commands.checking.check_command.Goals as goal

pub returns : goal.returns
returns g c = record { result = c.print_check-done.result.0; ended = c.end.ensures; says = c.print_check-done.ensures }
