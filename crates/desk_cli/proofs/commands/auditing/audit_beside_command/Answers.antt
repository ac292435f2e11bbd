-- What `print_audit_beside` promises of its result, with the line on standard error, is what the command promises.
use Rattle.desk_cli.proofs.commands.auditing.audit_beside_command.Goals as goal

pub returns : goal.returns
returns g c = record { result = c.print_audit_beside-done.result.0; ended = c.end.ensures; says = c.print_audit_beside-done.ensures }
