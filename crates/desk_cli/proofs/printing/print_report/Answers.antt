-- How `print_by_store` ended is reported on standard error; the report that it printed is the command's.
use Rattle.desk_cli.proofs.printing.print_report.Goals as goal

pub returns : goal.returns
returns g c = record { result = c.print_by_store-done.result.0; ended = c.end.ensures; says = c.print_by_store-done.ensures }
