-- `run_given` with the arguments of the process; if it ended with status 0, they named a command, and that was done.
use Rattle.desk_cli.proofs.Asked.{done_asked}
use Rattle.desk_cli.proofs.program.run.Goals as goal

pub returns-clause-runs : goal.returns-clause-runs
returns-clause-runs g c = (_, c.run_given.ensures.runs)

pub returns-clause-done : goal.returns-clause-done
returns-clause-done g c done = done_asked _ _ _ _ _ c.run_given.ensures.runs done
