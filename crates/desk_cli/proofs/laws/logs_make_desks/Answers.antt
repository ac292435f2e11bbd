-- The printed lines are heard as the messages of the log, so both files have the tables of one log, and the same answers.
use Rattle.desk_cli.proofs.Standbys.{logs_make_desks}
use Rattle.desk_cli.proofs.laws.logs_make_desks.Goals as goal

pub returns : goal.returns
returns g c = logs_make_desks g.S.Store g.T.Store c.log_lines_are_the_desk.ensures
