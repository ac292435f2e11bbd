-- A message's text has no LF, so the lines of the part are split into its messages, and delivered as such.
use Rattle.desk_engine.proofs.LogInputs.{log_lines_are_the_desk}
use Rattle.desk_engine.proofs.laws.log_lines_are_the_desk.Goals as goal

pub returns : goal.returns
returns c = log_lines_are_the_desk c.inputs_are_cut.ensures c.messages_are_lines.ensures c.log_is_the_desk.ensures
