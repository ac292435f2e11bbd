-- The cut's lines and rest make the input, and any lines and rest without an LF that make it are the cut's.
use Rattle.desk_engine.proofs.InputCuts.{inputs_are_cut}
use Rattle.desk_engine.proofs.laws.inputs_are_cut.Goals as goal

pub returns : goal.returns
returns c = inputs_are_cut
