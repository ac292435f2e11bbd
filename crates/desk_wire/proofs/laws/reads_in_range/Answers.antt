-- Each value of an envelope is read by a form that limits it to the range of its type.
use Rattle.desk_wire.proofs.InRange as range
use Rattle.desk_wire.proofs.laws.reads_in_range.Goals as goal

pub returns : goal.returns
returns c = range.reads_in_range
