-- Octets that aren't UTF-8 are no JSON text.
use Rattle.desk_wire.proofs.TreeData.{of_octets}
use Rattle.desk_wire.proofs.documents.value_of.Goals as goal

pub returns-in-Err : goal.returns-in-Err
returns-in-Err c = of_octets c.args.text.now c.in-Err.ensures.cases.0
