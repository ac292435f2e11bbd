-- The files after a crash contain what the connection could leave, which is a desk with the log, maybe with the in-flight message.
use Rattle.desk_cli.proofs.InFiles.{left}
use Rattle.desk_cli.proofs.laws.desks_are_left.Goals as goal

pub returns : goal.returns
returns g c = λ conn octets numbered may config heard doubt list leaves. left octets conn numbered may config heard doubt list leaves
