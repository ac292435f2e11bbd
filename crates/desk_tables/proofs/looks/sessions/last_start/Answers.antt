-- A session number from 2^53 on has no uplink, so there is no last start.
use Rattle.std.proofs.Common.{sym}
use Rattle.desk_tables.proofs.Absent.{no_start}
use Rattle.desk_tables.proofs.Reading.{unasked}
use Rattle.desk_tables.proofs.looks.sessions.last_start.Goals as goal

pub returns-in-None : goal.returns-in-None
returns-in-None g c = unasked _ _ _ (λ r config kept tell. sym (no_start config kept r tell c.args.session c.in-None.ensures))
