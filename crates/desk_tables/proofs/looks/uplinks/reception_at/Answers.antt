-- An uplink number from 2^53 on has no reception at any gateway.
use Rattle.std.proofs.Common.{sym}
use Rattle.desk_tables.proofs.Absent.{no_reception}
use Rattle.desk_tables.proofs.Reading.{unasked}
use Rattle.desk_tables.proofs.looks.uplinks.reception_at.Goals as goal

pub returns-in-None : goal.returns-in-None
returns-in-None g c = unasked _ _ _ (λ r config kept tell. sym (no_reception config kept r tell c.args.uplink c.in-None.ensures c.args.gateway.now))
