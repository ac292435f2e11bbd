-- A session number from 2^53 on has no data uplink, so there is no last counter.
use Rattle.std.proofs.Common.{sym}
use Rattle.desk_tables.proofs.Absent.{no_counter}
use Rattle.desk_tables.proofs.Reading.{unasked}
use Rattle.desk_tables.proofs.looks.sessions.last_counter.Goals as goal

pub returns-in-None-clause-kept : goal.returns-in-None-clause-kept
returns-in-None-clause-kept g c = unasked _ _ _ (λ r config kept tell. sym (no_counter config kept r tell c.args.session c.in-None.ensures))
