-- The greatest number in the table is the number of uplinks, in the tables of schema 1 too.
use Rattle.desk_rows.proofs.DeskTables.{everything, reads_first, reads_number, refl, understood, uplinks}
use Rattle.desk_rows.proofs.uplinks.last_uplink.Goals as goal

pub returns-clause-second : goal.returns-clause-second
unfolding understood everything
returns-clause-second g c = reads_number uplinks (refl, refl) c.find.ensures

pub returns-clause-first : goal.returns-clause-first
unfolding understood everything
returns-clause-first g c = reads_first uplinks (λ db r has. has.ten.uplink) refl (refl, refl) c.find.ensures
