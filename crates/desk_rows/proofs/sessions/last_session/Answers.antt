-- The greatest number in the table is the number of sessions, in the tables of schema 1 too.
use Rattle.desk_rows.proofs.DeskTables.{everything, reads_first, reads_number, refl, sessions, understood}
use Rattle.desk_rows.proofs.sessions.last_session.Goals as goal

pub returns-clause-second : goal.returns-clause-second
unfolding understood everything
returns-clause-second g c = reads_number sessions (refl, refl) c.find.ensures

pub returns-clause-first : goal.returns-clause-first
unfolding understood everything
returns-clause-first g c = reads_first sessions (λ db r has. has.ten.session) refl (refl, refl) c.find.ensures
