-- The greatest number in the table is the number of bookings, in the tables of schema 1 too.
use Rattle.desk_rows.proofs.DeskTables.{bookings, everything, reads_first, reads_number, refl, understood}
use Rattle.desk_rows.proofs.bookings.last_booking.Goals as goal

pub returns-clause-second : goal.returns-clause-second
unfolding understood everything
returns-clause-second g c = reads_number bookings (refl, refl) c.find.ensures

pub returns-clause-first : goal.returns-clause-first
unfolding understood everything
returns-clause-first g c = reads_first bookings (λ db r has. has.ten.booking) refl (refl, refl) c.find.ensures
