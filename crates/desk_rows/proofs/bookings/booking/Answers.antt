-- The row with this number, read from its columns without the session and the kind of the uplink, is the booking.
use Rattle.std.proofs.Common.{[], ◌∷◌}
use Rattle.desk_rows.proofs.DeskTables.{bookings, everything, finds_number, refl, understood}
use Rattle.desk_rows.proofs.bookings.booking.Goals as goal

pub returns : goal.returns
unfolding understood everything
returns g c = finds_number bookings c.args.number (2 ∷ 3 ∷ 6 ∷ 7 ∷ 8 ∷ 9 ∷ []) (refl, refl) refl (λ b. b.1.booking) (λ b. refl) (λ b fits. (fits.gateway, fits.start, fits.len)) (rw (c.json_integer.ensures.same) at c.find.ensures)
