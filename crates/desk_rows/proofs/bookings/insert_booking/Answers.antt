-- The booking's row comes last; the uplink's and the session's numbers are stored exactly if they are below 2^63.
use Rattle.std.proofs.Common.{ap, ap₂, ◌<◌, ◌^◌, ◌∷◌, drop}
use Rattle.sqlite_value.specs.declared.value.Value.TheVariants.{Text}
use Rattle.sqlite.specs.Values.{bound_value}
use Rattle.desk_rows.specs.Rows.{BookingRow, booking_cells}
use Rattle.desk_rows.specs.Schema.{booking_table}
use Rattle.desk_rows.proofs.DeskTables.{adds_free, bookings, everything, insert_is, refl, understood}
use Rattle.desk_rows.proofs.bookings.insert_booking.Goals as goal

pub returns-clause-changes : goal.returns-clause-changes
unfolding understood everything
returns-clause-changes g c =
    let x : BookingRow = record { booking = c.args.booking.now; session = c.args.session; kind = c.args.answers } in
    adds_free bookings (insert_is 9 booking_table refl) x (record { gateway = c.text.ensures.range; start = c.start.ensures.range; len = c.len.ensures.range }) (drop 1 (booking_cells x)) refl refl refl _ (_, refl)
    ((c.args.booking.now.uplink < 2 ^ 63) × (c.args.session < 2 ^ 63)) (λ small. ap₂ (λ u s. u ∷ Text c.args.booking.now.gateway ∷ s ∷ drop 4 (booking_cells x)) (ap bound_value (c.unsigned.ensures small.0)) (ap bound_value (c.unsigned-2.ensures small.1)))
    (λ r. Unit {0}) (λ r in_range free row is. refl) (rw (c.text.ensures.same, c.kind.ensures, c.band.ensures, c.start.ensures.same, c.len.ensures.same, c.standing.ensures) at c.write.ensures.written)
