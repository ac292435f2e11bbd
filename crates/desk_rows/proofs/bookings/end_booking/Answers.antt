-- The row with this number is changed in the column of its state alone, since the number is the table's primary key.
use Rattle.std.proofs.Common.{[], ◌∷◌, ◌∙◌, arith}
use Rattle.registry_core.specs.JsonIntegers.{IsJsonInteger}
use Rattle.desk_rows.specs.Rows.{number, standing_number}
use Rattle.desk_rows.specs.Schema.{booking_table}
use Rattle.desk_rows.specs.order.Changes.{ended_row}
use Rattle.desk_rows.proofs.DeskTables.{bookings, changes_at, everything, refl, understood, update_is}
use Rattle.desk_rows.proofs.Terms.{and_true, number_equal}
use Rattle.desk_rows.proofs.bookings.end_booking.Goals as goal

pub returns-clause-changes : goal.returns-clause-changes
unfolding understood everything
returns-clause-changes g c =
    let n = c.args.number in
    let low : IsJsonInteger n = c.json_integer.ensures.range in
    changes_at bookings (update_is 9 booking_table (0 ∷ []) 9 refl) _ refl refl (ended_row c.args.sent) (λ b fits. record { gateway = fits.gateway; start = fits.start; len = fits.len }) (λ b. refl)
    9 (λ b. number (standing_number (ended_row c.args.sent b).booking.standing)) (λ m b. refl) refl (λ m cells. refl) n (omega (arith, low)) (λ b. and_true _ ∙ number_equal b.0 n)
    (rw (c.json_integer.ensures.same, c.standing.ensures, c.ended.ensures) at c.write.ensures.written)
