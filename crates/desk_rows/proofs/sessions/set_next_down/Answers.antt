-- The row with this number gets the counter; the number is the table's primary key, so no other row changes.
use Rattle.std.proofs.Common.{[], ◌∷◌, ◌∙◌, arith}
use Rattle.registry_core.specs.JsonIntegers.{IsJsonInteger}
use Rattle.desk_rows.specs.Rows.{number}
use Rattle.desk_rows.specs.Schema.{session_table}
use Rattle.desk_rows.specs.order.Keys.{next_down_set}
use Rattle.desk_rows.proofs.DeskTables.{changes_at, everything, refl, sessions, understood, update_is}
use Rattle.desk_rows.proofs.Terms.{and_true, number_equal}
use Rattle.desk_rows.proofs.sessions.set_next_down.Goals as goal

pub returns-clause-changes : goal.returns-clause-changes
unfolding understood everything
returns-clause-changes g c =
    let n = c.args.session in
    let low : IsJsonInteger n = c.json_integer.ensures.range in
    changes_at sessions (update_is 6 session_table (0 ∷ []) 4 refl) _ refl refl (next_down_set c.args.next_down) (λ s fits. record { device = fits.device; nonce = fits.nonce }) (λ b. refl)
    4 (λ s. number c.args.next_down) (λ m s. refl) refl (λ m cells. refl) n (omega (arith, low)) (λ b. and_true _ ∙ number_equal b.0 n) (rw (c.json_integer.ensures.same, c.json_integer-2.ensures.same) at c.write.ensures.written)
