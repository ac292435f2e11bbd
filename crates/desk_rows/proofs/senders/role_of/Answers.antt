-- The name is a unique key, so the row that is found has that sender's only role.
use Rattle.std.proofs.Common.{[], ◌∷◌}
use Rattle.desk_rows.proofs.DeskTables.{finds_asked_plain, refl, sender_key, senders}
use Rattle.desk_rows.proofs.senders.role_of.Goals as goal

pub returns : goal.returns
returns g c = finds_asked_plain senders sender_key c.args.name.now tt (2 ∷ []) c.role_text.ensures refl refl (λ x. x.role) (λ b. refl) (λ x fits. tt) (rw (c.text.ensures.same) at c.find.ensures)
