-- The counter of the next downlink is read from the row with this number.
use Rattle.std.proofs.Common.{[], ◌∷◌}
use Rattle.desk_rows.proofs.DeskTables.{finds_asked, refl, sessions}
use Rattle.desk_rows.proofs.sessions.next_down.Goals as goal

pub returns : goal.returns
returns g c = finds_asked sessions c.args.number (4 ∷ []) c.next_down_text.ensures refl (λ b. b.1.next_down) (λ b. refl) (λ b fits. tt) (rw (c.json_integer.ensures.same) at c.find.ensures)
