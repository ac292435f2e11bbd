-- The row with this number, read from all its columns, is the uplink.
use Rattle.std.proofs.Common.{[], ◌∷◌}
use Rattle.desk_rows.proofs.DeskTables.{everything, finds_number, refl, understood, uplinks}
use Rattle.desk_rows.proofs.uplinks.uplink.Goals as goal

pub returns : goal.returns
unfolding understood everything
returns g c = finds_number uplinks c.args.number (0 ∷ 2 ∷ 3 ∷ 4 ∷ 5 ∷ 6 ∷ 7 ∷ 8 ∷ []) (refl, refl) refl (λ b. b) (λ b. refl) (λ b fits. fits) (rw (c.json_integer.ensures.same) at c.find.ensures)
