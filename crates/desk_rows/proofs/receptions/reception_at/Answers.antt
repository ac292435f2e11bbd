-- The uplink and the gateway are a unique key, so the row that is found has the only reception of that uplink there.
use Rattle.std.proofs.Common.{[], ◌∷◌}
use Rattle.desk_rows.proofs.DeskTables.{everything, finds_plain, reception_key, receptions, refl, understood}
use Rattle.desk_rows.proofs.receptions.reception_at.Goals as goal

pub returns : goal.returns
unfolding understood everything
returns g c = finds_plain receptions reception_key (c.args.uplink, c.args.gateway.now) tt (3 ∷ 4 ∷ 5 ∷ []) (refl, refl) refl refl (λ x. x.reception) (λ b. refl) (λ x fits. (fits.end, fits.freq)) (rw (c.json_integer.ensures.same, c.text.ensures.same) at c.find.ensures)
