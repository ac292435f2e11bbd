-- The gateway and the band are a unique key, so the row that is found has the band's only limit.
use Rattle.std.proofs.Common.{[], ◌∷◌}
use Rattle.radio_core.specs.Bands.{band_number}
use Rattle.desk_rows.proofs.DeskTables.{everything, finds_plain, limit_key, limits, refl, understood}
use Rattle.desk_rows.proofs.limits.limit_at.Goals as goal

pub returns : goal.returns
unfolding understood everything
returns g c = finds_plain limits limit_key (c.args.gateway.now, band_number c.args.of) tt (3 ∷ []) (refl, refl) refl refl (λ x. x.limit.most) (λ b. refl) (λ x fits. tt) (rw (c.text.ensures.same, c.band.ensures) at c.find.ensures)
