-- The one row of the gateway and the band gets the new limit, which is small enough to be stored exactly.
use Rattle.std.proofs.Common.{[], ◌∷◌}
use Rattle.radio_core.specs.Bands.{band_number}
use Rattle.desk_rows.specs.Rows.{number}
use Rattle.desk_rows.specs.Schema.{limit_index, limit_table}
use Rattle.desk_rows.specs.order.Changes.{limited}
use Rattle.desk_rows.proofs.DeskTables.{changes_key, limit_key, limits, refl, updates}
use Rattle.desk_rows.proofs.LimitUpdates.{has_key, storable}
use Rattle.desk_rows.proofs.limits.change_limit.Goals as goal

pub returns-clause-changes : goal.returns-clause-changes
returns-clause-changes g c =
    let band = band_number c.args.limit.band in
    changes_key limits (updates limit_table c.limit_text.ensures) _ refl refl (limited c.args.limit.most) (λ l fits. tt) (λ b. refl)
    3 (λ l. number c.args.limit.most) (λ m l. refl) refl (λ m cells. refl) limit_key limit_index 12 refl refl refl refl (c.args.gateway.now, band) tt (λ l is. has_key l c.args.gateway.now band is) (λ b. refl)
    (rw (c.text.ensures.same, c.band-2.ensures, c.band.ensures, c.unsigned.ensures (rw c.most.ensures.same (storable c.args.limit c.most.ensures.range)), c.most.ensures.same) at c.write.ensures.written)
