-- A row comes back exactly if there is a gateway of this name; the name is a unique key.
use Rattle.desk_rows.proofs.DeskTables.{everything, gateway_key, gateways, knows_key, refl, understood}
use Rattle.desk_rows.proofs.gateways.gateway_is_known.Goals as goal

pub returns : goal.returns
unfolding understood everything
returns g c = knows_key gateways gateway_key c.args.name.now tt (refl, refl) refl refl (rw (c.text.ensures.same) at c.is_found.ensures)
