-- The greatest rowid among the gateways is their number.
use Rattle.desk_rows.proofs.DeskTables.{everything, gateways, reads_number, refl, understood}
use Rattle.desk_rows.proofs.gateways.last_gateway.Goals as goal

pub returns : goal.returns
unfolding understood everything
returns g c = reads_number gateways (refl, refl) c.find.ensures
