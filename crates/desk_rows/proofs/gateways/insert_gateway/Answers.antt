-- The gateway's row comes last if its name isn't there yet.
use Rattle.desk_rows.specs.Schema.{gateway_table}
use Rattle.desk_rows.proofs.DeskTables.{adds, everything, gateway_key, gateways, insert_is, refl, understood}
use Rattle.desk_rows.proofs.gateways.insert_gateway.Goals as goal

pub returns-clause-changes : goal.returns-clause-changes
unfolding understood everything
returns-clause-changes g c = adds gateways gateway_key (insert_is 4 gateway_table refl) c.args.name.now c.text.ensures.range _ refl refl refl (rw (c.text.ensures.same) at c.write.ensures.written)
