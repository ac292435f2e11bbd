-- A row comes back exactly if there is an owner of this name; the name is a unique key.
use Rattle.desk_rows.proofs.DeskTables.{everything, knows_key, owner_key, owners, refl, understood}
use Rattle.desk_rows.proofs.owners.owner_is_known.Goals as goal

pub returns : goal.returns
unfolding understood everything
returns g c = knows_key owners owner_key c.args.name.now tt (refl, refl) refl refl (rw (c.text.ensures.same) at c.is_found.ensures)
