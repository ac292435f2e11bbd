-- The greatest rowid among the owners is their number.
use Rattle.desk_rows.proofs.DeskTables.{everything, owners, reads_number, refl, understood}
use Rattle.desk_rows.proofs.owners.last_owner.Goals as goal

pub returns : goal.returns
unfolding understood everything
returns g c = reads_number owners (refl, refl) c.find.ensures
