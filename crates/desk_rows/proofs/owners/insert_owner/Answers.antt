-- The owner's row comes last if its name isn't there yet.
use Rattle.desk_rows.specs.Schema.{owner_table}
use Rattle.desk_rows.proofs.DeskTables.{adds, everything, insert_is, owner_key, owners, refl, understood}
use Rattle.desk_rows.proofs.owners.insert_owner.Goals as goal

pub returns-clause-changes : goal.returns-clause-changes
unfolding understood everything
returns-clause-changes g c = adds owners owner_key (insert_is 3 owner_table refl) c.args.name.now c.text.ensures.range _ refl refl refl (rw (c.text.ensures.same) at c.write.ensures.written)
