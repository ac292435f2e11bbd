-- The sender's row, with its role as a number, comes last if its name isn't there yet.
use Rattle.desk_rows.specs.Schema.{sender_table}
use Rattle.desk_rows.proofs.DeskTables.{adds, everything, insert_is, refl, sender_key, senders, understood}
use Rattle.desk_rows.proofs.senders.insert_sender.Goals as goal

pub returns-clause-changes : goal.returns-clause-changes
unfolding understood everything
returns-clause-changes g c = adds senders sender_key (insert_is 1 sender_table refl) (record { name = c.args.name.now; role = c.args.has }) c.text.ensures.range _ refl refl refl (rw (c.text.ensures.same, c.role.ensures) at c.write.ensures.written)
