-- The greatest rowid among the senders is their number.
use Rattle.desk_rows.proofs.DeskTables.{everything, reads_number, refl, senders, understood}
use Rattle.desk_rows.proofs.senders.last_sender.Goals as goal

pub returns : goal.returns
unfolding understood everything
returns g c = reads_number senders (refl, refl) c.find.ensures
