-- The first of the sender's rows in falling order of transaction numbers has the greatest one.
use Rattle.desk_rows.proofs.LastOnes.{reads_last_transaction}
use Rattle.desk_rows.proofs.replies.last_transaction.Goals as goal

pub returns : goal.returns
returns g c = reads_last_transaction c.last_transaction_text.ensures c.args.sender.now (rw (c.text.ensures.same) at c.find.ensures)
