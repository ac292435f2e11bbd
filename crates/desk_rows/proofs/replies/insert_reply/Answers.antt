-- The message's row comes last if its sender and transaction number aren't there yet.
use Rattle.desk_rows.specs.Schema.{reply_table}
use Rattle.desk_rows.proofs.DeskTables.{adds, everything, insert_is, refl, replies, reply_key, understood}
use Rattle.desk_rows.proofs.replies.insert_reply.Goals as goal

pub returns-clause-changes : goal.returns-clause-changes
unfolding understood everything
returns-clause-changes g c = adds replies reply_key (insert_is 2 reply_table refl) (record { sender = c.args.sender.now; number = c.args.number; message = c.args.message.now; answer = c.args.answer.now }) tt _ refl refl refl (rw (c.text.ensures.same, c.word.ensures.same, c.blob.ensures, c.blob-2.ensures) at c.write.ensures.written)
