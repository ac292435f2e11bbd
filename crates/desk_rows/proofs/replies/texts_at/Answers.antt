-- The row with this number has the message and the answer at that place of the log.
use Rattle.desk_rows.proofs.NumberedReplies.{finds_reply}
use Rattle.desk_rows.proofs.replies.texts_at.Goals as goal

pub returns : goal.returns
returns g c = finds_reply c.args.number c.numbered_reply_text.ensures (rw (c.json_integer.ensures.same) at c.find.ensures)
