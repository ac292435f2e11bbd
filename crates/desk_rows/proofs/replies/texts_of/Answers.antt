-- The sender and the transaction number are a unique key, so the row that is found has that message and its answer.
use Rattle.std.proofs.Common.{[], ◌∷◌}
use Rattle.desk_rows.specs.Replies.{reply_texts}
use Rattle.desk_rows.proofs.DeskTables.{finds_asked_key, refl, replies, reply_key}
use Rattle.desk_rows.proofs.replies.texts_of.Goals as goal

pub returns : goal.returns
returns g c = finds_asked_key replies reply_key (c.args.sender.now, c.args.number) tt (4 ∷ 5 ∷ []) c.reply_text.ensures refl refl reply_texts (λ b. refl) (λ x fits. tt) (rw (c.text.ensures.same, c.word.ensures.same) at c.find.ensures)
