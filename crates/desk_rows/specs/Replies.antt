-- The texts of messages and answers, as contracts see them.
use Rattle.std.specs.Prelude.{◌≡◌, ℕ, List, Option, Result, option_map}
use Rattle.sqlite_trees.specs.declared.store.Store.{Ghosts}
use Rattle.sqlite.specs.Held.{Held}
use Rattle.desk_rows.specs.Calls.{Reads}
use Rattle.desk_rows.specs.Rows.{ReplyRow, Rows}
use Rattle.desk_rows.specs.declared.faults.RowFault.{RowFault}
use Rattle.desk_rows.specs.declared.replies.ReplyTexts.{ReplyTexts}

abbrev pub kept_texts : ReplyTexts → List ℕ × List ℕ
kept_texts t = (t.message.items, t.answer.items)

abbrev pub reply_texts : ReplyRow → List ℕ × List ℕ
reply_texts r = (r.message, r.answer)

-- a look-up that returns these texts of the rows
abbrev pub ReturnsTexts : {S : Type 0} → Ghosts S → Held S → Held S → Result (Option ReplyTexts) RowFault → (Rows → Option (List ℕ × List ℕ)) → Type 0
ReturnsTexts g old new result found = Reads g old new result (λ r texts. option_map kept_texts texts ≡ found r)
