-- The texts of the reply with a number.
use Rattle.std.proofs.Common.{◌≡◌, ◌==◌, ℕ, List, [], ◌∷◌, Option, Result, option_map, refl, ap, ◌∙◌}
use Rattle.sqlite_value.specs.declared.value.Value.TheVariants.{Blob}
use Rattle.sqlite_sql.specs.Term.{col}
use Rattle.sqlite.specs.State.{State}
use Rattle.registry_core.specs.Numbered.{item_at}
use Rattle.desk_rows.specs.Schema.{reply_tree}
use Rattle.desk_rows.specs.declared.faults.RowFault.{RowFault}
use Rattle.desk_rows.specs.declared.replies.ReplyTexts.{ReplyTexts}
use Rattle.desk_rows.specs.Calls.{ReadsRows}
use Rattle.desk_rows.specs.Replies.{kept_texts, reply_texts}
use Rattle.desk_rows.specs.Rows.{ReplyRow, number, reply_cells}
use Rattle.desk_rows.specs.steps.Queries.{Finds}
use Rattle.desk_rows.specs.steps.Texts.{AsksFor, by_rowid, is}
use Rattle.desk_rows.proofs.Lookups.{found_by, says_so}
use Rattle.desk_rows.proofs.Ordered.{every, found_number, map_twice}
use Rattle.desk_rows.proofs.StatementTexts.{lookup_is}
use Rattle.desk_rows.proofs.Terms.{and_true, number_equal}
use Rattle.desk_rows.proofs.Updating.{overlay_none}

pub finds_reply : (n : ℕ) {sql : List ℕ} {names : List (List ℕ)} → AsksFor sql 1 (by_rowid reply_tree (is 0 0 ∷ []) (col 1 4 ∷ col 1 5 ∷ [])) names
    → {old new : State} {result : Result (Option ReplyTexts) RowFault} → Finds sql (number n ∷ []) old new kept_texts (λ t. Blob t.0 ∷ Blob t.1 ∷ []) (λ t. Unit {0}) result
    → ReadsRows old new result (λ r x. option_map kept_texts x ≡ option_map reply_texts (item_at r.replies n))
finds_reply n means {old} found =
    says_so (found_by (lookup_is means) (number n ∷ []) refl refl reply_cells (λ r. r.replies) (λ r has. overlay_none old.now.trees reply_tree ∙ has.ten.reply) (λ b. b.0 == n) (λ b. and_true _ ∙ number_equal b.0 n)
    (λ _. Unit {0}) (λ r has. every r.replies) found (λ b. reply_texts b.1) (λ b. refl) (λ b fits. tt))
    (λ r has x is. is ∙ ap (option_map (λ (b : ℕ × ReplyRow). reply_texts b.1)) (found_number n r.replies) ∙ map_twice (λ (b : ℕ × ReplyRow). reply_texts b.1) (λ y. (n, y)) (item_at r.replies n))
