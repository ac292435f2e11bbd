-- The look-ups of a session's last start and of a sender's last transaction number.
use Rattle.std.proofs.Common.{◌≡◌, ◌==◌, ℕ, pos, Bool, List, [], ◌∷◌, map, filter, Option, Result, Equal, refl, ap, ap₂, ◌∙◌}
use Rattle.std.specs.Prelude.{bytes_eq}
use Rattle.std.specs.Ordering.{ordering_then}
use Rattle.sqlite_value.specs.declared.value.Value.TheVariants.{Text}
use Rattle.sqlite_value.proofs.OrderLemmas.{value_cmp-Int}
use Rattle.sqlite.specs.State.{State}
use Rattle.registry_core.specs.declared.facts.Uplink.{Uplink}
use Rattle.registry_core.specs.Listing.{is_of_session, last_start}
use Rattle.registry_core.specs.Numbered.{greatest}
use Rattle.desk_rows.specs.Calls.{ReadsRows}
use Rattle.desk_rows.specs.Rows.{Holds, ReplyRow, number, reply_cells, uplink_cells}
use Rattle.desk_rows.specs.steps.Latest.{last_start_asked, last_transaction_asked}
use Rattle.desk_rows.specs.steps.Queries.{Finds}
use Rattle.desk_rows.specs.steps.Texts.{AsksFor}
use Rattle.desk_rows.specs.declared.faults.RowFault.{RowFault}
use Rattle.desk_rows.proofs.Latest.{any, greatest_found, unnumbered}
use Rattle.desk_rows.proofs.Lookups.{has_schema, says_so}
use Rattle.desk_rows.proofs.StatementTexts.{lookup_is}
use Rattle.desk_rows.proofs.Terms.{and_true, number_equal, text_equal}

pub reads_last_start : {sql : List ℕ} {names : List (List ℕ)} → AsksFor sql 1 last_start_asked names → {old new : State} (session : ℕ) {result : Result (Option ℕ) RowFault}
    → Finds sql (number session ∷ []) old new (λ n. n) (λ n. number n ∷ []) (λ n. Unit {0}) result → ReadsRows old new result (λ r start. start ≡ last_start r.uplinks session)
reads_last_start means session found = says_so
    (greatest_found Holds has_schema (lookup_is means) (number session ∷ []) refl refl uplink_cells (λ r. r.uplinks) (λ r has. has.ten.uplink)
    (λ b. b.1.session == session) (λ b. and_true _ ∙ number_equal b.1.session session) (λ b. b.1.start) (λ b. refl)
    (λ b c. ap₂ (λ u v. ordering_then u (ordering_then v Equal)) (value_cmp-Int (pos c.1.start) (pos b.1.start)) (value_cmp-Int (pos c.0) (pos b.0)))
    (λ _. Unit {0}) (λ r has. any _) found)
    (λ r has n is. is ∙ ap greatest (unnumbered (λ (u : Uplink). u.start) (is_of_session session) 1 r.uplinks))

-- a message of the sender
abbrev of_sender : List ℕ → ReplyRow → Bool
of_sender sender row = bytes_eq row.sender sender

pub reads_last_transaction : {sql : List ℕ} {names : List (List ℕ)} → AsksFor sql 1 last_transaction_asked names → {old new : State} (sender : List ℕ) {result : Result (Option ℕ) RowFault}
    → Finds sql (Text sender ∷ []) old new (λ n. n) (λ n. number n ∷ []) (λ n. Unit {0}) result
    → ReadsRows old new result (λ r last. last ≡ greatest (map (λ (row : ReplyRow). row.number) (filter (λ (row : ReplyRow). bytes_eq row.sender sender) r.replies)))
reads_last_transaction means sender found = says_so
    (greatest_found Holds has_schema (lookup_is means) (Text sender ∷ []) refl refl reply_cells (λ r. r.replies) (λ r has. has.ten.reply)
    (λ b. of_sender sender b.1) (λ b. and_true _ ∙ text_equal b.1.sender sender) (λ b. b.1.number) (λ b. refl)
    (λ b c. ap₂ (λ u v. ordering_then u (ordering_then v Equal)) (value_cmp-Int (pos c.1.number) (pos b.1.number)) (value_cmp-Int (pos c.0) (pos b.0)))
    (λ _. Unit {0}) (λ r has. any _) found)
    (λ r has n is. is ∙ ap greatest (unnumbered (λ (row : ReplyRow). row.number) (of_sender sender) 1 r.replies))
