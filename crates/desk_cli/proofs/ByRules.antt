-- However a command on a desk ends, what a crash leaves of its file satisfies the registry's rules.
use Rattle.std.proofs.Common.{List, Option, Some, None, Result, Ok, Err, ℕ, inl, inr}
use Rattle.clap.specs.Walk.{Text}
use Rattle.std.specs.Prelude.{IfSome}
use Rattle.std.specs.Io.KnownBytes.{Keeps}
use Rattle.std.proofs.KnownBytes.{Keeps-refl}
use Rattle.sqlite.specs.Held.{Held, state}
use Rattle.sqlite.specs.State.{HasCleanDisk}
use Rattle.sqlite_trees.specs.declared.store.Store.{Ghosts}
use Rattle.registry_core.specs.declared.messages.Envelope.{Envelope}
use Rattle.registry_core.specs.Rules.{RulesAreKept}
use Rattle.registry_core.specs.Settings.{Settings}
use Rattle.desk_engine.specs.declared.report_faults.ReportFault.{ReportFault}
use Rattle.desk_tables.specs.Adopting.{IsGivenBack}
use Rattle.desk_cli.specs.Ports.{AtPorts}
use Rattle.desk_cli.specs.Answering.{AnswersBy}
use Rattle.desk_cli.specs.Doing.{OnAudit, OnAuditByRules, OnAuditedFile, OnDeskByRules, OnDeskFile, PrintsDesk}
use Rattle.desk_cli.specs.OnTables.{IsLeft, KeepsHeard, LeavesRules}
use Rattle.desk_cli.specs.Printing.{PrintsAnswer, PrintsBy}
use Rattle.desk_cli.specs.World.{AtPaths}
use Rattle.desk_cli.specs.commands.Auditing.{AuditsBy}
use Rattle.desk_cli.specs.commands.Importing.{ImportsBy}
use Rattle.desk_cli.specs.commands.Log.{LogsBy}
use Rattle.desk_cli.specs.commands.Serving.{ServesBy}
use Rattle.desk_cli.specs.declared.faults.Fault.{Fault}
use Rattle.desk_cli.specs.declared.faults.Fault.TheVariants.{Exists, NotADesk, Schema, Owner, Gateway, Device, Month, Time, CsvSize, CsvEnd, CsvHeader, CsvRecord, Differs, Unavailable, File, Network}
use Rattle.desk_cli.proofs.OnTables.{leaves_rules}
use Rattle.desk_cli.proofs.Opened.{left_as_it_was}

-- what is stated of a desk's file, with what follows of the rules
pub by_rules : {S T : Type 0} (g : Ghosts S) (paths : AtPaths S) (given_back : Option (Held S)) (result : Result T Fault) (file : Text) (Untouched : Type 0)
    (Does : Held S → Settings → List Envelope → Type 0) → ((back : Held S) (c : Settings) (heard : List Envelope) → Does back c heard → LeavesRules g back c)
    → OnDeskFile g paths given_back result file Untouched Does → OnDeskByRules g paths given_back result file Untouched Does
by_rules g paths given_back result file Untouched Does rules on = elim on [
  | inl done ↦ inl (
    done.0,
    done.1,
    done.2,
    done.3,
    record {
      desk = λ clean c heard kept. let does = done.4.desk clean c heard kept in (does, rules done.1 c heard does);
      not_a_desk = done.4.not_a_desk;
      clean = done.4.clean;
    },
  )
  | inr unopened ↦ inr unopened
]

module _ {S : Type 0} (law : RulesAreKept) (g : Ghosts S) (back : Held S) (c : Settings) where
  left_by_rules : (heard : List Envelope) (doubt : Option Envelope) → IsLeft g back c heard doubt → LeavesRules g back c
  left_by_rules heard doubt is = λ trees may. leaves_rules law c heard doubt trees (is trees may)

  kept_by_rules : (heard : List Envelope) → KeepsHeard g back c heard → LeavesRules g back c
  kept_by_rules heard keeps = left_by_rules heard None keeps.left

  module _ {T : Type 0} (heard : List Envelope) (left rest before after : Option (List ℕ)) where
    pub answers_by_rules : (result : Result T Fault) → AnswersBy c heard (KeepsHeard g back c) (IsLeft g back c) left rest before after result → LeavesRules g back c
    answers_by_rules (Ok x) by = kept_by_rules _ by.kept
    answers_by_rules (Err File) by = kept_by_rules _ by.kept
    answers_by_rules (Err Unavailable) by = left_by_rules _ _ by.left_is
    answers_by_rules (Err Exists) by = absurd by
    answers_by_rules (Err NotADesk) by = absurd by
    answers_by_rules (Err Schema) by = absurd by
    answers_by_rules (Err Owner) by = absurd by
    answers_by_rules (Err Gateway) by = absurd by
    answers_by_rules (Err Device) by = absurd by
    answers_by_rules (Err Month) by = absurd by
    answers_by_rules (Err Time) by = absurd by
    answers_by_rules (Err CsvSize) by = absurd by
    answers_by_rules (Err CsvEnd) by = absurd by
    answers_by_rules (Err CsvHeader) by = absurd by
    answers_by_rules (Err (CsvRecord n)) by = absurd by
    answers_by_rules (Err (Differs place)) by = absurd by
    answers_by_rules (Err Network) by = absurd by

    pub imports_by_rules : (sender : List ℕ) (result : Result T Fault) → ImportsBy c heard sender (KeepsHeard g back c) (IsLeft g back c) left rest before after result
        → LeavesRules g back c
    imports_by_rules sender (Ok x) by = kept_by_rules _ by.kept
    imports_by_rules sender (Err File) by = elim by [
      | inl none ↦ kept_by_rules _ none.kept
      | inr some ↦ elim some [ inl them ↦ kept_by_rules _ them.kept | inr them ↦ left_by_rules _ _ them.left_is ]
    ]
    imports_by_rules sender (Err Unavailable) by = left_by_rules _ _ by.left_is
    imports_by_rules sender (Err CsvSize) by = kept_by_rules _ by.kept
    imports_by_rules sender (Err CsvEnd) by = kept_by_rules _ by.kept
    imports_by_rules sender (Err CsvHeader) by = kept_by_rules _ by.kept
    imports_by_rules sender (Err (CsvRecord n)) by = kept_by_rules _ by.kept
    imports_by_rules sender (Err (Differs place)) by = absurd by
    imports_by_rules sender (Err Exists) by = absurd by
    imports_by_rules sender (Err NotADesk) by = absurd by
    imports_by_rules sender (Err Schema) by = absurd by
    imports_by_rules sender (Err Owner) by = absurd by
    imports_by_rules sender (Err Gateway) by = absurd by
    imports_by_rules sender (Err Device) by = absurd by
    imports_by_rules sender (Err Month) by = absurd by
    imports_by_rules sender (Err Time) by = absurd by
    imports_by_rules sender (Err Network) by = absurd by

  module _ {T : Type 0} (heard : List Envelope) (before after : Option (List ℕ)) where
    pub serves_by_rules : (ports : AtPorts) (port n : ℕ) (result : Result T Fault) → ServesBy c heard (KeepsHeard g back c) (IsLeft g back c) ports port n before after result
        → LeavesRules g back c
    serves_by_rules ports port n (Ok x) by = left_by_rules _ _ by.0.left_is
    serves_by_rules ports port n (Err Network) (inl by) = kept_by_rules _ by.1
    serves_by_rules ports port n (Err Network) (inr by) = left_by_rules _ _ by.0.left_is
    serves_by_rules ports port n (Err File) by = kept_by_rules _ by
    serves_by_rules ports port n (Err Unavailable) by = left_by_rules _ _ by.0
    serves_by_rules ports port n (Err Exists) by = absurd by
    serves_by_rules ports port n (Err NotADesk) by = absurd by
    serves_by_rules ports port n (Err Schema) by = absurd by
    serves_by_rules ports port n (Err Owner) by = absurd by
    serves_by_rules ports port n (Err Gateway) by = absurd by
    serves_by_rules ports port n (Err Device) by = absurd by
    serves_by_rules ports port n (Err Month) by = absurd by
    serves_by_rules ports port n (Err Time) by = absurd by
    serves_by_rules ports port n (Err CsvSize) by = absurd by
    serves_by_rules ports port n (Err CsvEnd) by = absurd by
    serves_by_rules ports port n (Err CsvHeader) by = absurd by
    serves_by_rules ports port n (Err (CsvRecord number)) by = absurd by
    serves_by_rules ports port n (Err (Differs place)) by = absurd by

    pub logs_by_rules : (lines : List (List ℕ)) (result : Result T Fault) → LogsBy lines (KeepsHeard g back c heard) (IsLeft g back c heard None) before after result
        → LeavesRules g back c
    logs_by_rules lines (Ok x) by = kept_by_rules _ by.1
    logs_by_rules lines (Err File) by = kept_by_rules _ by.1
    logs_by_rules lines (Err Unavailable) by = left_by_rules _ _ by.1
    logs_by_rules lines (Err Exists) by = absurd by
    logs_by_rules lines (Err NotADesk) by = absurd by
    logs_by_rules lines (Err Schema) by = absurd by
    logs_by_rules lines (Err Owner) by = absurd by
    logs_by_rules lines (Err Gateway) by = absurd by
    logs_by_rules lines (Err Device) by = absurd by
    logs_by_rules lines (Err Month) by = absurd by
    logs_by_rules lines (Err Time) by = absurd by
    logs_by_rules lines (Err CsvSize) by = absurd by
    logs_by_rules lines (Err CsvEnd) by = absurd by
    logs_by_rules lines (Err CsvHeader) by = absurd by
    logs_by_rules lines (Err (CsvRecord n)) by = absurd by
    logs_by_rules lines (Err (Differs place)) by = absurd by
    logs_by_rules lines (Err Network) by = absurd by

    answer_by_rules : (answer : Result (List ℕ) ReportFault) (result : Result T Fault)
        → PrintsAnswer (KeepsHeard g back c heard) (IsLeft g back c heard None) before after answer result → LeavesRules g back c
    answer_by_rules (Ok text) (Ok x) prints = kept_by_rules _ prints.1
    answer_by_rules (Ok text) (Err fault) prints = kept_by_rules _ prints.1
    answer_by_rules (Err why) (Ok x) prints = absurd prints
    answer_by_rules (Err why) (Err fault) prints = left_by_rules _ _ prints.3

    prints_by_rules : (IsAnswer : Result (List ℕ) ReportFault → Type 0) (result : Result T Fault)
        → PrintsBy (KeepsHeard g back c heard) (IsLeft g back c heard None) before after IsAnswer result → LeavesRules g back c
    prints_by_rules IsAnswer result by = answer_by_rules by.answer result by.prints

module _ {S : Type 0} (law : RulesAreKept) (g : Ghosts S) where
  -- a report that was printed of a desk's file, with what follows of the rules; the standard input is untouched
  pub report_by_rules : {T : Type 0} (paths : AtPaths S) (given_back : Option (Held S)) (left before after : Option (List ℕ)) (file : Text)
      (IsAnswer : Settings → List Envelope → Result (List ℕ) ReportFault → Type 0) (result : Result T Fault)
      → OnDeskFile g paths given_back result file (Keeps before after) (PrintsDesk g IsAnswer before after result)
      → OnDeskByRules g paths given_back result file (Keeps before after) (PrintsDesk g IsAnswer before after result) × Keeps left left
  report_by_rules paths given_back left before after file IsAnswer result done = (
    by_rules g paths given_back result file (Keeps before after) (PrintsDesk g IsAnswer before after result)
        (λ back c heard. prints_by_rules law g back c heard before after (IsAnswer c heard) result) done,
    Keeps-refl left,
  )

  audited_by_rules : (conn : Held S) (given_back : Option (Held S)) → IfSome given_back (λ back. IsGivenBack (state g conn) (state g back) (λ trees. ⊥))
      → IfSome given_back (λ back. HasCleanDisk (state g back) → (c : Settings) (heard : List Envelope) → KeepsHeard g conn c heard → LeavesRules g back c)
  audited_by_rules conn (Some back) kept = λ clean c heard keeps. left_by_rules law g back c heard None (left_as_it_was g conn back c heard kept clean keeps)
  audited_by_rules conn None kept = tt

  file_by_rules : {T : Type 0} (paths : AtPaths S) (given_back : Option (Held S)) (before after : Option (List ℕ)) (result : Result T Fault) (file : Text) (Untouched Sure : Type 0)
      → OnAuditedFile paths given_back result file Untouched (λ conn. AuditsBy g conn given_back before after Sure result)
      → OnAuditedFile paths given_back result file Untouched
      (λ conn. AuditsBy g conn given_back before after Sure result
      × IfSome given_back (λ back. HasCleanDisk (state g back) → (c : Settings) (heard : List Envelope) → KeepsHeard g conn c heard → LeavesRules g back c))
  file_by_rules paths given_back before after result file Untouched Sure on = elim on [
    | inl done ↦ inl (done.0, done.1, (done.2, audited_by_rules done.0 given_back done.2.kept))
    | inr unopened ↦ inr unopened
  ]

  -- what is said of an audited file, with what follows of the rules
  pub audits_by_rules : {T : Type 0} (paths : AtPaths S) (given_back : Option (Held S)) (before after : Option (List ℕ)) (result : Result T Fault) (file : Text)
      (scratch : Option Text) (Untouched Sure : Type 0)
      → OnAudit paths given_back result file scratch Untouched Sure (λ sure conn. AuditsBy g conn given_back before after sure result)
      → OnAuditByRules g paths given_back result file scratch Untouched Sure (λ sure conn. AuditsBy g conn given_back before after sure result)
  audits_by_rules paths given_back before after result file None Untouched Sure on = file_by_rules paths given_back before after result file Untouched (Unit {0}) on
  audits_by_rules paths given_back before after result file (Some path) Untouched Sure on = elim on [
    | inl made ↦ inl (made.0, file_by_rules paths given_back before after result file Untouched Sure made.1)
    | inr unmade ↦ inr unmade
  ]
