-- The answers of an import, what is written of them, and a report that was read or wasn't.
use Rattle.std.proofs.Common.{◌≡◌, ℕ, List, [], ◌∷◌, ◌++◌, false, true, Option, Some, None, Result, Ok, Err, refl, ap, ap₂, sym, ◌∙◌, inl, inr, length, take, subst, append_assoc}
use Rattle.std.proofs.KnownBytes.{Appends-nil, Keeps-refl}
use Rattle.std.proofs.Math.Seq.{take-length}
use Rattle.std.proofs.lemmas.Bool.{ltb-false, true≢false}
use Rattle.std.specs.Io.KnownBytes.{Appends, Consumes, IsAtEnd}
use Rattle.std.specs.List.{flat_map}
use Rattle.std.specs.Prelude.{◌⊎◌, ◌≤◌, ◌||◌, Bool, IfSome, nat_lt, slice_get, if◌then◌else◌, ⊤}
use Rattle.registry_core.specs.declared.messages.Envelope.{Envelope}
use Rattle.registry_core.specs.Heard.{heard_with}
use Rattle.registry_core.specs.Settings.{Settings}
use Rattle.desk_store.specs.declared.faults.StoreFault.{StoreFault}
use Rattle.desk_store.specs.declared.faults.StoreFault.TheVariants as store
use Rattle.desk_store.specs.Calls.{IsUnavailability, is_disk}
use Rattle.desk_store.specs.Meaning.{Meaning}
use Rattle.desk_wire.specs.CsvReports.{IsReportUnlessMemory, is_ended, longest_report, reads_report, records_of, report_of_records}
use Rattle.desk_wire.specs.declared.csv_faults.CsvFault.{CsvFault}
use Rattle.desk_wire.specs.declared.csv_faults.CsvFault.TheVariants as csv
use Rattle.desk_engine.specs.declared.csv_importing.ImportEnd.{ImportEnd}
use Rattle.desk_engine.specs.declared.csv_importing.ImportEnd.TheVariants as end
use Rattle.desk_engine.specs.declared.outcomes.Outcome.{Outcome}
use Rattle.desk_engine.specs.declared.outcomes.Outcome.TheVariants as outcome
use Rattle.desk_engine.specs.CsvImporting.{ImportEndsBy, ImportsFirst, answer_envelopes}
use Rattle.desk_engine.specs.Hearing.{Hears, StoreKeeps, StoreLeaves}
use Rattle.desk_engine.specs.Importing.{AreAnswers, doubt_at_stop, heard_in_order}
use Rattle.desk_engine.specs.InOrder.{WasInOrder}
use Rattle.desk_engine.specs.Lines.{line_feed}
use Rattle.desk_engine.specs.Outcomes.{IsOutcome, is_unavailable}
use Rattle.desk_engine.specs.Told.{Told, told_of_envelope, text_of}
use Rattle.desk_engine.specs.steps.CsvImporting.{HearsEnvelopes, HearsSome, line_of}

-- ---- answers

-- an outcome that isn't Unavailable is the answer's text
told_line : (told : Told) (o : Outcome) → IsOutcome told o → is_unavailable o ≡ false → line_of o ≡ text_of told ++ line_feed ∷ []
told_line told (outcome.Answered text) is answered = ap (λ t. text_of t ++ line_feed ∷ []) (sym is)
told_line told (outcome.Refused refusal text) is answered = ap (λ t. text_of t ++ line_feed ∷ []) (sym is)
told_line told (outcome.Unavailable fault) is answered = absurd (true≢false answered)

-- what is written of the answers is the answers of the envelopes
answers_written : (c : Settings) (heard es : List Envelope) (os : List Outcome) → AreAnswers c heard es os → flat_map line_of os ≡ answer_envelopes c heard es
answers_written c heard [] [] are = refl
answers_written c heard (e ∷ es) (o ∷ os) are =
    ap₂ (λ line rest. line ++ rest) (told_line (told_of_envelope c heard e) o are.0 are.1) (answers_written c (heard_with c heard e) es os are.2)
    ∙ append_assoc (text_of (told_of_envelope c heard e)) (line_feed ∷ []) (answer_envelopes c (heard_with c heard e) es)
answers_written c heard [] (o ∷ os) are = absurd are
answers_written c heard (e ∷ es) [] are = absurd are

-- the in-flight message is the one after those that were answered, or there is none
in_doubt : (es : List Envelope) (os : List Outcome) (stopped : Option StoreFault)
    → (doubt_at_stop es os stopped ≡ None) ⊎ (doubt_at_stop es os stopped ≡ slice_get es (length os))
in_doubt [] os stopped = inl refl
in_doubt (e ∷ es) [] stopped = next (is_disk stopped) e es
  where
    next : (disk : Bool) (e : Envelope) (es : List Envelope) → ((if disk then Some e else None) ≡ None) ⊎ ((if disk then Some e else None) ≡ slice_get (e ∷ es) 0)
    next true e es = inr refl
    next false e es = inl refl
in_doubt (e ∷ es) (o ∷ os) stopped = in_doubt es os stopped

-- where it didn't stop none is
no_doubt : (es : List Envelope) (os : List Outcome) (stopped : Option StoreFault) → stopped ≡ None → doubt_at_stop es os stopped ≡ None
no_doubt [] os stopped is = refl
no_doubt (e ∷ es) [] stopped is = ap (λ s. if is_disk s then Some e else None) is
no_doubt (e ∷ es) (o ∷ os) stopped is = no_doubt es os stopped is

-- ---- envelopes that a store heard in order

module _ {K : Type 0} (m : Meaning K) (c : Settings) (heard : List Envelope) (old new : K) (es : List Envelope) (os : List Outcome) (stopped : Option StoreFault) (before after : Option (List ℕ))
    {not_a_desk : Bool} (store : Hears m old new (is_disk stopped) not_a_desk (λ d all. heard_in_order d all (take (length os) es)) (λ d. doubt_at_stop es os stopped))
    (was : WasInOrder m c heard old new) where
  leaves_first : StoreLeaves m c heard old new (heard_in_order c heard (take (length os) es)) (doubt_at_stop es os stopped)
  leaves_first = record { order = store.order c heard was; crash = λ doubt. store.crash c heard doubt was }

  all_of : length os ≡ length es → take (length os) es ≡ es
  all_of whole = rw whole (take-length es)

  hears_some : (Written : List ℕ → Type 0) → Written (answer_envelopes c heard (take (length os) es))
      → HearsSome c heard (StoreKeeps m c heard old new) (StoreLeaves m c heard old new) es before after Written
  hears_some Written written =
      record { count = length os; doubt = doubt_at_stop es os stopped; in_doubt = in_doubt es os stopped; left_is = leaves_first; answers = written }

  -- all were heard
  pub kept_all : stopped ≡ None → length os ≡ length es → StoreKeeps m c heard old new (heard_in_order c heard es)
  kept_all none whole =
      let doubt : doubt_at_stop es os stopped ≡ None = no_doubt es os stopped none in
      let leaves : StoreLeaves m c heard old new (heard_in_order c heard es) None =
      subst (λ envelopes. StoreLeaves m c heard old new (heard_in_order c heard envelopes) None) (all_of whole) (subst (StoreLeaves m c heard old new (heard_in_order c heard (take (length os) es))) doubt leaves_first) in
      record { leaves = leaves; still = store.call.shut ∙ ap (λ s. is_disk s || m.failed old) none }

  -- the answers couldn't be written, of all or of the first
  pub unwritten : (why : Option StoreFault) → stopped ≡ why → (why ≡ None → length os ≡ length es) → IfSome why IsUnavailability
      → HearsEnvelopes c heard (StoreKeeps m c heard old new) (StoreLeaves m c heard old new) es before after (end.Write why)
  unwritten None is whole unavailable = kept_all is (whole refl)
  unwritten (Some fault) is whole unavailable = (hears_some (λ _. ⊤) tt, unavailable)

  module _ (are : AreAnswers c heard (take (length os) es) os) (written : Appends before after (flat_map line_of os)) where
    its_answers : Appends before after (answer_envelopes c heard (take (length os) es))
    its_answers = subst (Appends before after) (answers_written c heard (take (length os) es) os are) written

    -- an envelope found the store unavailable
    pub stopped_at : HearsSome c heard (StoreKeeps m c heard old new) (StoreLeaves m c heard old new) es before after (Appends before after)
    stopped_at = hears_some (Appends before after) its_answers

    -- all were heard
    pub heard_all_of : stopped ≡ None → length os ≡ length es
        → StoreKeeps m c heard old new (heard_in_order c heard es) × Appends before after (answer_envelopes c heard es)
    heard_all_of none whole = (kept_all none whole, subst (λ envelopes. Appends before after (answer_envelopes c heard envelopes)) (all_of whole) its_answers)

-- ---- a report that was read

not_too_long : (sender text : List ℕ) (es : List Envelope) → reads_report sender text ≡ Ok es → length text ≤ longest_report
not_too_long sender text es is = within (nat_lt longest_report (length text)) refl is
  where
    Answers : Result (List Envelope) CsvFault → Type 0
    Answers (Ok x) = Unit {0}
    Answers (Err why) = ⊥

    within : (b : Bool) → nat_lt longest_report (length text) ≡ b
        → (if b then Err csv.Size else if is_ended text then report_of_records sender (records_of text) else Err csv.Unended) ≡ Ok es → length text ≤ longest_report
    within true too is = absurd (subst Answers (sym is) tt)
    within false not_too is = ltb-false _ _ not_too

module _ (c : Settings) (heard : List Envelope) (sender : List ℕ) (Kept : List Envelope → Type 0) (Left : List Envelope → Option Envelope → Type 0) (rest_before rest before after : Option (List ℕ)) where
  -- its envelopes were heard so
  pub with_report : (input : List ℕ) (es : List Envelope) → Consumes rest_before rest input → (length input ≤ longest_report → IsAtEnd rest) → reads_report sender input ≡ Ok es
      → (e : ImportEnd) → HearsEnvelopes c heard Kept Left es before after e → ImportEndsBy c heard sender Kept Left rest_before rest before after e
  with_report input es read whole is end.Done by =
      record { input = input; read = read; whole = whole (not_too_long sender input es is); envelopes = es; report = is; kept = by.0; answers = by.1 }
  with_report input es read whole is (end.Unavailable fault) by =
      (record { input = input; read = read; envelopes = es; report = inr is; count = by.0.count; doubt = by.0.doubt; in_doubt = by.0.in_doubt; left_is = by.0.left_is; answers = by.0.answers }, by.1)
  with_report input es read whole is (end.Write None) by =
      record { input = input; read = read; whole = whole (not_too_long sender input es is); envelopes = es; report = is; kept = by; answers = tt }
  with_report input es read whole is (end.Write (Some fault)) by =
      (record { input = input; read = read; envelopes = es; report = inr is; count = by.0.count; doubt = by.0.doubt; in_doubt = by.0.in_doubt; left_is = by.0.left_is; answers = by.0.answers }, by.1)
  with_report input es read whole is end.Read by = absurd by
  with_report input es read whole is (end.NoReport why) by = absurd by

-- ---- a report that wasn't read

module _ (c : Settings) (heard : List Envelope) (sender : List ℕ) (Kept : List Envelope → Type 0) (Left : List Envelope → Option Envelope → Type 0) (rest_before rest before : Option (List ℕ)) (kept : Kept heard) (left : Left heard None) where
  nothing_imported : (Written : List ℕ → Type 0) → ((input : List ℕ) × Consumes rest_before rest input) → Written [] → ImportsFirst c heard sender Kept Left rest_before rest before before Written
  nothing_imported Written read written =
      record { input = read.0; read = read.1; envelopes = []; report = inl refl; count = 0; doubt = None; in_doubt = inl refl; left_is = left; answers = written }

  no_memory : ((input : List ℕ) × Consumes rest_before rest input) → ImportEndsBy c heard sender Kept Left rest_before rest before before (end.Unavailable store.Memory)
  no_memory read = (nothing_imported (Appends before before) read (Appends-nil before), tt)

  -- the input couldn't be read, or memory for it ran out
  pub no_text : (e : ImportEnd) → (e ≡ end.Read) ⊎ (e ≡ end.Unavailable store.Memory) → ((input : List ℕ) × Consumes rest_before rest input)
      → ImportEndsBy c heard sender Kept Left rest_before rest before before e
  no_text e is read = elim is [
    | inl unread ↦ subst (ImportEndsBy c heard sender Kept Left rest_before rest before before) (sym unread) (nothing_imported _ read (refl, Keeps-refl before))
    | inr memory ↦ subst (ImportEndsBy c heard sender Kept Left rest_before rest before before) (sym memory) (no_memory read)
  ]

  -- memory ran out when the input was read as a report
  pub unread : (input : List ℕ) → Consumes rest_before rest input → ImportEndsBy c heard sender Kept Left rest_before rest before before (end.Unavailable store.Memory)
  unread input read = no_memory (input, read)

  -- or it is none
  pub no_report : (input : List ℕ) → Consumes rest_before rest input → (why : CsvFault) → IsReportUnlessMemory why (reads_report sender input) → (why ≡ csv.Memory → ⊥)
      → ImportEndsBy c heard sender Kept Left rest_before rest before before (end.NoReport why)
  no_report input read csv.Size is other = record { input = input; read = read; no_report = is; kept = kept; answers = Keeps-refl before }
  no_report input read csv.Unended is other = record { input = input; read = read; no_report = is; kept = kept; answers = Keeps-refl before }
  no_report input read csv.Header is other = record { input = input; read = read; no_report = is; kept = kept; answers = Keeps-refl before }
  no_report input read (csv.Record n) is other = record { input = input; read = read; no_report = is; kept = kept; answers = Keeps-refl before }
  no_report input read csv.Memory is other = absurd (other refl)
