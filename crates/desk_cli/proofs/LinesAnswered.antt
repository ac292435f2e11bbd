-- Lines that a store answered, and the same stated of the file that the store is in.
use Rattle.std.proofs.Common.{◌≡◌, ◌∷◌, ℕ, List, [], Bool, false, Option, None, Result, Ok, Err, inl, inr, refl, sym, subst, ◌∙◌, append_assoc}
use Rattle.std.proofs.lemmas.List.{append-nil}
use Rattle.std.proofs.KnownBytes.{Appends-nil, Consumes-nil}
use Rattle.std.specs.Io.KnownBytes.{Consumes}
use Rattle.registry_core.specs.declared.messages.Envelope.{Envelope}
use Rattle.registry_core.specs.Settings.{Settings}
use Rattle.desk_store.specs.declared.faults.StoreFault.{StoreFault}
use Rattle.desk_store.specs.Calls.{IsCall}
use Rattle.desk_store.specs.Meaning.{Meaning}
use Rattle.desk_engine.specs.Lines.{HasHeardLines, IsCutShort, all_lines, heard_lines}
use Rattle.desk_cli.proofs.OnTables.{unshut_by}
use Rattle.desk_cli.proofs.Opened.{err, is_unavailable}
use Rattle.desk_cli.specs.Faults.{fault_of_store}
use Rattle.desk_engine.specs.Hearing.{StoreKeeps, StoreLeaves}
use Rattle.desk_cli.specs.Answering.{AnswersBy, AnswersFirst, HearsFirst}
use Rattle.desk_cli.specs.declared.faults.Fault.{Fault}
use Rattle.desk_cli.specs.declared.faults.Fault.TheVariants.{Exists, NotADesk, Schema, Owner, Gateway, Device, Month, Time, CsvSize, CsvEnd, CsvHeader, CsvRecord, Differs, Unavailable, File, Network}

module _ {K : Type 0} (m : Meaning K) (c : Settings) (heard : List Envelope) (old new : K) where
  -- the store represents what was heard, unless a call returned `Disk`
  pub keeps_lines : {disk not_a_desk : Bool} → IsCall m old new disk not_a_desk → disk ≡ false → (lines : List (List ℕ)) → HasHeardLines m c heard old new lines None
      → StoreKeeps m c heard old new (heard_lines c heard lines)
  keeps_lines call is lines hears = record { leaves = hears; still = unshut_by m old new call is }

  module _ (left rest before after : Option (List ℕ)) (input : List ℕ) (read : Consumes left rest input) where
    -- all lines were heard, and handing the answers on failed
    pub hears_all : {not_a_desk : Bool} → IsCall m old new false not_a_desk → HasHeardLines m c heard old new (all_lines input) None
        → HearsFirst c heard (StoreKeeps m c heard old new) (StoreLeaves m c heard old new) left rest before after
    hears_all call hears = record { input = input; read = read; lines = all_lines input; beginning = ([], sym (append-nil (all_lines input))); kept = keeps_lines call refl (all_lines input) hears }

    -- a line found the store unavailable
    is_cut_short : (fault : StoreFault) → IsCutShort m c heard old new before after input fault
        → AnswersFirst c heard (StoreKeeps m c heard old new) (StoreLeaves m c heard old new) left rest before after
    is_cut_short fault cut = record {
      input = input;
      read = read;
      lines = cut.lines;
      beginning = (cut.line ∷ cut.beginning.0, cut.beginning.1 ∙ append_assoc cut.lines (cut.line ∷ []) cut.beginning.0);
      doubt = _;
      in_doubt = inr (cut.line, fault, cut.beginning, refl);
      left_is = cut.answered.hears;
      answers = cut.answered.answers;
    }

    -- and that is returned
    pub cut_short : (why : StoreFault) → IsCutShort m c heard old new before after input why → (fault : Fault) → fault ≡ fault_of_store why
        → AnswersBy c heard (StoreKeeps m c heard old new) (StoreLeaves m c heard old new) left rest before after (err {T = Unit {0}} fault)
    cut_short why cut fault is =
        subst (λ f. AnswersBy c heard (StoreKeeps m c heard old new) (StoreLeaves m c heard old new) left rest before after (err {T = Unit {0}} f))
        (sym (is ∙ is_unavailable why cut.unavailability)) (is_cut_short why cut)

module _ (c : Settings) (heard : List Envelope) (Kept Stands : List Envelope → Type 0) (Left Stays : List Envelope → Option Envelope → Type 0)
    (kept : (all : List Envelope) → Kept all → Stands all) (left : (all : List Envelope) (doubt : Option Envelope) → Left all doubt → Stays all doubt)
    (rest_before rest before after : Option (List ℕ)) {T : Type 0} where
  pub carried : (r : Result T Fault) → AnswersBy c heard Kept Left rest_before rest before after r → AnswersBy c heard Stands Stays rest_before rest before after r
  carried (Ok x) by = record { input = by.input; read = by.read; whole = by.whole; kept = kept _ by.kept; answers = by.answers }
  carried (Err File) by = record { input = by.input; read = by.read; lines = by.lines; beginning = by.beginning; kept = kept _ by.kept }
  carried (Err Unavailable) by =
      record { input = by.input; read = by.read; lines = by.lines; beginning = by.beginning; doubt = by.doubt; in_doubt = by.in_doubt; left_is = left _ _ by.left_is; answers = by.answers }
  carried (Err Exists) by = absurd by
  carried (Err NotADesk) by = absurd by
  carried (Err Schema) by = absurd by
  carried (Err Owner) by = absurd by
  carried (Err Gateway) by = absurd by
  carried (Err Device) by = absurd by
  carried (Err Month) by = absurd by
  carried (Err Time) by = absurd by
  carried (Err CsvSize) by = absurd by
  carried (Err CsvEnd) by = absurd by
  carried (Err CsvHeader) by = absurd by
  carried (Err (CsvRecord n)) by = absurd by
  carried (Err (Differs place)) by = absurd by
  carried (Err Network) by = absurd by

-- where nothing was opened, no line was heard or answered
pub answers_unopened : (c : Settings) (heard : List Envelope) (Kept : List Envelope → Type 0) (Left : List Envelope → Option Envelope → Type 0) (rest before : Option (List ℕ))
    (fault : Fault) → fault ≡ Unavailable → Left heard None → AnswersBy c heard Kept Left rest rest before before (err {T = Unit {0}} fault)
answers_unopened c heard Kept Left rest before fault is left =
    subst (λ f. AnswersBy c heard Kept Left rest rest before before (err {T = Unit {0}} f)) (sym is)
    (record { input = []; read = Consumes-nil rest; lines = []; beginning = (all_lines [], refl); doubt = None; in_doubt = inl refl; left_is = left; answers = Appends-nil before })
