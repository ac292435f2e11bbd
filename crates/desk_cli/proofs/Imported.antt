-- What an import did, stated of the file that the store is in.
use Rattle.std.proofs.Common.{◌≡◌, ◌∷◌, ◌++◌, ℕ, Bool, false, List, [], Option, Some, None, Result, Ok, Err, refl, sym, ◌∙◌, inl, inr, subst}
use Rattle.std.proofs.KnownBytes.{Appends-nil, Consumes-nil}
use Rattle.std.proofs.lemmas.Bool.{true≢false}
use Rattle.registry_core.specs.declared.messages.Envelope.{Envelope}
use Rattle.registry_core.specs.Settings.{Settings}
use Rattle.desk_store.specs.Calls.{IsCall}
use Rattle.desk_store.specs.Meaning.{Meaning}
use Rattle.desk_store.specs.declared.faults.StoreFault.{StoreFault}
use Rattle.desk_wire.specs.declared.csv_faults.CsvFault.{CsvFault}
use Rattle.desk_wire.specs.declared.csv_faults.CsvFault.TheVariants as csv
use Rattle.desk_engine.specs.declared.csv_importing.ImportEnd.TheVariants as end
use Rattle.desk_engine.specs.CsvImporting.{ImportEndsBy, ImportsAll, ImportsFirst, RefusesReport, answer_envelopes}
use Rattle.desk_engine.specs.Hearing.{StoreKeeps, StoreLeaves}
use Rattle.desk_cli.proofs.OnTables.{unshut_by}
use Rattle.desk_cli.specs.OnTables.{WasOpened}
use Rattle.desk_cli.proofs.Opened.{err}
use Rattle.desk_cli.specs.Faults.{fault_of_csv}
use Rattle.desk_cli.specs.commands.Importing.{ImportsBy}
use Rattle.desk_cli.specs.declared.faults.Fault.{Fault}
use Rattle.desk_cli.specs.declared.faults.Fault.TheVariants.{Exists, NotADesk, Schema, Owner, Gateway, Device, Month, Time, CsvSize, CsvEnd, CsvHeader, CsvRecord, Differs, Unavailable, File, Network}

-- each answer has an octet, its LF
some_octets : (xs : List ℕ) (x : ℕ) (ys : List ℕ) → xs ++ x ∷ ys ≡ [] → ⊥
some_octets [] x ys is = cc
some_octets (y ∷ xs) x ys is = cc

none_answered : (c : Settings) (heard es : List Envelope) → answer_envelopes c heard es ≡ [] → es ≡ []
none_answered c heard [] is = refl
none_answered c heard (e ∷ es) is = absurd (some_octets _ _ _ is)

-- A store that hasn't failed has no in-flight message.
pub undoubted : {K : Type 0} (m : Meaning K) (c : Settings) (heard : List Envelope) (old new : K) → WasOpened m old c heard → {not_a_desk : Bool} → IsCall m old new false not_a_desk
    → (all : List Envelope) (doubt : Option Envelope) → StoreLeaves m c heard old new all doubt → StoreKeeps m c heard old new all
undoubted m c heard old new was call all doubt leaves = record {
  leaves = record {
    order = leaves.order;
    crash = λ before survives. elim (leaves.crash before survives) [
      | inl own ↦ inl own
      | inr in_doubt ↦ absurd (true≢false (sym in_doubt.2.is_failed ∙ (unshut_by m old new call refl ∙ was.store.up)))
    ];
  };
  still = unshut_by m old new call refl;
}

-- ---- the end of an import, as the command returns it

module _ (c : Settings) (heard : List Envelope) (sender : List ℕ) (Kept : List Envelope → Type 0) (Left : List Envelope → Option Envelope → Type 0) (rest_before rest before after : Option (List ℕ)) (T : Type 0) where
  -- the answers couldn't be written, of all or of the first
  pub unwritten : (why : Option StoreFault) → ImportEndsBy c heard sender Kept Left rest_before rest before after (end.Write why)
      → ImportsBy c heard sender Kept Left rest_before rest before after (err {T = T} File)
  unwritten None by = inr (inl by)
  unwritten (Some fault) by = inr (inr by.0)

  pub no_report : (why : CsvFault) → ImportEndsBy c heard sender Kept Left rest_before rest before after (end.NoReport why) → (fault : Fault) → fault ≡ fault_of_csv why
      → ImportsBy c heard sender Kept Left rest_before rest before after (err {T = T} fault)
  no_report why by fault is = subst (λ f. ImportsBy c heard sender Kept Left rest_before rest before after (err {T = T} f)) (sym is) (so why by)
    where
      so : (why : CsvFault) → ImportEndsBy c heard sender Kept Left rest_before rest before after (end.NoReport why)
          → ImportsBy c heard sender Kept Left rest_before rest before after (err {T = T} (fault_of_csv why))
      so csv.Size by = by
      so csv.Unended by = by
      so csv.Header by = by
      so (csv.Record n) by = by
      so csv.Memory by = absurd by

-- ---- a store in a file

module _ (c : Settings) (heard : List Envelope) (sender : List ℕ) (Kept Stands : List Envelope → Type 0) (Left Stays : List Envelope → Option Envelope → Type 0)
    (kept : (all : List Envelope) → Kept all → Stands all) (left : (all : List Envelope) (doubt : Option Envelope) → Left all doubt → Stays all doubt)
    (rest_before rest before after : Option (List ℕ)) where
  refuses : (why : CsvFault) → RefusesReport c heard sender Kept Left rest_before rest before after why → RefusesReport c heard sender Stands Stays rest_before rest before after why
  refuses why by = record { input = by.input; read = by.read; no_report = by.no_report; kept = kept _ by.kept; answers = by.answers }

  every : (Written : List ℕ → Type 0) → ImportsAll c heard sender Kept Left rest_before rest before after Written → ImportsAll c heard sender Stands Stays rest_before rest before after Written
  every Written by = record { input = by.input; read = by.read; whole = by.whole; envelopes = by.envelopes; report = by.report; kept = kept _ by.kept; answers = by.answers }

  first : (Written : List ℕ → Type 0) → ImportsFirst c heard sender Kept Left rest_before rest before after Written → ImportsFirst c heard sender Stands Stays rest_before rest before after Written
  first Written by = record {
    input = by.input;
    read = by.read;
    envelopes = by.envelopes;
    report = by.report;
    count = by.count;
    doubt = by.doubt;
    in_doubt = by.in_doubt;
    left_is = left _ _ by.left_is;
    answers = by.answers;
  }

  -- a statement about a store is true of the file that it is in
  pub carried : {T : Type 0} (r : Result T Fault) → ImportsBy c heard sender Kept Left rest_before rest before after r → ImportsBy c heard sender Stands Stays rest_before rest before after r
  carried (Ok x) by = every _ by
  carried (Err Unavailable) by = first _ by
  carried (Err File) by = elim by [
    | inl none ↦ inl (record { input = none.input; read = none.read; kept = kept _ none.kept; unwritten = none.unwritten })
    | inr some ↦ elim some [ inl them ↦ inr (inl (every _ them)) | inr them ↦ inr (inr (first _ them)) ]
  ]
  carried (Err CsvSize) by = refuses _ by
  carried (Err CsvEnd) by = refuses _ by
  carried (Err CsvHeader) by = refuses _ by
  carried (Err (CsvRecord n)) by = refuses _ by
  carried (Err (Differs place)) by = absurd by
  carried (Err Exists) by = absurd by
  carried (Err NotADesk) by = absurd by
  carried (Err Schema) by = absurd by
  carried (Err Owner) by = absurd by
  carried (Err Gateway) by = absurd by
  carried (Err Device) by = absurd by
  carried (Err Month) by = absurd by
  carried (Err Time) by = absurd by
  carried (Err Network) by = absurd by

-- where nothing was opened, nothing was heard or answered
pub imports_unopened : (c : Settings) (heard : List Envelope) (sender : List ℕ) (Kept : List Envelope → Type 0) (Left : List Envelope → Option Envelope → Type 0) (rest before : Option (List ℕ)) (T : Type 0)
    (fault : Fault) → fault ≡ Unavailable → Left heard None → ImportsBy c heard sender Kept Left rest rest before before (err {T = T} fault)
imports_unopened c heard sender Kept Left rest before T fault is left =
    subst (λ f. ImportsBy c heard sender Kept Left rest rest before before (err {T = T} f)) (sym is)
    (record { input = []; read = Consumes-nil rest; envelopes = []; report = inl refl; count = 0; doubt = None; in_doubt = inl refl; left_is = left; answers = Appends-nil before })
