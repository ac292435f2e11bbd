-- A gateway report whose records are heard in order: what was heard and what was written, by how the import ended.
use Rattle.std.specs.Prelude.{◌≡◌, ◌⊎◌, ℕ, List, [], ◌∷◌, ◌++◌, Option, Some, None, Ok, Err, slice_get, take, ⊤}
use Rattle.std.specs.Io.KnownBytes.{Appends, Consumes, IsAtEnd, Keeps}
use Rattle.registry_core.specs.declared.messages.Envelope.{Envelope}
use Rattle.registry_core.specs.Heard.{heard_with}
use Rattle.registry_core.specs.Settings.{Settings}
use Rattle.desk_store.specs.declared.faults.StoreFault.{StoreFault}
use Rattle.desk_store.specs.Calls.{IsUnavailability}
use Rattle.desk_store.specs.Meaning.{Meaning}
use Rattle.desk_wire.specs.CsvReports.{reads_report}
use Rattle.desk_wire.specs.declared.csv_faults.CsvFault.{CsvFault}
use Rattle.desk_wire.specs.declared.csv_faults.CsvFault.TheVariants.{Memory}
use Rattle.desk_engine.specs.declared.csv_importing.ImportEnd.{ImportEnd}
use Rattle.desk_engine.specs.declared.csv_importing.ImportEnd.TheVariants.{Done, NoReport, Read, Write, Unavailable}
use Rattle.desk_engine.specs.Hearing.{StoreKeeps, StoreLeaves}
use Rattle.desk_engine.specs.Importing.{heard_in_order}
use Rattle.desk_engine.specs.InOrder.{ForLog}
use Rattle.desk_engine.specs.Lines.{line_feed}
use Rattle.desk_engine.specs.Told.{told_of_envelope, text_of}

-- the answers of the envelopes in order, each text with an LF
abbrev pub answer_envelopes : Settings → List Envelope → List Envelope → List ℕ
answer_envelopes c heard [] = []
answer_envelopes c heard (e ∷ es) = text_of (told_of_envelope c heard e) ++ line_feed ∷ answer_envelopes c (heard_with c heard e) es

-- the store's error, if the store was unavailable for a record
abbrev pub fault_of_import : ImportEnd → Option StoreFault
fault_of_import (Unavailable fault) = Some fault
fault_of_import (Write fault) = fault
fault_of_import _ = None

-- `heard` is the log before, and `sender` the message sender of the records. `Kept` states that the store represents a log, and `Left` the
-- same with a possible in-flight message. `left` and `rest` are what the reader has left before and after, `before` and `after` what the
-- writer has before and after.
module _ (c : Settings) (heard : List Envelope) (sender : List ℕ) (Kept : List Envelope → Type 0) (Left : List Envelope → Option Envelope → Type 0)
    (left rest before after : Option (List ℕ)) where
  -- every record was heard, and this was written of their answers
  pub record ImportsAll (Written : List ℕ → Type 0) : Type 0 where
    pub input : List ℕ
    pub read : Consumes left rest input
    pub whole : IsAtEnd rest
    pub envelopes : List Envelope
    pub report : reads_report sender input ≡ Ok envelopes
    pub kept : Kept (heard_in_order c heard envelopes)
    pub answers : Written (answer_envelopes c heard envelopes)

  -- The input is not a report: no record was heard, and nothing was written. If it is too long, only its first octets were read.
  pub record RefusesReport (why : CsvFault) : Type 0 where
    pub input : List ℕ
    pub read : Consumes left rest input
    pub no_report : reads_report sender input ≡ Err why
    pub kept : Kept heard
    pub answers : Keeps before after

  -- The first records were heard, and this was written of their answers. A disk error leaves the next record in flight.
  pub record ImportsFirst (Written : List ℕ → Type 0) : Type 0 where
    pub input : List ℕ
    pub read : Consumes left rest input
    pub envelopes : List Envelope
    pub report : (envelopes ≡ []) ⊎ (reads_report sender input ≡ Ok envelopes)
    pub count : ℕ
    pub doubt : Option Envelope
    pub in_doubt : (doubt ≡ None) ⊎ (doubt ≡ slice_get envelopes count)
    pub left_is : Left (heard_in_order c heard (take count envelopes)) doubt
    pub answers : Written (answer_envelopes c heard (take count envelopes))

  -- what is true of an import, by how it ended
  abbrev pub ImportEndsBy : ImportEnd → Type 0
  ImportEndsBy Done = ImportsAll (Appends before after)
  ImportEndsBy (NoReport Memory) = ⊥
  ImportEndsBy (NoReport why) = RefusesReport why
  ImportEndsBy Read = ImportsFirst (λ answers. (answers ≡ []) × Keeps before after)
  ImportEndsBy (Write None) = ImportsAll (λ answers. ⊤)
  ImportEndsBy (Write (Some fault)) = ImportsFirst (λ answers. ⊤) × IsUnavailability fault
  ImportEndsBy (Unavailable fault) = ImportsFirst (Appends before after) × IsUnavailability fault

-- For each log that the store represented before, the import of a report from this sender ended so. The store was `old` and is `new`.
-- `reader` and `rest` are the reader before and after, `writer` and `written` the writer.
abbrev pub ImportsReport : {K R W : Type 0} → Meaning K → (R → Option (List ℕ)) → (W → Option (List ℕ)) → List ℕ → K → K → R → R → W → W → ImportEnd → Type 0
ImportsReport m remaining contents sender old new reader rest writer written end = ForLog m old new (λ c heard.
    ImportEndsBy c heard sender (StoreKeeps m c heard old new) (StoreLeaves m c heard old new)
    (remaining reader) (remaining rest) (contents writer) (contents written) end)
