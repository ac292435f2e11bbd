-- `desk import`: its arguments, and what it has done, by how it ended.
use Rattle.std.specs.Prelude.{◌⊎◌, List, Ok, codes, ℕ, Option, Result, Err, ⊤}
use Rattle.clap.specs.Simple.{App, new_app, with_rule}
use Rattle.clap.specs.Walk.{Row}
use Rattle.desk_cli.specs.Named.{Named, import, named_as}
use Rattle.desk_cli.specs.Options.{◌>>=◌, name_of, required_rule, or_bad, place_rule, placed, value_at}
use Rattle.desk_cli.specs.declared.usage.BadValue.TheVariants.{Sender}
use Rattle.std.specs.Io.KnownBytes.{Appends, Consumes, Keeps}
use Rattle.sqlite.specs.Held.{Held}
use Rattle.sqlite_trees.specs.declared.store.Store.{Ghosts}
use Rattle.registry_core.specs.declared.messages.Envelope.{Envelope}
use Rattle.registry_core.specs.Settings.{Settings}
use Rattle.desk_wire.specs.declared.csv_faults.CsvFault.TheVariants as csv
use Rattle.desk_engine.specs.CsvImporting.{ImportsAll, ImportsFirst, RefusesReport}
use Rattle.desk_cli.specs.OnDesk.{OnDesk}
use Rattle.desk_cli.specs.OnTables.{IsLeft, KeepsHeard}
use Rattle.desk_cli.specs.Streams.{KeepsBoth, Streams}
use Rattle.desk_cli.specs.declared.faults.Fault.{Fault}
use Rattle.desk_cli.specs.declared.faults.Fault.TheVariants.{CsvSize, CsvEnd, CsvHeader, CsvRecord, File, Unavailable}

-- its arguments
abbrev pub import_app : App
import_app =
    with_rule (with_rule (new_app (codes "import"))
    (place_rule (codes "file")))
    (required_rule (codes "sender"))

-- what they name
abbrev pub import_named : List Row → Named
import_named rows = named_as do
  file ← placed (codes "file") rows
  sender ← or_bad (value_at name_of (codes "sender") rows) Sender
  Ok (import file sender)

-- What it has done, by how it ended. `heard` is the log before, and `sender` the message sender of the records. `Kept` states that a log is
-- represented, and `Left` that a crash leaves a log, or it with the in-flight message. `left` and `rest` are what the reader has left
-- before and after, `before` and `after` what the writer has before and after.
module _ (c : Settings) (heard : List Envelope) (sender : List ℕ) (Kept : List Envelope → Type 0) (Left : List Envelope → Option Envelope → Type 0)
    (left rest before after : Option (List ℕ)) where
  -- a read failed, and nothing was heard or written
  pub record ReadsInVain : Type 0 where
    pub input : List ℕ
    pub read : Consumes left rest input
    pub kept : Kept heard
    pub unwritten : Keeps before after

  -- A write failed. Every record was heard; or the store was unavailable for one, and those before it were heard.
  abbrev pub WritesInVain : Type 0
  WritesInVain = ImportsAll c heard sender Kept Left left rest before after (λ _. ⊤) ⊎ ImportsFirst c heard sender Kept Left left rest before after (λ _. ⊤)

  abbrev pub ImportsBy : {T : Type 0} → Result T Fault → Type 0
  ImportsBy (Ok x) = ImportsAll c heard sender Kept Left left rest before after (Appends before after)
  ImportsBy (Err Unavailable) = ImportsFirst c heard sender Kept Left left rest before after (Appends before after)
  ImportsBy (Err File) = ReadsInVain ⊎ WritesInVain
  ImportsBy (Err CsvSize) = RefusesReport c heard sender Kept Left left rest before after csv.Size
  ImportsBy (Err CsvEnd) = RefusesReport c heard sender Kept Left left rest before after csv.Unended
  ImportsBy (Err CsvHeader) = RefusesReport c heard sender Kept Left left rest before after csv.Header
  ImportsBy (Err (CsvRecord n)) = RefusesReport c heard sender Kept Left left rest before after (csv.Record n)
  ImportsBy (Err _) = ⊥

-- the same of the desk's file, which was given back
abbrev pub ImportsDesk : {S T : Type 0} → Ghosts S → Held S → Settings → List Envelope → (sender : List ℕ) → Streams → Result T Fault → Type 0
ImportsDesk g back c heard sender io result =
    ImportsBy c heard sender (KeepsHeard g back c) (IsLeft g back c) io.left io.rest io.before io.after result

-- over a connection; `back` is the connection that is returned
abbrev pub ImportsOver : {S T : Type 0} → Ghosts S → (conn : Held S) → (sender : List ℕ) → Streams → (back : Held S) → Result T Fault → Type 0
ImportsOver g conn sender io back result = OnDesk g conn back result (KeepsBoth io) (λ c heard. ImportsDesk g back c heard sender io result)
