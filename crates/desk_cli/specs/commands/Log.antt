-- `desk log`: its arguments, and what it has printed, by how it ended.
use Rattle.std.specs.Prelude.{◌⊎◌, ℕ, Bool, true, false, List, [], Option, None, Result, Ok, Err, codes}
use Rattle.std.specs.Io.KnownBytes.{Appends, Keeps}
use Rattle.std.specs.declared.io.Write as write
use Rattle.clap.specs.Simple.{App, new_app, with_rule}
use Rattle.clap.specs.Walk.{Row}
use Rattle.sqlite.specs.Held.{Held}
use Rattle.sqlite_trees.specs.declared.store.Store.{Ghosts}
use Rattle.registry_core.specs.declared.messages.Envelope.{Envelope}
use Rattle.registry_core.specs.JsonIntegers.{greatest_json_integer}
use Rattle.registry_core.specs.Settings.{Settings}
use Rattle.desk_engine.specs.Lines.{input_of}
use Rattle.desk_engine.specs.Log.{WritesPart, WritesWhole, log_of, message_number}
use Rattle.desk_engine.specs.declared.log.LogText.{LogText}
use Rattle.desk_engine.specs.declared.log.LogText.TheVariants.{Message, Answer}
use Rattle.desk_cli.specs.Named.{Named, log, named_as}
use Rattle.desk_cli.specs.OnDesk.{OnDesk}
use Rattle.desk_cli.specs.OnTables.{IsLeft, KeepsHeard}
use Rattle.desk_cli.specs.Options.{◌>>=◌, flag_rule, is_set, option_rule, optional_rule, or_bad, place_rule, placed, value_at, value_or}
use Rattle.desk_cli.specs.declared.faults.Fault.{Fault}
use Rattle.desk_cli.specs.declared.faults.Fault.TheVariants.{File, Unavailable}
use Rattle.desk_cli.specs.declared.usage.BadValue.TheVariants.{FirstMessage, Messages}

-- its arguments
abbrev pub log_app : App
log_app =
    with_rule (with_rule (with_rule (with_rule (new_app (codes "log"))
    (place_rule (codes "file")))
    (option_rule (codes "from") (codes "1")))
    (optional_rule (codes "count")))
    (flag_rule (codes "answers"))

-- the answers, or the messages
abbrev pub which_text : Bool → LogText
which_text true = Answer
which_text false = Message

-- What they name. Without `--count` the log is printed to its end: no desk hears more than `greatest_json_integer` messages.
abbrev pub log_named : List Row → Named
log_named rows = named_as do
  file ← placed (codes "file") rows
  from ← or_bad (value_at message_number (codes "from") rows) FirstMessage
  count ← or_bad (value_or message_number greatest_json_integer (codes "count") rows) Messages
  Ok (log file from count (which_text (is_set (codes "answers") rows)))

-- ---- what it does

-- `lines` are the lines that are to be printed. `Kept` states that the desk's file is unchanged, and `Left` that a crash leaves it.
-- `before` and `after` are what the writer has before and after.
module _ (lines : List (List ℕ)) (Kept Left : Type 0) (before after : Option (List ℕ)) where
  -- By how it ended: all lines were written; with `File` they were and the flush failed, or a write failed at a line; with `Unavailable`
  -- the first lines were written.
  abbrev pub LogsBy : {T : Type 0} → Result T Fault → Type 0
  LogsBy (Ok x) = Appends before after (input_of lines []) × Kept
  LogsBy (Err File) = (Appends before after (input_of lines []) ⊎ WritesPart lines before after) × Kept
  LogsBy (Err Unavailable) = WritesWhole lines before after × Left
  LogsBy (Err _) = ⊥

-- The same of the desk's file, which was given back: at most `count` messages of the log were printed from number `from` on, or their
-- answers.
abbrev pub LogsDesk : {S T : Type 0} → Ghosts S → Held S → Settings → List Envelope → LogText → (from count : ℕ) → (before after : Option (List ℕ)) → Result T Fault → Type 0
LogsDesk g back c heard which from count before after result =
    LogsBy (log_of which c heard from count) (KeepsHeard g back c heard) (IsLeft g back c heard None) before after result

-- Over a connection. `w` are the ghost members of the writer, `old` and `new` the writer before and after, and `back` is the connection that
-- is returned.
abbrev pub LogsOver : {S W T : Type 0} → Ghosts S → LogText → (from count : ℕ) → (conn : Held S) (w : write.Ghosts W) (old new : W) (back : Held S) → Result T Fault → Type 0
LogsOver g which from count conn w old new back result =
    OnDesk g conn back result (Keeps (w.contents old) (w.contents new))
    (λ c heard. LogsDesk g back c heard which from count (w.contents old) (w.contents new) result)
