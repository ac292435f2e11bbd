-- `desk hear`: its arguments, and what it has done, by how it ended.
use Rattle.std.specs.Prelude.{List, Ok, codes, Result}
use Rattle.clap.specs.Simple.{App, new_app, with_rule}
use Rattle.clap.specs.Walk.{Row}
use Rattle.desk_cli.specs.Named.{Named, hear, named_as}
use Rattle.desk_cli.specs.Options.{◌>>=◌, place_rule, placed}
use Rattle.sqlite.specs.Held.{Held}
use Rattle.sqlite_trees.specs.declared.store.Store.{Ghosts}
use Rattle.registry_core.specs.declared.messages.Envelope.{Envelope}
use Rattle.registry_core.specs.Settings.{Settings}
use Rattle.desk_cli.specs.Answering.{AnswersBy}
use Rattle.desk_cli.specs.OnDesk.{OnDesk}
use Rattle.desk_cli.specs.OnTables.{IsLeft, KeepsHeard}
use Rattle.desk_cli.specs.Streams.{KeepsBoth, Streams}
use Rattle.desk_cli.specs.declared.faults.Fault.{Fault}

-- its arguments
abbrev pub hear_app : App
hear_app = with_rule (new_app (codes "hear")) (place_rule (codes "file"))

-- what they name
abbrev pub hear_named : List Row → Named
hear_named rows = named_as do
  file ← placed (codes "file") rows
  Ok (hear file)

-- ---- what it does

-- The desk of this configuration, which represented this log, heard the lines of the input, and its file was given back.
abbrev pub HearsBy : {S T : Type 0} → Ghosts S → Held S → Settings → List Envelope → Streams → Result T Fault → Type 0
HearsBy g back c heard io result = AnswersBy c heard (KeepsHeard g back c) (IsLeft g back c) io.left io.rest io.before io.after result

-- over a connection; `back` is the connection that is returned
abbrev pub HearsOver : {S T : Type 0} → Ghosts S → (conn : Held S) → Streams → (back : Held S) → Result T Fault → Type 0
HearsOver g conn io back result = OnDesk g conn back result (KeepsBoth io) (λ c heard. HearsBy g back c heard io result)
