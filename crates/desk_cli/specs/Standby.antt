-- A desk that is made of another desk's log.
use Rattle.std.specs.Prelude.{◌≡◌, ℕ, List, []}
use Rattle.sqlite.specs.Held.{Held}
use Rattle.sqlite_trees.specs.declared.store.Store.{Ghosts}
use Rattle.registry_core.specs.declared.messages.Envelope.{Envelope}
use Rattle.registry_core.specs.Settings.{Settings}
use Rattle.registry_core.specs.JsonIntegers.{greatest_json_integer}
use Rattle.desk_engine.specs.Lines.{all_lines, answer_lines, heard_lines, input_of}
use Rattle.desk_engine.specs.Log.{log_of}
use Rattle.desk_engine.specs.declared.log.LogText.{LogText}
use Rattle.desk_engine.specs.declared.log.LogText.TheVariants.{Message, Answer}
use Rattle.desk_cli.specs.OnTables.{KeepsHeard}

-- what `log` prints of a desk if no part is asked for
abbrev pub whole_log : LogText → Settings → List Envelope → List ℕ
whole_log which c heard = input_of (log_of which c heard 1 greatest_json_integer) []

-- Take a desk's file (`conn`), and the lines that `log` prints of it. A new desk with the same four options answers them as `log --answers`
-- prints. A file (`other`) whose desk has heard these lines alone has exactly the tables of a desk that has heard what the first has.
abbrev pub LogsMakeDesks : {S T : Type 0} → Ghosts S → Ghosts T → Type 0
LogsMakeDesks {S} {T} g h = (conn : Held S) (other : Held T) (c : Settings) (heard : List Envelope) → KeepsHeard g conn c heard
    → let lines : List (List ℕ) = all_lines (whole_log Message c heard) in
    (answer_lines c [] lines ≡ whole_log Answer c heard)
    × (KeepsHeard h other c (heard_lines c [] lines) → KeepsHeard h other c heard)
