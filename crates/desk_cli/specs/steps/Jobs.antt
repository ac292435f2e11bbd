-- What a command does with the desk in a file, stated of the store that opens it.
use Rattle.std.specs.Prelude.{◌≡◌, ◌⊎◌, ℕ, false, List, Option, None, Result, Err}
use Rattle.sqlite_trees.specs.Tree.{Trees}
use Rattle.sqlite_trees.specs.declared.store.Store.{Ghosts}
use Rattle.sqlite.specs.Held.{Held, state}
use Rattle.registry_core.specs.declared.messages.Envelope.{Envelope}
use Rattle.registry_core.specs.Settings.{Settings}
use Rattle.desk_store.specs.Kept.{IsOneOf, Kept}
use Rattle.desk_store.specs.Meaning.{Meaning}
use Rattle.desk_tables.specs.InOrder.{AreOfDesk, IsOfDesk}
use Rattle.desk_tables.specs.Store.{meaning_of}
use Rattle.desk_tables.specs.declared.tables.Tables.{Tables}
use Rattle.desk_engine.specs.declared.report_faults.ReportFault.{ReportFault}
use Rattle.desk_engine.specs.Hearing.{StoreKeeps, StoreLeaves}
use Rattle.desk_engine.specs.Log.{log_of}
use Rattle.desk_engine.specs.declared.log.LogText.{LogText}
use Rattle.desk_cli.specs.Answering.{AnswersBy}
use Rattle.desk_cli.specs.OnTables.{IsLeft, WasOpened}
use Rattle.desk_cli.specs.Ports.{AtPorts}
use Rattle.desk_cli.specs.Printing.{PrintsBy}
use Rattle.desk_cli.specs.commands.Importing.{ImportsBy}
use Rattle.desk_cli.specs.commands.Log.{LogsBy}
use Rattle.desk_cli.specs.commands.Serving.{ServesBy}
use Rattle.desk_cli.specs.declared.faults.Fault.{Fault}
use Rattle.desk_cli.specs.declared.faults.Fault.TheVariants.{Unavailable}

-- What is done with a store, by how it ended: a desk of this configuration that represented this log, before and after; what the reader had
-- and has left, and what the writer had and has.
abbrev pub Done : Type 1
Done = (K : Type 0) → Meaning K → Settings → List Envelope → K → K → (left rest before after : Option (List ℕ)) → Result (Unit {0}) Fault → Type 0

module _ {S : Type 0} (g : Ghosts S) (c : Settings) (heard : List Envelope) (back : Held S) where
  -- A store was opened on the desk, this was done with it, and it was closed to the connection.
  pub record ByStore (Does : Tables S → Tables S → Type 0) : Type 0 where
    pub old : Tables S
    pub new : Tables S
    pub was : WasOpened (meaning_of g) old c heard
    pub was_sound : (meaning_of g).sound old
    pub sound : (meaning_of g).sound new
    pub same : (meaning_of g).configuration new ≡ (meaning_of g).configuration old
    pub did : Does old new
    pub in_order : (kept : Kept) → (meaning_of g).sound new → (meaning_of g).failed new ≡ false → (meaning_of g).holds new kept
        → IsOfDesk ((meaning_of g).configuration new) kept (state g back).now × ((state g back).now ≡ (state g back).committed)
    pub left : (all : List Kept) → (meaning_of g).leaves new all → (trees : Trees) → (state g back).may_leave trees
        → (kept : Kept) × IsOneOf all kept × AreOfDesk ((meaning_of g).configuration new) kept trees

  -- the same, or it couldn't be opened, and the streams are untouched
  abbrev pub DoesByStore : Done → (left rest before after : Option (List ℕ)) → Result (Unit {0}) Fault → Type 0
  DoesByStore does left rest before after result =
      ByStore (λ old new. does (Tables S) (meaning_of g) c heard old new left rest before after result)
      ⊎ ((result ≡ Err Unavailable) × IsLeft g back c heard None × (rest ≡ left) × (after ≡ before))

-- ---- what each command does with a store

-- lines were heard and answered
abbrev pub answers : Done
answers K m c heard old new left rest before after result = AnswersBy c heard (StoreKeeps m c heard old new) (StoreLeaves m c heard old new) left rest before after result

-- a gateway's report of this sender was heard
abbrev pub imports : List ℕ → Done
imports sender K m c heard old new left rest before after result =
    ImportsBy c heard sender (StoreKeeps m c heard old new) (StoreLeaves m c heard old new) left rest before after result

-- n connections at a port were served
abbrev pub serves : AtPorts → ℕ → ℕ → Done
serves ports port n K m c heard old new left rest before after result =
    ServesBy c heard (StoreKeeps m c heard old new) (StoreLeaves m c heard old new) ports port n before after result

-- a report was printed that is this of the desk's configuration and log
abbrev pub prints : (Settings → List Envelope → Result (List ℕ) ReportFault → Type 0) → Done
prints IsAnswer K m c heard old new left rest before after result =
    PrintsBy (StoreKeeps m c heard old new heard) (StoreLeaves m c heard old new heard None) before after (IsAnswer c heard) result

-- at most `count` messages of the log were printed from this number on, or their answers
abbrev pub logs : LogText → ℕ → ℕ → Done
logs which from count K m c heard old new left rest before after result =
    LogsBy (log_of which c heard from count) (StoreKeeps m c heard old new heard) (StoreLeaves m c heard old new heard None) before after result
