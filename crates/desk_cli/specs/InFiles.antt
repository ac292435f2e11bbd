-- A desk in the two files of a database: what a connection to them is, and what a crash leaves of them.
use Rattle.std.specs.Prelude.{◌≡◌, ◌⊎◌, ◌++◌, List, [], ◌∷◌, Option, Some, IsTrue}
use Rattle.sqlite_disk.specs.declared.Disk.{Ghosts}
use Rattle.sqlite_store.specs.declared.store.FileStore.{FileStore}
use Rattle.sqlite_store.specs.FileStore as store
use Rattle.sqlite_trees.specs.Tree.{Trees}
use Rattle.sqlite_wal.specs.Recovery.{Image}
use Rattle.sqlite.specs.Files.{HoldsDatabase, IsOpened, file_state, over_files}
use Rattle.sqlite.specs.Held.{Held}
use Rattle.sqlite.specs.Start.{FindsIn}
use Rattle.sqlite.specs.State.{HasCleanDisk}
use Rattle.registry_core.specs.declared.messages.Envelope.{Envelope}
use Rattle.registry_core.specs.Heard.{IsHeard}
use Rattle.registry_core.specs.Settings.{Settings}
use Rattle.desk_engine.specs.InOrder.{kept_after}
use Rattle.desk_tables.specs.InOrder.{AreOfDesk}
use Rattle.desk_cli.specs.OnTables.{IsFound, IsLeft, KeepsHeard}

-- the octets of the two files are exactly the tables of a desk of this configuration that represents this log
pub record HoldHeard (c : Settings) (heard : List Envelope) (octets : Image) : Type 0 where
  pub list : IsHeard c heard
  pub trees : Trees
  pub database : HoldsDatabase octets trees
  pub tables : AreOfDesk c (kept_after c heard) trees

-- they are those of this log, or of this log with the in-flight message
abbrev pub HoldLeft : Settings → List Envelope → Option Envelope → Image → Type 0
HoldLeft c heard doubt octets = HoldHeard c heard octets ⊎ ((e : Envelope) × (doubt ≡ Some e) × HoldHeard c (heard ++ e ∷ []) octets)

module _ {D : Type 0} {g : Ghosts D} where
  -- what is true of a connection that was opened on files with these octets, on a disk that has returned what was written to it
  abbrev pub Shows : Image → Held (FileStore D g) → Type 0
  Shows octets conn = HasCleanDisk (file_state conn) → IsOpened conn × FindsIn octets (file_state conn)

  -- what `again` has in its files is one of what a crash could leave of the files of `conn`
  abbrev pub FindsLeft : (conn again : Held (FileStore D g)) → Type 0
  FindsLeft conn again = (c : Settings) (heard : List Envelope) (doubt : Option Envelope) → IsLeft over_files conn c heard doubt → IsFound c heard doubt (file_state again).now

-- disks of this type always return what was written
abbrev pub ReturnsAll : {D : Type 0} → Ghosts D → Type 0
ReturnsAll {D} g = (disk : D) → IsTrue (g.is_clean disk)

-- a desk that files contained is what the connection to them represents
abbrev pub DesksAreFound : {D : Type 0} → Ghosts D → Type 0
DesksAreFound {D} g = (octets : Image) (conn : Held (FileStore D g)) → Shows octets conn → HasCleanDisk (file_state conn)
    → (c : Settings) (heard : List Envelope) → HoldHeard c heard octets → KeepsHeard over_files conn c heard

-- whatever octets a crash leaves of a connection's files at this moment contain the log, or the log with the in-flight message
abbrev pub DesksAreLeft : {D : Type 0} → Ghosts D → Type 0
DesksAreLeft {D} g = (conn : Held (FileStore D g)) (octets : Image) → IsTrue (store.view conn.store).is_numbered → (store.state conn.store).may_leave octets
    → (c : Settings) (heard : List Envelope) (doubt : Option Envelope) → IsHeard c heard → IsLeft over_files conn c heard doubt → ∥ HoldLeft c heard doubt octets ∥₁
