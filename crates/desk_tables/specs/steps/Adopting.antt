-- What becomes of a connection whose tables are a desk's.
use Rattle.std.specs.Prelude.{◌≡◌, ◌≢◌, ◌≤◌, false, Result, Ok, Err}
use Rattle.registry_core.specs.Settings.{Settings}
use Rattle.sqlite_trees.specs.View.{doubt}
use Rattle.sqlite_trees.specs.declared.store.Store.{Ghosts}
use Rattle.sqlite.specs.Held.{Held, state}
use Rattle.sqlite.specs.State.{HasCleanDisk}
use Rattle.desk_store.specs.Calls.{IsUnavailability}
use Rattle.desk_store.specs.Kept.{Kept}
use Rattle.desk_store.specs.declared.faults.StoreFault.{StoreFault}
use Rattle.desk_store.specs.declared.faults.StoreFault.TheVariants.{Exists, SchemaVersion}
use Rattle.desk_rows.specs.Rows.{Holds, Rows}
use Rattle.desk_tables.specs.Adopting.{IsGivenBack, IsStore}
use Rattle.desk_tables.specs.InOrder.{IsOfDesk}
use Rattle.desk_tables.specs.Store.{Rests, meaning_of}
use Rattle.desk_tables.specs.declared.tables.Tables.{Tables}
use Rattle.desk_tables.specs.steps.Calls.{IsReady}

module _ {S : Type 0} (g : Ghosts S) (conn : Held S) where
  -- the store over the connection: if the tables represent something, it represents that
  pub record IsStoreOver (config : Settings) (t : Tables S) : Type 0 where
    pub configuration : t.config ≡ config
    pub clean : doubt (state g conn).is_clean ≤ doubt (state g t.conn).is_clean
    pub holds : HasCleanDisk (state g t.conn) → IsReady (state g conn) → (kept : Kept) → IsOfDesk config kept (state g conn).now
        → IsStore (meaning_of g) t config kept
    pub rests : HasCleanDisk (state g t.conn) → IsReady (state g conn) → Rests g t (state g conn).now

  -- the connection again, as it was: if the tables have rows of a desk, the error was `Memory`, `Disk` or `Size`
  pub record IsNotAdopted (fault : StoreFault) (back : Held S) : Type 0 where
    pub clean : doubt (state g conn).is_clean ≤ doubt (state g back).is_clean
    pub idle : (state g back).in_transaction ≡ false
    pub version : fault ≢ SchemaVersion
    pub never : fault ≢ Exists
    pub stays : HasCleanDisk (state g back) → IsReady (state g conn) → IsGivenBack (state g conn) (state g back) (λ _. ⊥)
    pub in_order : HasCleanDisk (state g back) → IsReady (state g conn) → (r : Rows) → Holds (state g conn).now r → IsUnavailability fault

  abbrev pub IsAdopted : Settings → Result (Tables S) (StoreFault × Held S) → Type 0
  IsAdopted config (Ok t) = IsStoreOver config t
  IsAdopted config (Err back) = IsNotAdopted back.0 back.1
