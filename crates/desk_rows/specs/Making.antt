-- A desk's database before its first rows, and with them.
use Rattle.std.specs.Prelude.{◌≡◌, [], OnOk, Result}
use Rattle.std.specs.List.{AllByRecursion}
use Rattle.registry_core.specs.Settings.{Settings}
use Rattle.sqlite_trees.specs.declared.store.Store.{Ghosts}
use Rattle.sqlite.specs.declared.transaction.Transaction.{Transaction}
use Rattle.sqlite.specs.Effect.{Database, IsDatabase}
use Rattle.sqlite.specs.State.{State}
use Rattle.desk_rows.specs.Calls.{WhenClean}
use Rattle.desk_rows.specs.Rows.{Rows}
use Rattle.desk_rows.specs.Schema.{desk_schema, no_schema}
use Rattle.desk_rows.specs.declared.faults.RowFault.{RowFault}

-- each table of the schema is empty
abbrev pub IsEmptied : Database → Type 0
IsEmptied db = AllByRecursion (λ t. db.trees t.tree ≡ []) db.schema.tables

-- the eleven tables with their indexes and nothing else are there, with no rows
pub record IsBare (db : Database) : Type 0 where
  pub schema : db.schema ≡ desk_schema
  pub sound : IsDatabase db
  pub empty : IsEmptied db

-- `Left` is true of the state after `Ok` if there was no table, index or view, and the disk is clean
abbrev pub MakesAnew : {S X : Type 0} → Ghosts S → Transaction S → Transaction S → Result X RowFault → (State → Type 0) → Type 0
MakesAnew g old new result Left = WhenClean g old.conn.now new.conn.now (λ old new. old.now.schema ≡ no_schema → OnOk result (Left new))

-- only the configuration
abbrev pub settings_rows : Settings → Rows
settings_rows c = record { settings = c; senders = []; replies = []; owners = []; gateways = []; devices = []; sessions = []; uplinks = []; receptions = []; bookings = []; limits = [] }
