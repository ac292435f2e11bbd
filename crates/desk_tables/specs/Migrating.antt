-- Tables of schema 1.
use Rattle.std.specs.Prelude.{◌≡◌, pos, IsTrue}
use Rattle.registry_core.specs.Settings.{Settings}
use Rattle.sqlite_trees.specs.declared.store.Store.{Ghosts}
use Rattle.sqlite.specs.Effect.{Database}
use Rattle.sqlite.specs.Held.{Held, state}
use Rattle.sqlite.specs.State.{HasCleanDisk}
use Rattle.desk_store.specs.Kept.{Kept}
use Rattle.desk_store.specs.declared.faults.StoreFault.{StoreFault}
use Rattle.desk_rows.specs.Meta.{HasMeta, TellsMeta}
use Rattle.desk_rows.specs.Migrating.{HoldsFirst, IsLimitTaken}
use Rattle.desk_rows.specs.Rows.{Rows}
use Rattle.desk_rows.specs.Schema.{first_schema, first_version}
use Rattle.desk_tables.specs.InOrder.{IsOfDeskBy}
use Rattle.desk_tables.specs.Opening.{KeepsAll}

-- the ten tables of schema 1 represent this, the configuration is one that a desk can have, and there are no more messages than there may
-- be
abbrev pub IsOfFirstSchema : Settings → Kept → Database → Type 0
IsOfFirstSchema = IsOfDeskBy HoldsFirst

-- ---- the database of a connection

module _ {S : Type 0} (g : Ghosts S) (conn : Held S) where
  -- `Then` is true of what its tables of schema 1 represent
  abbrev pub ForFirstDesk : (Settings → Kept → Type 0) → Type 0
  ForFirstDesk Then = (c : Settings) (kept : Kept) → IsOfFirstSchema c kept (state g conn).now → Then c kept

  -- if it has schema 1 and a row of meta in form, its tables don't have the rows of a desk
  abbrev pub IsNoFirstDesk : Type 0
  IsNoFirstDesk = conn.schema ≡ first_schema → (c : Settings) → TellsMeta (state g conn).now.trees (pos first_version) c
      → (r : Rows) → ¬ HoldsFirst (state g conn).now r

  -- its row of meta is that of schema 1, and the name of the table of limits is taken
  abbrev pub HasTakenName : Type 0
  HasTakenName = HasMeta conn.schema × ((c : Settings) × TellsMeta (state g conn).now.trees (pos first_version) c) × IsLimitTaken conn.schema

  -- `Then` is true if its row of meta is that of schema 1, and the name of the table of limits is taken
  abbrev pub IfNameTaken : Type 0 → Type 0
  IfNameTaken Then = HasMeta conn.schema → (c : Settings) → TellsMeta (state g conn).now.trees (pos first_version) c → IsLimitTaken conn.schema → Then

  -- the connection that is given back is as it was, if it is open and its disk is clean
  abbrev pub IsUnmigrated : StoreFault × Held S → Type 0
  IsUnmigrated back = HasCleanDisk (state g back.1) → IsTrue (state g back.1).is_open → KeepsAll (state g conn) (state g back.1)
