-- The database before a desk is made in it, its row of meta, and the trees that a crash leaves of a desk.
use Rattle.std.specs.Prelude.{◌≡◌, ◌≢◌, ℕ, ℤ, pos, not, List, ◌++◌, map, filter, IsTrue}
use Rattle.std.specs.List.{list_any}
use Rattle.sqlite_schema.specs.declared.schema.Index.{Index}
use Rattle.sqlite_schema.specs.declared.schema.Schema.{Schema}
use Rattle.sqlite_schema.specs.declared.schema.Table.{Table}
use Rattle.sqlite_catalog.specs.Change.{is_used}
use Rattle.registry_core.specs.Settings.{Settings}
use Rattle.sqlite_trees.specs.Tree.{Trees}
use Rattle.sqlite_trees.specs.declared.store.Store.{Ghosts}
use Rattle.sqlite.specs.Held.{Held, state}
use Rattle.sqlite.specs.State.{State, HasCleanDisk}
use Rattle.desk_rows.specs.Meta.{HasMeta, TellsMeta}
use Rattle.desk_rows.specs.Rows.{Rows, Holds}
use Rattle.desk_rows.specs.Schema.{desk_schema, desk_tables, desk_indexes}

-- the names of the desk's tables, and of its indexes that have a statement of their own
abbrev pub desk_names : List (List ℕ)
desk_names = map (λ (t : Table). t.name) desk_tables ++ map (λ (i : Index). i.name) (filter (λ (i : Index). not i.is_unique) desk_indexes)

-- a table, an index or a view has one of these names, in any case of letters
abbrev pub IsTaken : Schema → Type 0
IsTaken schema = IsTrue (list_any (is_used schema) desk_names)

-- under the desk's schema, the trees have these rows
abbrev pub TreesHold : Trees → Rows → Type 0
TreesHold trees r = Holds (record { schema = desk_schema; trees = trees }) r

-- ---- the row of meta

module _ {S : Type 0} (g : Ghosts S) (conn : Held S) where
  -- the connection has this schema, and its row of meta this version and this configuration
  abbrev pub HasDesk : Schema → ℕ → Settings → Type 0
  HasDesk schema version c = (conn.schema ≡ schema) × TellsMeta (state g conn).now.trees (pos version) c

  -- if the connection has this schema, it has no row of meta of this version in form
  abbrev pub HasNoDesk : Schema → ℕ → Type 0
  HasNoDesk schema version = conn.schema ≡ schema → (c : Settings) → ¬ TellsMeta (state g conn).now.trees (pos version) c

  -- its row of meta is in form and has another version than this one
  abbrev pub HasOtherVersion : ℕ → Type 0
  HasOtherVersion version = HasMeta conn.schema × ((other : ℤ) × (c : Settings) × TellsMeta (state g conn).now.trees other c × (other ≢ pos version))

  -- `Then` is true if its row of meta is in form and has another version than this one
  abbrev pub IfOtherVersion : ℕ → Type 0 → Type 0
  IfOtherVersion version Then = HasMeta conn.schema → (other : ℤ) (c : Settings) → TellsMeta (state g conn).now.trees other c → other ≢ pos version → Then

-- ---- a connection before a call and after it

-- `Then` is true if the disk is clean after the call
abbrev pub IfClean : {S : Type 0} → Ghosts S → Held S → Type 0 → Type 0
IfClean g new Then = HasCleanDisk (state g new) → Then

module _ {S : Type 0} (g : Ghosts S) (old new : Held S) where
  -- `Does` is true of the states before and after the call if the connection is open after it, and the disk is clean
  abbrev pub WhenOpen : (State → State → Type 0) → Type 0
  WhenOpen Does = HasCleanDisk (state g new) → IsTrue (state g new).is_open → Does (state g old) (state g new)

  -- `Does` is true of the rows that the tables of schema 2 had before the call, if the disk is clean after it
  abbrev pub WithRows : (Rows → Type 0) → Type 0
  WithRows Does = HasCleanDisk (state g new) → (r : Rows) → Holds (state g old).now r → Does r

-- the database is as it was, and so is what is committed
abbrev pub KeepsAll : State → State → Type 0
KeepsAll old new = (new.now ≡ old.now) × (new.committed ≡ old.committed)
