-- Stores that are made over a connection, and connections that are given back.
use Rattle.std.specs.Prelude.{◌≡◌, ◌≢◌, ◌⊎◌, ◌≤◌, false, ℕ, pos, List, [], None, IsTrue}
use Rattle.registry_core.specs.Settings.{Settings}
use Rattle.registry_core.specs.State.{opening}
use Rattle.sqlite_trees.specs.Tree.{Trees}
use Rattle.sqlite_trees.specs.View.{doubt}
use Rattle.sqlite_trees.specs.declared.store.Store.{Ghosts}
use Rattle.sqlite_schema.specs.declared.schema.Schema.{Schema}
use Rattle.sqlite.specs.Effect.{Database}
use Rattle.sqlite.specs.Held.{Held, state}
use Rattle.sqlite.specs.State.{State, HasCleanDisk}
use Rattle.desk_store.specs.Calls.{IsUnavailability}
use Rattle.desk_store.specs.Kept.{IsOneOf, Kept}
use Rattle.desk_store.specs.Meaning.{Meaning}
use Rattle.desk_store.specs.declared.faults.StoreFault.{StoreFault}
use Rattle.desk_rows.specs.Meta.{TellsMeta}
use Rattle.desk_rows.specs.Rows.{Rows, Holds}
use Rattle.desk_rows.specs.Schema.{desk_schema, schema_version}
use Rattle.desk_tables.specs.InOrder.{AreOfDesk, IsOfDesk}
use Rattle.desk_tables.specs.Opening.{HasDesk}
use Rattle.desk_tables.specs.Store.{meaning_of}
use Rattle.desk_tables.specs.declared.tables.Tables.{Tables}

-- a store of this configuration, not failed, which has returned no `NotADesk` and represents this, with no change in progress
pub record IsStore {K : Type 0} (m : Meaning K) (k : K) (c : Settings) (kept : Kept) : Type 0 where
  pub configuration : m.configuration k ≡ c
  pub up : m.failed k ≡ false
  pub known : m.not_a_desk k ≡ false
  pub holds : m.holds k kept
  pub rests : (stored : m.Stored) × m.rests k stored

-- what a desk of this configuration represents with no message in its log
abbrev pub opening_kept : Settings → Kept
opening_kept c = record { facts = opening c; entries = [] }

-- the connection that is given back: all is as it was, and a crash leaves what it left before, or trees that are `Made`
pub record IsGivenBack (old new : State) (Made : Trees → Type 0) : Type 0 where
  pub clean : doubt old.is_clean ≤ doubt new.is_clean
  pub undone : HasCleanDisk new → IsTrue new.is_open → (new.now ≡ old.now) × (new.committed ≡ old.committed)
  pub idle : new.in_transaction ≡ false
  pub crash : HasCleanDisk new → (trees : Trees) → new.may_leave trees → old.may_leave trees ⊎ Made trees

-- ---- a store over a connection: if the store is sound, this is true

module _ {S : Type 0} (g : Ghosts S) where
  -- it is of this configuration and represents this
  abbrev pub IsStoreOf : Settings → Kept → Tables S → Type 0
  IsStoreOf c kept t = (meaning_of g).sound t → IsStore (meaning_of g) t c kept

  -- the connection had this schema, and its row of meta this version and the store's configuration
  abbrev pub IsStoreAt : Held S → Schema → ℕ → Tables S → Type 0
  IsStoreAt conn schema version t = (meaning_of g).sound t → HasDesk g conn schema version ((meaning_of g).configuration t)

  -- it is at rest over the connection's database
  abbrev pub RestsOn : Held S → Tables S → Type 0
  RestsOn conn t = (meaning_of g).sound t → (meaning_of g).rests t (state g conn).now

-- ---- an error and the connection that is given back: if its disk is clean, this is true

module _ {S : Type 0} (g : Ghosts S) where
  -- the error is `Memory`, `Disk` or `Size`
  abbrev pub IsUnavailable : StoreFault × Held S → Type 0
  IsUnavailable back = HasCleanDisk (state g back.1) → IsUnavailability back.0

  -- the error isn't this one
  abbrev pub IsNot : StoreFault → StoreFault × Held S → Type 0
  IsNot fault back = HasCleanDisk (state g back.1) → back.0 ≢ fault

  -- the error is this one, or `Memory`, `Disk` or `Size`
  abbrev pub IsOrUnavailable : StoreFault → StoreFault × Held S → Type 0
  IsOrUnavailable fault back = HasCleanDisk (state g back.1) → (back.0 ≡ fault) ⊎ IsUnavailability back.0

  -- the error is this one only if `Why` is true
  abbrev pub OnlyIf : StoreFault → Type 0 → StoreFault × Held S → Type 0
  OnlyIf fault Why back = HasCleanDisk (state g back.1) → back.0 ≡ fault → Why

  -- the connection is given back as it was, or a crash leaves trees that are `Made`
  abbrev pub GivesBack : Held S → (Trees → Type 0) → StoreFault × Held S → Type 0
  GivesBack conn Made back = IsGivenBack (state g conn) (state g back.1) Made

-- ---- the database of a connection

module _ {S : Type 0} (g : Ghosts S) (conn : Held S) where
  -- `Then` is true of what its tables of schema 2 represent
  abbrev pub ForDesk : (Settings → Kept → Type 0) → Type 0
  ForDesk Then = (c : Settings) (kept : Kept) → IsOfDesk c kept (state g conn).now → Then c kept

  -- if it has schema 2 and a row of meta in form, its tables don't have the rows of a desk
  abbrev pub IsNoDesk : Type 0
  IsNoDesk = conn.schema ≡ desk_schema → (c : Settings) → TellsMeta (state g conn).now.trees (pos schema_version) c → (r : Rows) → ¬ Holds (state g conn).now r

  -- it is this database, and so is the committed one
  abbrev pub HasStored : Database → Type 0
  HasStored db = ((state g conn).now ≡ db) × ((state g conn).committed ≡ db)

-- ---- a store that is closed

module _ {S : Type 0} (g : Ghosts S) (t : Tables S) where
  -- `Then` is true of what it represents, if it is sound and not failed
  abbrev pub ForWhatItHolds : (Kept → Type 0) → Type 0
  ForWhatItHolds Then = (kept : Kept) → (meaning_of g).sound t → (meaning_of g).failed t ≡ false → (meaning_of g).holds t kept → Then kept

  -- `Then` is true of the database over which it is at rest, if it is sound and not failed
  abbrev pub ForWhereItRests : (Database → Type 0) → Type 0
  ForWhereItRests Then = (db : Database) → (meaning_of g).sound t → (meaning_of g).failed t ≡ false → (meaning_of g).rests t db → Then db

  -- the connection's database represents this under the store's configuration, and everything is committed
  abbrev pub ClosesTo : Held S → Kept → Type 0
  ClosesTo conn kept = IsOfDesk ((meaning_of g).configuration t) kept (state g conn).now × ((state g conn).now ≡ (state g conn).committed)

  -- a crash leaves of the connection what it left of the store, for each list of what that may be
  abbrev pub LeavesItsOwn : Held S → Type 0
  LeavesItsOwn conn = (all : List Kept) → (meaning_of g).leaves t all → (trees : Trees) → (state g conn).may_leave trees
      → (kept : Kept) × IsOneOf all kept × AreOfDesk ((meaning_of g).configuration t) kept trees
