-- `desk migrate`: its arguments, and what it has done, by how it ended.
use Rattle.std.specs.Prelude.{◌≡◌, ◌≢◌, ◌⊎◌, ℤ, pos, List, Result, Ok, Err, OnOk, OnErr, IsTrue, codes}
use Rattle.clap.specs.Simple.{App, new_app, with_rule}
use Rattle.clap.specs.Walk.{Row}
use Rattle.sqlite.specs.Effect.{Database}
use Rattle.sqlite.specs.Held.{Held, state}
use Rattle.sqlite.specs.State.{HasCleanDisk}
use Rattle.sqlite_catalog.specs.Change.{is_used}
use Rattle.sqlite_trees.specs.declared.store.Store.{Ghosts}
use Rattle.registry_core.specs.declared.messages.Envelope.{Envelope}
use Rattle.registry_core.specs.Heard.{IsHeard}
use Rattle.registry_core.specs.Settings.{Settings}
use Rattle.desk_rows.specs.Meta.{HasMeta, TellsMeta}
use Rattle.desk_rows.specs.Migrating.{limit_name}
use Rattle.desk_rows.specs.Schema.{first_schema, first_version}
use Rattle.desk_tables.specs.Adopting.{IsGivenBack}
use Rattle.desk_tables.specs.InOrder.{AreOfDesk}
use Rattle.desk_tables.specs.Migrating.{IsOfFirstSchema}
use Rattle.desk_engine.specs.InOrder.{kept_after}
use Rattle.desk_cli.specs.Named.{Named, migrate, named_as}
use Rattle.desk_cli.specs.OnTables.{KeepsHeard}
use Rattle.desk_cli.specs.Options.{◌>>=◌, place_rule, placed}
use Rattle.desk_cli.specs.declared.faults.Fault.{Fault}
use Rattle.desk_cli.specs.declared.faults.Fault.TheVariants.{Exists, NotADesk, Schema, Unavailable}

-- its arguments
abbrev pub migrate_app : App
migrate_app = with_rule (new_app (codes "migrate")) (place_rule (codes "file"))

-- what they name
abbrev pub migrate_named : List Row → Named
migrate_named rows = named_as do
  file ← placed (codes "file") rows
  Ok (migrate file)

-- ---- what it does

-- the database is exactly the tables of schema 1 of a desk of this configuration that represents this log
pub record HasHeardInFirst (c : Settings) (heard : List Envelope) (db : Database) : Type 0 where
  pub list : IsHeard c heard
  pub tables : IsOfFirstSchema c (kept_after c heard) db

-- the database has a table meta, whose row is that of a desk of this version
abbrev pub IsOfVersion : {S : Type 0} → Ghosts S → Held S → ℤ → Type 0
IsOfVersion g conn version = HasMeta conn.schema × ((c : Settings) × TellsMeta (state g conn).now.trees version c)

-- For a file of schema 1: with status 0 it has schema 2 and represents the same log, and else memory or the disk failed, and a crash leaves
-- what it left before or the tables moved. For any file: with another status everything is as it was, if the connection is still open.
-- `Schema` comes only if a desk has another version than 1, and `Exists` if the name of the table that is to be made is taken. A database
-- that is not a desk of version 1 is given back as it was.
pub record MigratesBy {S : Type 0} (g : Ghosts S) (conn back : Held S) {T : Type 0} (result : Result T Fault) : Type 0 where
  pub moved : (c : Settings) (heard : List Envelope) → HasHeardInFirst c heard (state g conn).now → OnOk result (HasCleanDisk (state g back) → KeepsHeard g back c heard)
  pub unavailable : (c : Settings) (heard : List Envelope) → HasHeardInFirst c heard (state g conn).now → OnErr result (HasCleanDisk (state g back) → result ≡ Err Unavailable)
  pub undone : OnErr result (HasCleanDisk (state g back) → IsTrue (state g back).is_open
      → ((state g back).now ≡ (state g conn).now) × ((state g back).committed ≡ (state g conn).committed))
  pub given_back : (c : Settings) (heard : List Envelope) → HasHeardInFirst c heard (state g conn).now
      → OnErr result (IsGivenBack (state g conn) (state g back) (AreOfDesk c (kept_after c heard)))
  pub first : OnOk result (HasCleanDisk (state g back) → (conn.schema ≡ first_schema) × IsOfVersion g conn (pos first_version))
  pub told : OnErr result ((result ≡ Err NotADesk) ⊎ ((result ≡ Err Schema) ⊎ ((result ≡ Err Exists) ⊎ (result ≡ Err Unavailable))))
  pub version : HasCleanDisk (state g back) → result ≡ Err Schema → (version : ℤ) × IsOfVersion g conn version × (version ≢ pos first_version)
  pub other_version : (version : ℤ) → IsOfVersion g conn version → version ≢ pos first_version
      → OnErr result (HasCleanDisk (state g back) → (result ≡ Err Schema) ⊎ (result ≡ Err Unavailable))
  pub exists : HasCleanDisk (state g back) → result ≡ Err Exists → IsOfVersion g conn (pos first_version) × IsTrue (is_used conn.schema limit_name)
  pub taken : IsOfVersion g conn (pos first_version) → IsTrue (is_used conn.schema limit_name)
      → OnErr result (HasCleanDisk (state g back) → (result ≡ Err Exists) ⊎ (result ≡ Err Unavailable))
  pub untouched : (conn.schema ≡ first_schema → (c : Settings) → ¬ TellsMeta (state g conn).now.trees (pos first_version) c)
      → OnErr result (IsGivenBack (state g conn) (state g back) (λ _. ⊥))
