-- A connection whose database is not a desk of schema 2, and what a command makes of it.
use Rattle.std.specs.Prelude.{◌≡◌, ◌≢◌, ◌⊎◌, ℤ, pos, Result, Ok, Err}
use Rattle.sqlite.specs.Held.{Held, state}
use Rattle.sqlite_trees.specs.declared.store.Store.{Ghosts}
use Rattle.registry_core.specs.Settings.{Settings}
use Rattle.desk_rows.specs.Meta.{HasMeta, TellsMeta}
use Rattle.desk_rows.specs.Schema.{desk_schema, schema_version}
use Rattle.desk_tables.specs.Adopting.{IsGivenBack}
use Rattle.desk_cli.specs.declared.faults.Fault.{Fault}
use Rattle.desk_cli.specs.declared.faults.Fault.TheVariants.{NotADesk, Schema, Unavailable}

module _ {S : Type 0} (g : Ghosts S) (conn : Held S) where
  -- it has other tables or indexes, or its row of meta is not that of a desk of version 2
  abbrev pub IsNotADesk : Type 0
  IsNotADesk = conn.schema ≡ desk_schema → (c : Settings) → ¬ TellsMeta (state g conn).now.trees (pos schema_version) c

  -- it has a table meta, whose row is that of a desk of another version
  abbrev pub IsOfOtherVersion : Type 0
  IsOfOtherVersion = HasMeta conn.schema × ((version : ℤ) × (c : Settings) × TellsMeta (state g conn).now.trees version c × (version ≢ pos schema_version))

  -- Why there is no desk. `Schema` only if the version is another, and then never `NotADesk`. The connection is given back with everything
  -- as it was, and a crash leaves what it left before.
  pub record IsRefused (back : Held S) (fault : Fault) : Type 0 where
    pub told : (fault ≡ NotADesk) ⊎ ((fault ≡ Schema) ⊎ (fault ≡ Unavailable))
    pub version : fault ≡ Schema → IsOfOtherVersion
    pub other_version : IsOfOtherVersion → fault ≢ NotADesk
    pub given_back : IsGivenBack (state g conn) (state g back) (λ _. ⊥)

  -- what is true of a command, by how it ended: it is refused, and the streams are untouched
  abbrev pub RefusesFile : {T : Type 0} → Held S → Type 0 → Result T Fault → Type 0
  RefusesFile back Untouched (Ok x) = ⊥
  RefusesFile back Untouched (Err fault) = IsRefused back fault × Untouched
