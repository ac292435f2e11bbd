-- The row of meta: the version of the schema and the desk's configuration, whatever else the database has.
use Rattle.std.specs.Prelude.{◌≡◌, ◌<◌, ◌^◌, ℤ, pos, [], ◌∷◌, take}
use Rattle.registry_core.specs.Ranges.{IsName}
use Rattle.registry_core.specs.Settings.{Settings, IsBlock}
use Rattle.sqlite_value.specs.declared.value.Value.TheVariants.{Int, Text}
use Rattle.sqlite_value.specs.Order.{Row, column}
use Rattle.sqlite_trees.specs.Tree.{Trees}
use Rattle.sqlite_trees.specs.declared.store.Store.{Ghosts}
use Rattle.sqlite_schema.specs.declared.schema.Schema.{Schema}
use Rattle.sqlite.specs.Held.{Held, state}
use Rattle.sqlite.specs.State.{State, HasCleanDisk}
use Rattle.desk_rows.specs.Schema.{meta_table, meta_tree}

-- the first table is meta, which has the version, and there is no view
pub record HasMeta (schema : Schema) : Type 0 where
  pub first : take 1 schema.tables ≡ meta_table ∷ []
  pub no_views : schema.views ≡ []

-- the configuration is one that a desk can have
pub record IsConfig (c : Settings) : Type 0 where
  pub receiver : IsName c.receiver
  pub operator : IsName c.operator
  pub block : IsBlock c.base c.addresses
  pub fits : c.addresses < 2 ^ 32

-- there is one row of meta, and it is in form
pub record TellsMeta (trees : Trees) (version : ℤ) (c : Settings) : Type 0 where
  pub row : Row
  pub one : trees meta_tree ≡ row ∷ []
  pub id : column row 0 ≡ Int (pos 1)
  pub version_is : column row 2 ≡ Int version
  pub receiver : column row 3 ≡ Text c.receiver
  pub operator : column row 4 ≡ Text c.operator
  pub base : column row 5 ≡ Int (pos c.base)
  pub addresses : column row 6 ≡ Int (pos c.addresses)
  pub config : IsConfig c

-- ---- of a connection

-- the row of meta has this version and this configuration
abbrev pub IsMetaOf : State → ℤ × Settings → Type 0
IsMetaOf s told = TellsMeta s.now.trees told.0 told.1

-- there is no row of meta, or more than one, or one that isn't in form
abbrev pub HasNoRow : State → Type 0
HasNoRow s = (version : ℤ) (c : Settings) → ¬ TellsMeta s.now.trees version c

-- `Does` is true of the states before and after a call if the schema has meta, and the disk is clean after it
abbrev pub WithMeta : {S : Type 0} → Ghosts S → Held S → Held S → (State → State → Type 0) → Type 0
WithMeta g old new Does = HasMeta old.schema → HasCleanDisk (state g new) → Does (state g old) (state g new)
