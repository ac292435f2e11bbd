-- A move from schema 1 to schema 2: what is true before its first statement, and between the two.
use Rattle.std.specs.Prelude.{◌≡◌, ℕ, List, [], codes, IsTrue}
use Rattle.sqlite_schema.specs.declared.schema.Schema.{Schema}
use Rattle.sqlite_catalog.specs.Change.{is_used}
use Rattle.sqlite.specs.Effect.{Database}
use Rattle.desk_rows.specs.Rows.{Rows, HoldsTen}
use Rattle.desk_rows.specs.Schema.{desk_schema, first_schema, first_version, limit_tree}

abbrev pub limit_name : List ℕ
limit_name = codes "band_limit"

-- a table, an index or a view has the name of the table of limits
abbrev pub IsLimitTaken : Schema → Type 0
IsLimitTaken schema = IsTrue (is_used schema limit_name)

-- schema 1 and nothing else, with these rows: no limit was ever set
pub record HoldsFirst (db : Database) (r : Rows) : Type 0 where
  pub ten : HoldsTen first_version first_schema db r
  pub no_limits : r.limits ≡ []

-- the eleventh table is there and empty, and meta still has version 1
pub record HoldsBetween (db : Database) (r : Rows) : Type 0 where
  pub ten : HoldsTen first_version desk_schema db r
  pub no_limits : r.limits ≡ []
  pub limit : db.trees limit_tree ≡ []
