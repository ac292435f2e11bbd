-- Columns, tables and indexes of a given shape.
use Rattle.std.specs.Prelude.{ℕ, false, List, [], ◌∷◌, Some, None, map}
use Rattle.sqlite_value.specs.Keys.{plain}
use Rattle.sqlite_schema.specs.declared.schema.Column.{Column}
use Rattle.sqlite_schema.specs.declared.schema.Index.{Index}
use Rattle.sqlite_schema.specs.declared.schema.Table.{Table}
use Rattle.desk_rows.specs.Schema.{keyed_table, numbered_table, optional, required}
use Rattle.desk_tables.specs.declared.shape.ColumnShape.{ColumnShape}
use Rattle.desk_tables.specs.declared.shape.ColumnShape.TheVariants.{Optional, Required}
use Rattle.desk_tables.specs.declared.shape.IndexShape.{IndexShape}
use Rattle.desk_tables.specs.declared.shape.KeyShape.{KeyShape}
use Rattle.desk_tables.specs.declared.shape.KeyShape.TheVariants.{Places, Rowid, RowidAnd}
use Rattle.desk_tables.specs.declared.shape.TableShape.{TableShape}

abbrev pub column_shaped : ColumnShape → Column
column_shaped (Required name kind) = required name.now kind
column_shaped (Optional name kind) = optional name.now kind

abbrev pub table_with : List ℕ → ℕ → List Column → KeyShape → Table
table_with name tree columns Rowid = numbered_table name tree columns []
table_with name tree columns (RowidAnd places) = numbered_table name tree columns (places.now ∷ [])
table_with name tree columns (Places places) = keyed_table name tree columns places.now

abbrev pub table_shaped : TableShape → Table
table_shaped s = table_with s.name.now s.tree (map column_shaped s.columns.now) s.key

abbrev pub index_shaped : IndexShape → Index
index_shaped s = record { name = s.name.now; tree = s.tree; table = s.table; columns = s.columns.now; order = plain; is_unique = s.is_unique }

-- ---- parts

-- the table with these keys
abbrev pub keyed : KeyShape → Table → Table
keyed Rowid t = record t { key = Some 0; primary = 0 ∷ []; uniques = []; orders = [] }
keyed (RowidAnd places) t = record t { key = Some 0; primary = 0 ∷ []; uniques = places.now ∷ []; orders = plain ∷ [] }
keyed (Places places) t = record t { key = None; primary = places.now; uniques = places.now ∷ []; orders = plain ∷ [] }

-- the table with no CHECK, no reference, no computed default and no AUTOINCREMENT
abbrev pub bare : Table → Table
bare t = record t { checks = []; references = []; computed = []; stamps = record { places = []; terms = []; formats = [] }; is_counted = false }
