-- A table of the desk, described once: `Stored` is the table with its rows, `Keyed` its key. For every table it follows what an
-- INSERT adds, and what look-ups by number, by key and of the last number return.
use Rattle.std.proofs.Common.{◌≡◌, ℕ, ◌+◌, ◌<◌, ◌^◌, ◌/◌, ◌==◌, pos, List, [], ◌∷◌, ◌++◌, ◌&&◌, ◌||◌, Bool, true, false, map, find, length, slice_get, Option, Some, Result, option_map, refl, sym, ap, ap₂, ◌∙◌}
use Rattle.std.specs.List.{list_all, list_any, AllByRecursion}
use Rattle.std.proofs.lemmas.Bool.{and_parts}
use Rattle.sqlite_value.specs.declared.value.Value.{Value}
use Rattle.sqlite_value.specs.declared.value.Value.TheVariants.{Null, Int, Text}
use Rattle.sqlite_value.specs.Keys.{plain}
use Rattle.sqlite_value.specs.Order.{Row, column}
use Rattle.sqlite_value.proofs.KeyLemmas.{first_key-plain}
use Rattle.sqlite_trees.specs.Tree.{Trees, with_tree}
use Rattle.sqlite_sql.specs.Program.{overlay}
use Rattle.sqlite_sql.specs.Term.{Term, col, lit, holds, eval_all}
use Rattle.sqlite_schema.specs.declared.schema.Column.{Column}
use Rattle.sqlite_schema.specs.declared.schema.Kind.{Kind}
use Rattle.sqlite_schema.specs.declared.schema.Kind.TheVariants as kind
use Rattle.sqlite_schema.specs.declared.schema.Table.{Table}
use Rattle.sqlite_schema.specs.declared.schema.Constraint.TheVariants.{Datatype, NotNull, Check}
use Rattle.sqlite_schema.specs.declared.schema.Keys.TheVariants.{Enforced}
use Rattle.sqlite_schema.specs.Rules.{agree, clashes, equal, passes}
use Rattle.sqlite_rules.specs.Cast.{cast, cast_all, cast_row}
use Rattle.sqlite_rules.specs.Edit.{is_referred}
use Rattle.sqlite_rules.specs.Keys.{are_unique}
use Rattle.sqlite_rules.proofs.ListLemmas.{has_got}
use Rattle.sqlite_typing.specs.Types.{accepts_program, accepts_terms}
use Rattle.sqlite.specs.Effect.{Database, value_rows}
use Rattle.sqlite.specs.State.{State}
use Rattle.registry_core.specs.Numbered.{first_that, item_at}
use Rattle.desk_rows.specs.Calls.{ChangesOf, ReadsRows, ReadsOf}
use Rattle.desk_rows.specs.Migrating.{HoldsFirst}
use Rattle.desk_rows.specs.Rows.{Rows, Holds, InRange, number, table_of, last_number}
use Rattle.desk_rows.specs.Schema.{desk_schema, desk_tables, first_schema}
use Rattle.desk_rows.specs.declared.faults.RowFault.{RowFault}
use Rattle.desk_rows.specs.steps.Queries.{Finds, Knows}
use Rattle.desk_rows.specs.steps.Statements.{HasWritten}
use Rattle.desk_rows.specs.steps.Texts.{AsksFor}
use Rattle.desk_rows.proofs.InsertLemmas.{cast_int, cast_null, uncounted}
use Rattle.desk_rows.proofs.Insertions.{IsInsert, changed_by, key_free}
use Rattle.desk_rows.proofs.Latest.{last_of, reads_last}
use Rattle.desk_rows.proofs.Lookups.{found_by, has_schema, known_by, says_so}
use Rattle.desk_rows.proofs.Ordered.{by_rowid, encode, found_any, found_number, found_row, found_same, map_same, map_twice, query_of, zip_all, zip_from}
use Rattle.desk_rows.proofs.OrderLemmas.Looking.{first_zipped}
use Rattle.desk_rows.proofs.Tables.{all_more, tables, with_table}
use Rattle.desk_rows.proofs.Terms.{and_true, number_equal, same}
use Rattle.desk_rows.proofs.Updating.{overlay_none}
use Rattle.desk_rows.proofs.StatementTexts.{KnowsKey, ReadsKey, ReadsLast, find_text, key_terms, know_text, last_text, lookup_is}

-- ---- values

-- the values are equal, one by one, to SQL
abbrev pub all_same : Row → Row → Bool
all_same [] others = true
all_same (v ∷ vs) [] = false
all_same (v ∷ vs) (w ∷ ws) = same v w && all_same vs ws

-- an index in the plain order compares rows by the values at its places
agree_plain : (places : List ℕ) (a b : Row) → agree plain places a places b ≡ all_same (map (column a) places) (map (column b) places)
agree_plain [] a b = refl
agree_plain (p ∷ ps) a b = ap₂ (λ s t. s && t) (ap (λ k. equal k.collation (column a p) (column b p)) first_key-plain) (agree_plain ps a b)

-- a column of the kind takes the value as it is
abbrev pub takes : Kind → Value → Bool
takes kind.Integer Null = true
takes kind.Integer (Int n) = true
takes kind.Text Null = true
takes kind.Text (Text t) = true
takes kind.Blob v = true
takes k v = false

abbrev pub all_taken : List Column → Row → Bool
all_taken [] vs = true
all_taken (c ∷ cs) [] = true
all_taken (c ∷ cs) (v ∷ vs) = takes c.kind v && all_taken cs vs

cast_taken : (k : Kind) (v : Value) → takes k v ≡ true → cast k v ≡ v
cast_taken kind.Integer Null is = cast_null
cast_taken kind.Integer (Int n) is = cast_int n
cast_taken kind.Text Null is = refl
cast_taken kind.Text (Text t) is = refl
cast_taken kind.Blob v is = refl
cast_taken _ _ is = absurd (let e = is in cc)

all_cast : (cs : List Column) (vs : Row) → all_taken cs vs ≡ true → cast_all cs vs ≡ vs
all_cast [] vs is = refl
all_cast (c ∷ cs) [] is = refl
all_cast (c ∷ cs) (v ∷ vs) is = let parts = and_parts (takes c.kind v) (all_taken cs vs) is in ap₂ (λ x xs. x ∷ xs) (cast_taken c.kind v parts.0) (all_cast cs vs parts.1)

-- A row passes each rule of its table that needs no look at other rows.
abbrev pub passes_alone : Trees → Table → ℕ → Row → Bool
passes_alone db table n cells =
    let row = Int (pos n) ∷ cells in
    all_taken table.columns cells
    && (list_all (passes Datatype desk_schema db (uncounted table)) (row ∷ []) && (list_all (passes NotNull desk_schema db (uncounted table)) (row ∷ [])
    && (list_all (passes Check desk_schema db (uncounted table)) (row ∷ []) && is_referred desk_schema Enforced (record { table = uncounted table; gone = []; news = row ∷ [] }))))

-- ---- a table

-- A table of rows `X` in the range `Fits`.
pub record Stored (X : Type 0) (Fits : X → Type 0) : Type 0 where
  -- its place among the tables
  pub at : ℕ
  pub table : Table
  -- the rows of this table, and all rows with others in this table
  pub rows : Rows → List X
  pub put : Rows → List X → Rows
  -- the cells of a row, without the rowid
  pub cells : X → Row
  pub held : (db : Database) (r : Rows) → Holds db r → db.trees table.tree ≡ table_of cells (rows r)
  pub ranges : (r : Rows) → InRange r → AllByRecursion Fits (rows r)
  pub in_range : (r : Rows) (xs : List X) → InRange r → AllByRecursion Fits xs → InRange (put r xs)
  -- by computation: the schema has the table at that place; `put` changes no other table; a row obeys each rule that needs no
  -- other row; the look-up of the last number has the right types
  pub computes : (slice_get desk_tables at ≡ Some (uncounted table))
      × ((r : Rows) (xs : List X) → tables (put r xs) ≡ with_table table.tree (table_of cells xs) (tables r))
      × ((db : Trees) (n : ℕ) (x : X) → passes_alone db table n (cells x) ≡ true)
      × (accepts_program desk_schema [] (query_of (last_of table.tree)) [] ≡ true)
      × (slice_get desk_tables at ≡ Some table)

-- The key of such a table, a `K` in the range `Known`.
pub record Keyed {X : Type 0} {Fits : X → Type 0} (t : Stored X Fits) (K : Type 0) (Known : K → Type 0) : Type 0 where
  -- the places of the key, the key of a row, the values of a key, and whether a row has a key
  pub places : List ℕ
  pub key_of : X → K
  pub values : K → Row
  pub has : K → X → Bool
  pub tells : (k : K) (x : X) → Known k → Fits x → all_same (values (key_of x)) (values k) ≡ has k x
  pub known : (x : X) → Fits x → Known (key_of x)
  -- by computation: the unique index is obeyed where no row clashes; a row has the values of its key at those places; a look-up
  -- tests these values
  pub computes : ((db : Trees) (all : List Row) (row : Row) → clashes plain places all row ≡ false → are_unique desk_schema.indexes (with_tree db t.table.tree all) (uncounted t.table) (row ∷ []) ≡ true)
      × ((n : ℕ) (x : X) → map (column (Int (pos n) ∷ t.cells x)) places ≡ values (key_of x))
      × ((n : ℕ) (k : K) (x : X) → list_all (holds (values k ∷ (Int (pos n) ∷ t.cells x) ∷ [])) (key_terms 0 places) ≡ all_same (values (key_of x)) (values k))

-- two tests that agree on the rows of a list
any_same : {X : Type 0} (P : X → Type 0) (p q : X → Bool) → ((x : X) → P x → p x ≡ q x) → (xs : List X) → AllByRecursion P xs → list_any p xs ≡ list_any q xs
any_same P p q alike [] all = refl
any_same P p q alike (x ∷ xs) all = ap₂ (λ s t. s || t) (alike x all.0) (any_same P p q alike xs all.1)

module _ {X : Type 0} {Fits : X → Type 0} (t : Stored X Fits) where
  stored : (old : State) (r : Rows) → Holds old.now r → overlay old.now.trees [] t.table.tree ≡ table_of t.cells (t.rows r)
  stored old r has = overlay_none old.now.trees t.table.tree ∙ t.held old.now r has

  -- ---- the last number

  pub reads_number : ReadsLast desk_schema t.table → {old new : State} {result : Result (Option ℕ) RowFault} → Finds (last_text t.table) [] old new (λ n. n) (λ n. number n ∷ []) (λ n. Unit {0}) result
      → ReadsRows old new result (λ r n. n ≡ last_number (t.rows r))
  reads_number means {old} = reads_last Holds has_schema (lookup_is means) t.computes.3 t.cells t.rows (stored old)

  -- the same over schema 1
  pub reads_first : ((db : Database) (r : Rows) → HoldsFirst db r → db.trees t.table.tree ≡ table_of t.cells (t.rows r)) → accepts_program first_schema [] (query_of (last_of t.table.tree)) [] ≡ true
      → ReadsLast first_schema t.table → {old new : State} {result : Result (Option ℕ) RowFault} → Finds (last_text t.table) [] old new (λ n. n) (λ n. number n ∷ []) (λ n. Unit {0}) result
      → ReadsOf first_schema HoldsFirst old new result (λ r n. n ≡ last_number (t.rows r))
  reads_first held lasting means {old} = reads_last HoldsFirst (λ db r has. has.ten.schema) (lookup_is means) lasting t.cells t.rows (λ r has. overlay_none old.now.trees t.table.tree ∙ held old.now r has)

  -- ---- by the number

  module _ (n : ℕ) (shown : List ℕ) {sql : List ℕ} {names : List (List ℕ)} (means : AsksFor sql 1 (by_rowid t.table.tree (key_terms 0 (0 ∷ [])) (map (col 1) shown)) names) (typed : accepts_program desk_schema [] (query_of (by_rowid t.table.tree (key_terms 0 (0 ∷ [])) (map (col 1) shown))) (number n ∷ []) ≡ true) where
    pub finds_asked : {Seen : Type 0} {shows : Seen → Row} {In : Seen → Type 0} (view : ℕ × X → Seen) → ((b : ℕ × X) → eval_all (map (col 1) shown) ((number n ∷ []) ∷ encode t.cells b ∷ []) ≡ shows (view b))
        → ((b : ℕ × X) → Fits b.1 → In (view b)) → {old new : State} {result : Result (Option Seen) RowFault} → Finds sql (number n ∷ []) old new (λ x. x) shows In result
        → ReadsRows old new result (λ r x. x ≡ option_map (λ x. view (n, x)) (item_at (t.rows r) n))
    finds_asked view viewed fits {old} found =
        says_so (found_by (lookup_is means) (number n ∷ []) refl typed t.cells t.rows (stored old) (λ b. b.0 == n) (λ b. and_true _ ∙ number_equal b.0 n) Fits (λ r has. t.ranges r has.ten.in_range) found view viewed fits)
        (λ r has x is. sym (map_same x) ∙ is ∙ ap (option_map view) (found_number n (t.rows r)) ∙ map_twice view (λ y. (n, y)) (item_at (t.rows r) n))

  module _ (n : ℕ) (shown : List ℕ) (means : ReadsKey t.table (0 ∷ []) shown) (typed : accepts_program desk_schema [] (query_of (by_rowid t.table.tree (key_terms 0 (0 ∷ [])) (map (col 1) shown))) (number n ∷ []) ≡ true) where
    pub finds_number : {Seen : Type 0} {shows : Seen → Row} {In : Seen → Type 0} (view : ℕ × X → Seen) → ((b : ℕ × X) → eval_all (map (col 1) shown) ((number n ∷ []) ∷ encode t.cells b ∷ []) ≡ shows (view b))
        → ((b : ℕ × X) → Fits b.1 → In (view b)) → {old new : State} {result : Result (Option Seen) RowFault} → Finds (find_text t.table (0 ∷ []) shown) (number n ∷ []) old new (λ x. x) shows In result
        → ReadsRows old new result (λ r x. x ≡ option_map (λ x. view (n, x)) (item_at (t.rows r) n))
    finds_number view viewed fits found = finds_asked n shown means typed view viewed fits found

  -- ---- INSERT

  same_cells : (x : X) → cast_row (uncounted t.table) (Null ∷ t.cells x) ≡ Null ∷ t.cells x
  same_cells x = ap₂ (λ v vs. v ∷ vs) cast_null (all_cast t.table.columns (t.cells x) (and_parts _ _ (t.computes.2 (λ n. []) 0 x)).0)

  pub same_row : (n : ℕ) (x : X) → cast_row t.table (Int (pos n) ∷ t.cells x) ≡ Int (pos n) ∷ t.cells x
  same_row n x = ap₂ (λ v vs. v ∷ vs) (cast_int (pos n)) (all_cast t.table.columns (t.cells x) (and_parts _ _ (t.computes.2 (λ n. []) 0 x)).0)

  module _ {sql : List ℕ} {many : ℕ} {terms : List Term} {width : ℕ} (text : IsInsert sql many t.at terms width) (x : X) (fits : Fits x) (params : Row)
      (one : value_rows params width (length terms / width) terms ≡ (Null ∷ t.cells x) ∷ []) (typed : accepts_terms terms params ≡ true) (many_is : length params ≡ many) {old new : State}
      (given : Row) (loose : (s : Row) × (value_rows given width (length terms / width) terms ≡ s ∷ [])) (Small : Type 0) (are : Small → given ≡ params) {result : Result (Unit {0}) RowFault} where
    -- of a table without a unique index; a parameter may be out of its range
    pub adds_free : (Free : Rows → Type 0)
        → ((r : Rows) → InRange r → Free r → (row : Row) → row ≡ Int (pos (1 + length (map t.cells (t.rows r)))) ∷ t.cells x
        → are_unique desk_schema.indexes (with_tree old.now.trees t.table.tree (table_of t.cells (t.rows r ++ x ∷ []))) (uncounted t.table) (row ∷ []) ≡ true)
        → HasWritten sql given old new result → ChangesOf old new result Small (λ r. Free r × (1 + length (t.rows r) < 2 ^ 63)) (λ r. t.put r (t.rows r ++ x ∷ []))
    adds_free Free unique =
        changed_by text params old new t.table t.computes.0 (has_got desk_tables t.at _ t.computes.0) (Null ∷ t.cells x) one typed many_is t.cells t.rows x (same_cells x) (λ r has. t.held old.now r has)
        (λ r. t.put r (t.rows r ++ x ∷ [])) (λ r. t.computes.1 r _) (λ r h. t.in_range r _ h (all_more Fits (t.rows r) x (t.ranges r h) fits)) Free
        (λ r has free held keeps small.
        let a = and_parts _ _ (t.computes.2 old.now.trees _ x) in
        let b = and_parts _ _ a.1 in
        let c = and_parts _ _ b.1 in
        let d = and_parts _ _ c.1 in
        record { datatype = b.0; not_null = c.0; check = d.0; keyed = refl; referred = d.1; unique = unique r has.ten.in_range free _ refl }) given loose Small are

  module _ {K : Type 0} {Known : K → Type 0} (key : Keyed t K Known) where
    pub agrees : (x : X) → Fits x → (n m : ℕ) (y : X) → Fits y → agree plain key.places (Int (pos n) ∷ t.cells y) key.places (Int (pos m) ∷ t.cells x) ≡ key.has (key.key_of x) y
    agrees x fits n m y y_fits = agree_plain key.places _ _ ∙ ap₂ all_same (key.computes.1 n y) (key.computes.1 m x) ∙ key.tells (key.key_of x) y (key.known x fits) y_fits

    module _ {sql : List ℕ} {many : ℕ} {terms : List Term} {width : ℕ} (text : IsInsert sql many t.at terms width) (x : X) (fits : Fits x) (params : Row)
        (one : value_rows params width (length terms / width) terms ≡ (Null ∷ t.cells x) ∷ []) (typed : accepts_terms terms params ≡ true) (many_is : length params ≡ many) {old new : State} where
      pub adds_given : (given : Row) → (s : Row) × (value_rows given width (length terms / width) terms ≡ s ∷ []) → (Small : Type 0) → (Small → given ≡ params) → {result : Result (Unit {0}) RowFault}
          → HasWritten sql given old new result
          → ChangesOf old new result Small (λ r. (list_any (key.has (key.key_of x)) (t.rows r) ≡ false) × (1 + length (t.rows r) < 2 ^ 63)) (λ r. t.put r (t.rows r ++ x ∷ []))
      adds_given given loose Small are = adds_free text x fits params one typed many_is given loose Small are (λ r. list_any (key.has (key.key_of x)) (t.rows r) ≡ false)
          (λ r in_range free row is. key.computes.0 old.now.trees _ row (rw is (key_free t.cells key.places x Fits (key.has (key.key_of x)) (agrees x fits) (t.rows r) (t.ranges r in_range) free)))

      pub adds : {result : Result (Unit {0}) RowFault} → HasWritten sql params old new result
          → ChangesOf old new result (Unit {0}) (λ r. (list_any (key.has (key.key_of x)) (t.rows r) ≡ false) × (1 + length (t.rows r) < 2 ^ 63)) (λ r. t.put r (t.rows r ++ x ∷ []))
      adds = adds_given params (_, one) (Unit {0}) (λ done. refl)

    -- ---- by the key

    module _ (k : K) (in_range : Known k) where
      abbrev asked : X → Bool
      asked x = all_same (key.values (key.key_of x)) (key.values k)

      alike : (x : X) → Fits x → asked x ≡ key.has k x
      alike x fits = key.tells k x in_range fits

      pub knows_key : KnowsKey t.table key.places → length key.places ≡ length (key.values k) → accepts_program desk_schema [] (query_of (by_rowid t.table.tree (key_terms 0 key.places) (lit (Int (pos 1)) ∷ []))) (key.values k) ≡ true
          → {old new : State} {result : Result Bool RowFault} → Knows (know_text t.table key.places) (key.values k) old new result → ReadsRows old new result (λ r known. known ≡ list_any (key.has k) (t.rows r))
      knows_key means many_is typed {old} knew =
          says_so (known_by (lookup_is means) (key.values k) many_is typed t.cells t.rows (stored old) (λ b. asked b.1) (λ b. key.computes.2 b.0 k b.1) knew)
          (λ r has known is. is ∙ found_any asked 1 (t.rows r) ∙ any_same Fits asked (key.has k) alike (t.rows r) (t.ranges r has.ten.in_range))

      module _ (shown : List ℕ) {sql : List ℕ} {names : List (List ℕ)} (means : AsksFor sql (length key.places) (by_rowid t.table.tree (key_terms 0 key.places) (map (col 1) shown)) names) (many_is : length key.places ≡ length (key.values k))
          (typed : accepts_program desk_schema [] (query_of (by_rowid t.table.tree (key_terms 0 key.places) (map (col 1) shown))) (key.values k) ≡ true) where
        pub finds_asked_key : {T Seen : Type 0} {seen : T → Seen} {shows : Seen → Row} {In : Seen → Type 0} (view : X → Seen) → ((b : ℕ × X) → eval_all (map (col 1) shown) (key.values k ∷ encode t.cells b ∷ []) ≡ shows (view b.1))
            → ((x : X) → Fits x → In (view x)) → {old new : State} {result : Result (Option T) RowFault} → Finds sql (key.values k) old new seen shows In result
            → ReadsRows old new result (λ r x. option_map seen x ≡ option_map view (find (key.has k) (t.rows r)))
        finds_asked_key view viewed fits {old} found =
            says_so (found_by (lookup_is means) (key.values k) many_is typed t.cells t.rows (stored old) (λ b. asked b.1) (λ b. key.computes.2 b.0 k b.1) Fits (λ r has. t.ranges r has.ten.in_range) found
            (λ b. view b.1) viewed (λ b b_fits. fits b.1 b_fits))
            (λ r has x is. is ∙ sym (map_twice view (λ (b : ℕ × X). b.1) (find (λ b. asked b.1) (zip_from 1 (t.rows r))))
            ∙ ap (option_map view) (found_row asked 1 (t.rows r) ∙ found_same Fits asked (key.has k) alike (t.rows r) (t.ranges r has.ten.in_range)))

        -- where what is read is what contracts see of it
        pub finds_asked_plain : {Seen : Type 0} {shows : Seen → Row} {In : Seen → Type 0} (view : X → Seen) → ((b : ℕ × X) → eval_all (map (col 1) shown) (key.values k ∷ encode t.cells b ∷ []) ≡ shows (view b.1))
            → ((x : X) → Fits x → In (view x)) → {old new : State} {result : Result (Option Seen) RowFault} → Finds sql (key.values k) old new (λ x. x) shows In result
            → ReadsRows old new result (λ r x. x ≡ option_map view (find (key.has k) (t.rows r)))
        finds_asked_plain view viewed fits found = says_so (finds_asked_key view viewed fits found) (λ r has x is. sym (map_same x) ∙ is)

      module _ (shown : List ℕ) (means : ReadsKey t.table key.places shown) (many_is : length key.places ≡ length (key.values k))
          (typed : accepts_program desk_schema [] (query_of (by_rowid t.table.tree (key_terms 0 key.places) (map (col 1) shown))) (key.values k) ≡ true) where
        -- with its number
        pub finds_first : {Seen : Type 0} {shows : Seen → Row} {In : Seen → Type 0} (view : ℕ × X → Seen) → ((b : ℕ × X) → eval_all (map (col 1) shown) (key.values k ∷ encode t.cells b ∷ []) ≡ shows (view b))
            → ((b : ℕ × X) → Fits b.1 → In (view b)) → {old new : State} {result : Result (Option Seen) RowFault} → Finds (find_text t.table key.places shown) (key.values k) old new (λ x. x) shows In result
            → ReadsRows old new result (λ r x. x ≡ option_map view (first_that (key.has k) (t.rows r)))
        finds_first view viewed fits {old} found =
            says_so (found_by (lookup_is means) (key.values k) many_is typed t.cells t.rows (stored old) (λ b. asked b.1) (λ b. key.computes.2 b.0 k b.1) Fits (λ r has. t.ranges r has.ten.in_range) found view viewed fits)
            (λ r has x is. sym (map_same x) ∙ is
            ∙ ap (option_map view) (found_same (λ (b : ℕ × X). Fits b.1) (λ b. asked b.1) (λ b. key.has k b.1) (λ b b_fits. alike b.1 b_fits) (zip_from 1 (t.rows r)) (zip_all Fits 1 (t.rows r) (t.ranges r has.ten.in_range))
            ∙ first_zipped (key.has k) 1 (t.rows r)))

        pub finds_key : {T Seen : Type 0} {seen : T → Seen} {shows : Seen → Row} {In : Seen → Type 0} (view : X → Seen) → ((b : ℕ × X) → eval_all (map (col 1) shown) (key.values k ∷ encode t.cells b ∷ []) ≡ shows (view b.1))
            → ((x : X) → Fits x → In (view x)) → {old new : State} {result : Result (Option T) RowFault} → Finds (find_text t.table key.places shown) (key.values k) old new seen shows In result
            → ReadsRows old new result (λ r x. option_map seen x ≡ option_map view (find (key.has k) (t.rows r)))
        finds_key view viewed fits found = finds_asked_key shown means many_is typed view viewed fits found

        -- where what is read is what contracts see of it
        pub finds_plain : {Seen : Type 0} {shows : Seen → Row} {In : Seen → Type 0} (view : X → Seen) → ((b : ℕ × X) → eval_all (map (col 1) shown) (key.values k ∷ encode t.cells b ∷ []) ≡ shows (view b.1))
            → ((x : X) → Fits x → In (view x)) → {old new : State} {result : Result (Option Seen) RowFault} → Finds (find_text t.table key.places shown) (key.values k) old new (λ x. x) shows In result
            → ReadsRows old new result (λ r x. x ≡ option_map view (find (key.has k) (t.rows r)))
        finds_plain view viewed fits found = says_so (finds_key view viewed fits found) (λ r has x is. sym (map_same x) ∙ is)
