-- A CREATE whose parts fit its schema is not refused.
use Rattle.std.proofs.Common.{◌≡◌, ◌⊎◌, inl, inr, ℕ, ◌+◌, ◌<◌, ◌≤◌, ◌^◌, List, [], ◌∷◌, length, Bool, true, false, not, ◌&&◌, Option, Some, None, Ok, Err, Result, IsUtf8, codes, slice_get, sym, ap, subst, ◌∙◌, arith}
use Rattle.std.specs.Prelude.{nat_lt}
use Rattle.std.specs.List.{list_all, AllByRecursion}
use Rattle.std.specs.Str.{IsAscii}
use Rattle.std.proofs.lemmas.Bool.{and_parts, not-true, ltb-true}
use Rattle.std.proofs.lemmas.Str.{IsUtf8-from_ascii}
use Rattle.std.proofs.lemmas.Str.Ascii.{IsAscii-nil, IsAscii-cons}
use Rattle.sqlite_value.specs.declared.value.Value.TheVariants.{Text}
use Rattle.sqlite_trees.specs.Tree.{Trees}
use Rattle.sqlite_schema.specs.declared.schema.Constraint.{Constraint}
use Rattle.sqlite_schema.specs.declared.schema.Constraint.TheVariants.{Unique}
use Rattle.sqlite_schema.specs.declared.schema.Table.{Table}
use Rattle.sqlite_schema.specs.declared.schema.Index.{Index}
use Rattle.sqlite_schema.specs.declared.schema.Schema.{Schema}
use Rattle.sqlite_schema.specs.Rules.{table_reals, index_reals, passes}
use Rattle.sqlite_rules.specs.Lists.{Has}
use Rattle.sqlite_rules.proofs.ListLemmas.{test_has}
use Rattle.sqlite_resolve.specs.Compile.{table_defined_by, index_defined_by}
use Rattle.sqlite_resolve.specs.declared.error.CompileError.{CompileError}
use Rattle.sqlite_catalog.specs.declared.error.Refusal.{Refusal}
use Rattle.sqlite_catalog.specs.declared.error.Refusal.TheVariants.{Invalid, NameTaken, BadName, TooBig, BadKey, BadText, Violates}
use Rattle.sqlite_catalog.specs.Calls.{RefusesTable, RefusesIndex}
use Rattle.sqlite_catalog.specs.Change.{created, indexed, next_tree, is_used, is_reserved, automatics}
use Rattle.sqlite_catalog.specs.Listing.{is_fit, is_formed}
use Rattle.sqlite.specs.Command.TheVariants.{CreateTable, CreateIndex}
use Rattle.sqlite.specs.Does.{Does, AtPlace, Defines, MakesTable, MakesIndex, lacks_sequence}
use Rattle.sqlite.specs.State.{State, mode_of}
use Rattle.sqlite.specs.declared.error.Error.{Error}

abbrev is_ascii : List ℕ → Bool
is_ascii = list_all (λ b. nat_lt b 128)

all_ascii : (bs : List ℕ) → is_ascii bs ≡ true → IsAscii bs
all_ascii [] all = IsAscii-nil
all_ascii (b ∷ bs) all = let parts = and_parts _ _ all in IsAscii-cons b bs (ltb-true b 128 parts.0) (all_ascii bs parts.1)

is_text : (bs : List ℕ) → is_ascii bs ≡ true → IsUtf8 bs
is_text bs all = IsUtf8-from_ascii bs (all_ascii bs all)

unset : (b : Bool) → not b ≡ true → b ≡ true → ⊥
unset b off on = let e = sym on ∙ not-true b off in cc

-- the text and the name are ASCII, and the name may be listed and is free
abbrev is_listed : Schema → List ℕ → List ℕ → List ℕ → List ℕ → Bool
is_listed schema kind text name table =
    is_ascii text && (is_ascii name && (is_ascii table && (not (is_used schema name) && (not (is_reserved name) && is_fit (Text kind) (Text name) (Text table) (Text text)))))

-- there is room for its trees and its columns
abbrev is_small : Schema → Table → Bool
is_small schema table =
    nat_lt (next_tree schema + length table.uniques) 65536
    && (nat_lt (table_reals table) (2 ^ 64) && list_all (λ key. nat_lt (index_reals (table_reals table) key) (2 ^ 64)) table.uniques)

abbrev are_free : Schema → Table → Bool
are_free schema table = list_all (λ (i : Index). not (is_used schema i.name)) (automatics table 0 0 table.uniques)

abbrev pub accepts_table : Schema → List ℕ → Table → Bool
accepts_table schema text table = is_listed schema (codes "table") text table.name table.name && (are_free schema table && (is_formed table && is_small schema table))

abbrev pub accepts_index : Schema → List ℕ → Table → Index → Bool
accepts_index schema text table index =
    is_listed schema (codes "index") text index.name table.name
    && (nat_lt (next_tree schema) 65536 && (nat_lt (table_reals table) (2 ^ 64) && nat_lt (index_reals (table_reals table) index.columns) (2 ^ 64)))

record IsListed (schema : Schema) (kind text name table : List ℕ) : Type 0 where
  text_is : IsUtf8 text
  name_is : IsUtf8 name
  table_is : IsUtf8 table
  free : is_used schema name ≡ true → ⊥
  unreserved : is_reserved name ≡ true → ⊥
  fits : is_fit (Text kind) (Text name) (Text table) (Text text) ≡ true

listed : (schema : Schema) (kind text name table : List ℕ) → is_listed schema kind text name table ≡ true → IsListed schema kind text name table
listed schema kind text name table all =
    let a = and_parts _ _ all in
    let b = and_parts _ _ a.1 in
    let c = and_parts _ _ b.1 in
    let d = and_parts _ _ c.1 in
    let e = and_parts _ _ d.1 in
    record { text_is = is_text text a.0; name_is = is_text name b.0; table_is = is_text table c.0; free = unset _ d.0; unreserved = unset _ e.0; fits = e.1 }

too_many : (most n : ℕ) → most ≤ n → nat_lt n most ≡ true → ⊥
too_many most n many few = let low : n < most = ltb-true n most few in omega (arith, many, low)

never_both : (b : Bool) → b ≡ true → b ≡ false → ⊥
never_both b on off = let e = sym on ∙ off in cc

module _ (schema : Schema) (text : List ℕ) (table : Table) (defined : table_defined_by text ≡ Ok table) (accepted : accepts_table schema text table ≡ true) where
  same : (t : Table) → table_defined_by text ≡ Ok t → t ≡ table
  same t is = let both : ◌≡◌ {A = Result Table CompileError} (Ok t) (Ok table) = sym is ∙ defined in cc

  name_free : IsListed schema (codes "table") text table.name table.name
  name_free = listed schema (codes "table") text table.name table.name (and_parts _ _ accepted).0

  parts : (are_free schema table ≡ true) × (is_formed table ≡ true) × (is_small schema table ≡ true)
  parts =
      let rest = (and_parts (is_listed schema (codes "table") text table.name table.name) _ accepted).1 in
      let form = and_parts (are_free schema table) (is_formed table && is_small schema table) rest in
      let more = and_parts (is_formed table) (is_small schema table) form.1 in
      (form.0, more.0, more.1)

  abbrev IsTooBig : Table → Type 0
  IsTooBig t =
      (65536 ≤ next_tree schema + length t.uniques)
      ⊎ ((2 ^ 64 ≤ table_reals t) ⊎ ((key : List ℕ) × Has t.uniques key × (2 ^ 64 ≤ index_reals (table_reals t) key)))

  fits_in : IsTooBig table → ⊥
  fits_in big =
      let sizes = and_parts _ _ parts.2 in
      let reals = and_parts _ _ sizes.1 in
      elim big [
        | inl many ↦ too_many _ _ many sizes.0
        | inr (inl wide) ↦ too_many _ _ wide reals.0
        | inr (inr (key, has, wide)) ↦ too_many _ _ wide (test_has (λ k. nat_lt (index_reals (table_reals table) k) (2 ^ 64)) table.uniques key reals.1 has)
      ]

  never : (why : Refusal) → RefusesTable schema text why → ⊥
  never (Invalid e) h = let both : ◌≡◌ {A = Result Table CompileError} (Ok table) (Err e) = sym defined ∙ h in cc
  never NameTaken (t, is, inl used) = name_free.free (subst (λ (x : Table). is_used schema x.name ≡ true) (same t is) used)
  never NameTaken (t, is, inr (index, has, used)) =
      unset _ (test_has (λ (i : Index). not (is_used schema i.name)) _ index parts.0 (subst (λ (x : Table). Has (automatics x 0 0 x.uniques) index) (same t is) has)) used
  never BadName (t, is, inl unread) = unread (subst (λ (x : Table). IsUtf8 x.name) (sym (same t is)) name_free.name_is)
  never BadName (t, is, inr (reserved, own)) = name_free.unreserved (subst (λ (x : Table). is_reserved x.name ≡ true) (same t is) reserved)
  never TooBig (t, is, big) = fits_in (subst IsTooBig (same t is) big)
  never BadKey (t, is, malformed) =
      never_both (is_formed table) parts.1 (subst (λ x. is_formed x ≡ false) (same t is) malformed)
  never BadText (t, is, unfit) =
      never_both _ name_free.fits (subst (λ (x : Table). is_fit (Text (codes "table")) (Text x.name) (Text x.name) (Text text) ≡ false) (same t is) unfit)
  never (Violates rule) h = h

  made : (trees : Trees) (why : Option Error) (e : Error) → why ≡ Some e → MakesTable text (record { schema = schema; trees = trees }) (Err why) → ⊥
  made trees None e is h = cc
  made trees (Some x) e is (inl unread) = unread.0 name_free.text_is
  made trees (Some x) e is (inr refused) = never refused.0 refused.1

  pub no_table : lacks_sequence (created schema table) ≡ false → (old : State) (e : Error)
      → Does old.step_limit (mode_of old) [] (record old.now { schema = schema }) text None CreateTable (Err (Some e)) → ⊥
  no_table counted old e (inl (stop, inl (why, refused, eq), is)) = made old.now.trees why e (let x : why ≡ Some e = cc in x) refused
  no_table counted old e (inl (stop, inr (after, it, sequence), is)) =
      let known : after.schema ≡ created schema table = it.is ∙ ap (created schema) (same it.table it.defined) in
      let plain : lacks_sequence after.schema ≡ false = ap lacks_sequence known ∙ counted in
      let given = rw plain at sequence in cc
  no_table counted old e (inr (after, it, given)) = cc

kept_empty : (rule : Constraint) (schema : Schema) (db : Trees) (tables : List Table) → AllByRecursion (λ t. db t.tree ≡ []) tables
    → AllByRecursion (λ t. AllByRecursion (λ row. passes rule schema db t row ≡ true) (db t.tree)) tables
kept_empty rule schema db [] all = tt
kept_empty rule schema db (t ∷ tables) all = (subst (AllByRecursion (λ row. passes rule schema db t row ≡ true)) (sym all.0) tt, kept_empty rule schema db tables all.1)

module _ (schema : Schema) (text : List ℕ) (at : ℕ) (table : Table) (index : Index) (there : slice_get schema.tables at ≡ Some table)
    (defined : index_defined_by table text ≡ Ok index) (accepted : accepts_index schema text table index ≡ true) where
  same_index : (i : Index) → index_defined_by table text ≡ Ok i → i ≡ index
  same_index i is = let both : ◌≡◌ {A = Result Index CompileError} (Ok i) (Ok index) = sym is ∙ defined in cc

  index_free : IsListed schema (codes "index") text index.name table.name
  index_free = listed schema (codes "index") text index.name table.name (and_parts _ _ accepted).0

  never_index : (db : Trees) → AllByRecursion (λ t. db t.tree ≡ []) schema.tables → (why : Refusal) → RefusesIndex schema db table text why → ⊥
  never_index db empty (Invalid e) h = let both : ◌≡◌ {A = Result Index CompileError} (Ok index) (Err e) = sym defined ∙ h in cc
  never_index db empty NameTaken (i, is, used) = index_free.free (subst (λ (x : Index). is_used schema x.name ≡ true) (same_index i is) used)
  never_index db empty BadName (i, is, inl (inl unread)) = unread (subst (λ (x : Index). IsUtf8 x.name) (sym (same_index i is)) index_free.name_is)
  never_index db empty BadName (i, is, inl (inr (reserved, own))) = index_free.unreserved (subst (λ (x : Index). is_reserved x.name ≡ true) (same_index i is) reserved)
  never_index db empty BadName (i, is, inr unread) = unread index_free.table_is
  never_index db empty TooBig (i, is, big) =
      let rest = and_parts _ _ accepted in
      let sizes = and_parts _ _ rest.1 in
      let reals = and_parts _ _ sizes.1 in
      elim big [
        | inl many ↦ too_many _ _ many sizes.0
        | inr (inl wide) ↦ too_many _ _ wide reals.0
        | inr (inr wide) ↦ too_many _ _ (subst (λ (x : Index). 2 ^ 64 ≤ index_reals (table_reals table) x.columns) (same_index i is) wide) reals.1
      ]
  never_index db empty BadKey h = h
  never_index db empty BadText (i, is, unfit) =
      never_both _ index_free.fits (subst (λ (x : Index). is_fit (Text (codes "index")) (Text x.name) (Text table.name) (Text text) ≡ false) (same_index i is) unfit)
  never_index db empty (Violates rule) (i, is, unique, broken) = broken (kept_empty Unique (indexed schema table i) db schema.tables empty)

  made_index : (trees : Trees) → AllByRecursion (λ t. trees t.tree ≡ []) schema.tables → (why : Option Error) (e : Error) → why ≡ Some e
      → MakesIndex text (record { schema = schema; trees = trees }) table (Err why) → ⊥
  made_index trees empty None e is h = cc
  made_index trees empty (Some x) e is (inl unread) = unread.0 index_free.text_is
  made_index trees empty (Some x) e is (inr refused) = never_index trees empty refused.0 refused.1

  found : (old : State) → AllByRecursion (λ t. old.now.trees t.tree ≡ []) schema.tables → (e : Error)
      → Defines (mode_of old) (MakesIndex text (record old.now { schema = schema }) table) (Err (Some e)) → ⊥
  found old empty e (inl (why, refused, eq)) = made_index old.now.trees empty why e (let x : why ≡ Some e = cc in x) refused
  found old empty e (inr (after, it, given)) = cc

  pub no_index : (old : State) → AllByRecursion (λ t. old.now.trees t.tree ≡ []) schema.tables → (e : Error)
      → Does old.step_limit (mode_of old) [] (record old.now { schema = schema }) text None (CreateIndex at) (Err (Some e)) → ⊥
  no_index old empty e h =
      found old empty e (subst (λ o. AtPlace (λ t. Defines (mode_of old) (MakesIndex text (record old.now { schema = schema }) t)) o (Err (Some e))) there h)
