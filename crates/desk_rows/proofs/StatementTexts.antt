-- The texts of the statements on a table, derived from its schema, and what the resolver makes of them.
use Rattle.std.proofs.Common.{◌≡◌, ℕ, zero, suc, ◌+◌, ◌==◌, ◌++◌, pos, List, [], ◌∷◌, codes, length, filter, map, get_or, Option, Some, None, Ok, refl, ap, arith, if◌then◌else◌}
use Rattle.sqlite_value.specs.declared.value.Value.TheVariants.{Int, Null}
use Rattle.sqlite_sql.specs.Term.{Term, lit, col}
use Rattle.sqlite_schema.specs.declared.schema.Column.{Column}
use Rattle.sqlite_schema.specs.declared.schema.Table.{Table}
use Rattle.sqlite_schema.specs.declared.schema.Schema.{Schema}
use Rattle.sqlite_resolve.specs.declared.compiled.Compiled.{Compiled}
use Rattle.sqlite.specs.Command.TheVariants.{Insert}
use Rattle.sqlite.specs.Source.TheVariants.{Values}
use Rattle.sqlite.specs.Listing.{understood}
use Rattle.desk_rows.specs.Schema.{desk_schema}
use Rattle.desk_rows.specs.steps.Texts.{AsksOf, InsertsRow, UpdatesRows, changing, finding, param, params_from}
use Rattle.desk_rows.proofs.Insertions.{IsInsert}
use Rattle.desk_rows.proofs.Latest.{last_of}
use Rattle.desk_rows.proofs.Lookups.{IsLookupOf}
use Rattle.desk_rows.proofs.Ordered.{Asked, by_rowid}
use Rattle.desk_rows.proofs.Terms.{is}
use Rattle.desk_rows.proofs.Updating.{IsUpdate, update_of}

-- ---- names

-- the texts, with this one between each two
abbrev pub joined_by : List ℕ → List (List ℕ) → List ℕ
joined_by between [] = []
joined_by between (x ∷ []) = x
joined_by between (x ∷ y ∷ more) = x ++ (between ++ joined_by between (y ∷ more))

-- the name of the rowid
abbrev pub number_of : Option ℕ → List Column → List ℕ
number_of (Some zero) (c ∷ cs) = c.name
number_of key cs = codes "rowid"

-- the name of the column at a place of a row
abbrev pub name_at : Table → ℕ → List ℕ
name_at t zero = number_of t.key t.columns
name_at t (suc n) = get_or (map (λ (c : Column). c.name) t.columns) n []

so_many : (n many : ℕ) → many ≡ length (params_from n many)
so_many n zero = refl
so_many n (suc many) = ap suc (so_many (n + 1) many)

-- ---- INSERT: each column that is NOT NULL is given

abbrev pub given : Table → List (List ℕ)
given t = map (λ (c : Column). c.name) (filter (λ (c : Column). c.not_null) t.columns)

abbrev pub insert_text : Table → List ℕ
insert_text t =
    codes "INSERT INTO " ++ (t.name ++ (codes " (" ++ (joined_by (codes ", ") (given t) ++ (codes ") VALUES (" ++ (joined_by (codes ", ") (params_from 1 (length (given t))) ++ codes ")")))))

abbrev pub values_from : ℕ → List Column → List Term
values_from n [] = []
values_from n (c ∷ cs) = if c.not_null then col 0 n ∷ values_from (n + 1) cs else lit Null ∷ values_from n cs

abbrev pub insert_terms : Table → List Term
insert_terms t = lit Null ∷ values_from 0 t.columns

abbrev pub inserting : ℕ → Table → Compiled
inserting at t = record {
  command = Insert at (Values (insert_terms t) (1 + length t.columns));
  returning = None;
  names = params_from 1 (length (given t));
  formats = [];
  start = 0;
  end = length (insert_text t);
  tail = length (insert_text t);
}

pub insert_is : (at : ℕ) (t : Table) → understood desk_schema (insert_text t) ≡ Ok (inserting at t) → IsInsert (insert_text t) (length (given t)) at (insert_terms t) (1 + length t.columns)
insert_is at t means = record { compiled = inserting at t; means = means; command = refl; plain = (refl, refl); whole = omega arith; given = so_many 1 (length (given t)) }

pub inserts : {sql : List ℕ} {many at : ℕ} {terms : List Term} {width : ℕ} → InsertsRow sql many at terms width → IsInsert sql many at terms width
inserts {sql} {many} {at} {terms} {width} means =
    record { compiled = changing sql many (Insert at (Values terms width)); means = means; command = refl; plain = (refl, refl); whole = omega arith; given = so_many 1 many }

-- ---- look-ups

pub lookup_is : {desk : Schema} {sql : List ℕ} {many : ℕ} {trees : List ℕ} {a : Asked trees} {names : List (List ℕ)} → AsksOf desk sql many a names → IsLookupOf desk sql many a
lookup_is {desk} {sql} {many} {trees} {a} {names} means = record {
  names = names;
  compiled = finding sql many a names;
  means = means.0;
  command = refl;
  plain = (refl, refl);
  whole = omega arith;
  given = so_many 1 many;
  unlisted = means.1;
}

-- the last number
abbrev pub last_text : Table → List ℕ
last_text t = codes "SELECT " ++ (name_at t 0 ++ (codes " FROM " ++ (t.name ++ (codes " ORDER BY " ++ (name_at t 0 ++ codes " DESC LIMIT 1")))))

abbrev pub ReadsLast : Schema → Table → Type 0
ReadsLast desk t = AsksOf desk (last_text t) 0 (last_of t.tree) (name_at t 0 ∷ [])

-- by the values at these places
abbrev pub tests_from : Table → ℕ → List ℕ → List (List ℕ)
tests_from t n [] = []
tests_from t n (p ∷ ps) = (name_at t p ++ (codes " = " ++ param n)) ∷ tests_from t (n + 1) ps

abbrev pub key_terms : ℕ → List ℕ → List Term
key_terms n [] = []
key_terms n (p ∷ ps) = is p n ∷ key_terms (n + 1) ps

abbrev key_text : Table → List ℕ → List (List ℕ) → List ℕ
key_text t places shown =
    codes "SELECT " ++ (joined_by (codes ", ") shown ++ (codes " FROM " ++ (t.name ++ (codes " WHERE " ++ (joined_by (codes " AND ") (tests_from t 1 places) ++ (codes " ORDER BY " ++ name_at t 0))))))

-- the columns at these other places of such a row
abbrev pub find_text : Table → List ℕ → List ℕ → List ℕ
find_text t places shown = key_text t places (map (name_at t) shown)

abbrev pub ReadsKey : Table → List ℕ → List ℕ → Type 0
ReadsKey t places shown = AsksOf desk_schema (find_text t places shown) (length places) (by_rowid t.tree (key_terms 0 places) (map (col 1) shown)) (map (name_at t) shown)

-- whether there is such a row
abbrev pub know_text : Table → List ℕ → List ℕ
know_text t places = key_text t places (codes "1" ∷ [])

abbrev pub KnowsKey : Table → List ℕ → Type 0
KnowsKey t places = AsksOf desk_schema (know_text t places) (length places) (by_rowid t.tree (key_terms 0 places) (lit (Int (pos 1)) ∷ [])) (codes "1" ∷ [])

-- ---- UPDATE of the column at a place, of the rows with the values at other places

abbrev pub update_text : Table → List ℕ → ℕ → List ℕ
update_text t places place =
    codes "UPDATE " ++ (t.name ++ (codes " SET " ++ (name_at t place ++ (codes " = " ++ (param (1 + length places) ++ (codes " WHERE " ++ joined_by (codes " AND ") (tests_from t 1 places)))))))

abbrev pub kept_from : ℕ → ℕ → ℕ → List Column → List Term
kept_from place many n [] = []
kept_from place many n (c ∷ cs) = (if n == place then col 0 many else col 1 n) ∷ kept_from place many (n + 1) cs

abbrev pub kept_of : ℕ → ℕ → Option ℕ → List Column → List Term
kept_of place many (Some zero) (c ∷ cs) = lit Null ∷ kept_from place many 2 cs
kept_of place many key cs = kept_from place many 1 cs

abbrev pub update_terms : Table → List ℕ → ℕ → List Term
update_terms t places place = col 1 0 ∷ kept_of place (length places) t.key t.columns

abbrev pub updating : ℕ → Table → List ℕ → ℕ → Compiled
updating at t places place = record {
  command = update_of at t (key_terms 0 places) (update_terms t places place);
  returning = None;
  names = params_from 1 (1 + length places);
  formats = [];
  start = 0;
  end = length (update_text t places place);
  tail = length (update_text t places place);
}

pub update_is : (at : ℕ) (t : Table) (places : List ℕ) (place : ℕ) → understood desk_schema (update_text t places place) ≡ Ok (updating at t places place)
    → IsUpdate (update_text t places place) (1 + length places) at t (key_terms 0 places) (update_terms t places place)
update_is at t places place means = record { compiled = updating at t places place; means = means; command = refl; plain = (refl, refl); whole = omega arith; given = so_many 1 (1 + length places) }

pub updates : {sql : List ℕ} {many at : ℕ} {terms project : List Term} (t : Table) → UpdatesRows sql many at t.tree terms project → IsUpdate sql many at t terms project
updates {sql} {many} {at} {terms} {project} t means =
    record { compiled = changing sql many (update_of at t terms project); means = means; command = refl; plain = (refl, refl); whole = omega arith; given = so_many 1 many }
