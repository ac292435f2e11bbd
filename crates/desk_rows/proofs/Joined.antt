-- A query of many rows over two tables, if each row of the second names one of the first: only the second is shown.
use Rattle.std.proofs.Common.{◌≡◌, ◌&&◌, ℕ, List, [], ◌∷◌, map, filter, Bool, Ordering, Less, int_cmp, false, IsPermutation, sym, ap, ◌∙◌, subst}
use Rattle.std.specs.List.{list_all}
use Rattle.std.specs.Option.{option_map_or}
use Rattle.std.specs.Ordering.{is_eq}
use Rattle.std.proofs.lemmas.List.Sorted.{IsPermutation-map, IsPermutation-sym, IsPermutation-trans}
use Rattle.registry_core.specs.Numbered.{item_at}
use Rattle.sqlite_value.specs.Order.{Row}
use Rattle.sqlite_trees.specs.Tree.{Trees}
use Rattle.sqlite_sql.specs.Term.{holds}
use Rattle.sqlite_sql.specs.Query.{Output, inner, end, IsAnswer, output, output_cmp, page}
use Rattle.sqlite_sql.proofs.QueryLemmas.{output_cmp_total}
use Rattle.sqlite_keyed.specs.Lists.{sort_by}
use Rattle.sqlite_keyed.proofs.KeyedLemmas.{Less-from_lt}
use Rattle.sqlite_keyed.proofs.ListLemmas.{ascending-filter, ascending-map, ascending_weaker, map-map, map_same}
use Rattle.sqlite_keyed.proofs.SortLemmas.{HasNoTies, sort_by-map, sorted_is-sort_by}
use Rattle.sqlite_typed.proofs.AnswerLemmas.{IsNoTie, Source, at_end, last_table, matches_are, next_table}
use Rattle.desk_rows.specs.Rows.{table_of}
use Rattle.desk_rows.proofs.Beside.{named_ones, names_it}
use Rattle.desk_rows.proofs.Ordered.{Asked, encode, encoded, number_of, query_of, rises, zip_from}

module _ {first second : ℕ} (a : Asked (first ∷ second ∷ [])) (db : Trees) (params : Row)
    {X : Type 0} (x_cells : X → Row) (xs : List X) (x_stored : db first ≡ table_of x_cells xs)
    {Y : Type 0} (y_cells : Y → Row) (ys : List Y) (y_stored : db second ≡ table_of y_cells ys)
    (number : Y → ℕ) (t : X → Bool) (r : Y → Bool)
    (tests : (b : (ℕ × X) × (ℕ × Y)) → list_all (holds (params ∷ encode x_cells b.0 ∷ encode y_cells b.1 ∷ [])) a.terms ≡ names_it number t r b)
    (out : ℕ × Y → Output) (shows : (b : (ℕ × X) × (ℕ × Y)) → output (query_of a) (params ∷ encode x_cells b.0 ∷ encode y_cells b.1 ∷ []) ≡ out b.1)
    (order : ℕ × Y → ℕ × Y → Ordering) (untied : (b c : ℕ × Y) → int_cmp (number_of b) (number_of c) ≡ Less → IsNoTie (order b c))
    (orders : (b c : ℕ × Y) → output_cmp (query_of a) (out b) (out c) ≡ order b c) where
  abbrev Pair : Type 0
  Pair = (ℕ × X) × (ℕ × Y)

  abbrev source : Source db (inner first (inner second end)) Pair
  source = next_table db first (encode x_cells) (number_of {A = X}) (zip_from 1 xs) (x_stored ∙ encoded x_cells 1 xs) (rises 1 xs)
      (last_table db second (encode y_cells) (number_of {A = Y}) (zip_from 1 ys) (y_stored ∙ encoded y_cells 1 ys) (rises 1 ys) (at_end db))

  -- the rows of the second table that pass
  abbrev wanted : List (ℕ × Y)
  wanted = filter (λ y. option_map_or t (item_at xs (number y.1)) false && r y.1) (zip_from 1 ys)

  abbrev found : List Pair
  found = filter (names_it number t r) source.rows

  outputs : map (output (query_of a)) (map (λ b. params ∷ source.env (params ∷ []) b) found) ≡ map out (map (λ (b : Pair). b.1) found)
  outputs = map-map (output (query_of a)) _ found ∙ map_same _ (λ b. out b.1) shows found ∙ sym (map-map out (λ (b : Pair). b.1) found)

  arranged : (rows : List Row) (answer : IsAnswer (query_of a) db params rows) → IsPermutation (map out wanted) answer.ordered
  arranged rows answer =
      let kept = answer.distinct ∙ ap (map (output (query_of a))) (answer.grouped ∙ matches_are (query_of a) db params source (names_it number t r) tests) ∙ outputs in
      IsPermutation-trans (map out wanted) (map out (map (λ (b : Pair). b.1) found)) answer.ordered
      (IsPermutation-sym _ (map out wanted) (IsPermutation-map out (map (λ (b : Pair). b.1) found) wanted (named_ones number t r xs ys)))
      (subst (λ l. IsPermutation l answer.ordered) kept answer.same)

  apart : HasNoTies (output_cmp (query_of a)) (output_cmp_total (query_of a)) (map out wanted)
  apart = ascending-map (λ x y. is_eq (output_cmp (query_of a) x y) ≡ false) out wanted (ascending-filter _ _ (zip_from 1 ys)
      (ascending_weaker _ (λ b c. is_eq (output_cmp (query_of a) (out b) (out c)) ≡ false)
      (λ b c low. ap is_eq (orders b c) ∙ (untied b c (Less-from_lt (number_of b) (number_of c) low)).apart) (zip_from 1 ys) (rises 1 ys)))

  pub joined_sorted : (rows : List Row) → IsAnswer (query_of a) db params rows → rows ≡ page (query_of a) params (map (λ y. (out y).1) (sort_by order wanted))
  joined_sorted rows answer =
      let cmp = output_cmp (query_of a) in
      let is = sorted_is-sort_by cmp (output_cmp_total (query_of a)) (map out wanted) answer.ordered apart (arranged rows answer) answer.sorted
      ∙ sort_by-map cmp out wanted ∙ (λ i. map out (sort_by (λ b c. orders b c i) wanted)) in
      answer.shown ∙ ap (λ l. page (query_of a) params (map (λ (o : Output). o.1) l)) is
      ∙ ap (page (query_of a) params) (map-map (λ (o : Output). o.1) out (sort_by order wanted))
