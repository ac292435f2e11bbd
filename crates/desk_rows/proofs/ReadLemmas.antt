-- A query over one table shows the rows that pass its test, as the terms that it selects.
use Rattle.std.proofs.Common.{◌≡◌, ℕ, pos, negsuc, List, [], ◌∷◌, ◌++◌, map, length, filter, flat_map, Bool, true, false, cond, Some, None, refl, ap, ◌∙◌}
use Rattle.std.specs.List.{list_all}
use Rattle.std.specs.Ordering.{is_eq}
use Rattle.std.proofs.lemmas.List.Sorted.{length_permutation}
use Rattle.std.proofs.lemmas.List.{length-map}
use Rattle.std.proofs.lemmas.Map.Text.{is_eq-slice_cmp}
use Rattle.std.specs.Str.{bytes_eq}
use Rattle.sqlite_value.specs.declared.value.Value.TheVariants.{Int, Text}
use Rattle.sqlite_value.specs.declared.keys.Collation.TheVariants.{Binary}
use Rattle.sqlite_value.specs.Order.{Row}
use Rattle.sqlite_value.proofs.OrderLemmas.{value_cmp-Text}
use Rattle.sqlite_trees.specs.Tree.{Trees}
use Rattle.sqlite_sql.specs.declared.ops.BinaryOp.TheVariants.{Compare}
use Rattle.sqlite_sql.specs.declared.ops.CompareOp.TheVariants.{Eq}
use Rattle.sqlite_sql.specs.Ops.{is_true, from_truth, binary}
use Rattle.sqlite_sql.specs.Term.{Term, lit, holds}
use Rattle.sqlite_sql.specs.Query.{Query, inner, end, matches, IsAnswer, output}

pub truth_again : (b : Bool) → is_true (from_truth (Some b)) ≡ b
truth_again true = refl
truth_again false = refl

pub text_equal : (x y : List ℕ) → is_true (binary (Compare Eq Binary) (Text x) (Text y)) ≡ bytes_eq x y
unfolding binary
text_equal x y = truth_again _ ∙ ap is_eq (value_cmp-Text x y) ∙ is_eq-slice_cmp x y

-- the rows of the table that pass
abbrev pub passing : List Term → Row → List Row → List Row
passing terms params = filter (λ r. list_all (holds (params ∷ r ∷ [])) terms)

matches_from : (db : Trees) (terms : List Term) (params : Row) (rows : List Row) → flat_map (λ r. matches db terms end (params ∷ r ∷ [])) rows ≡ map (λ r. params ∷ r ∷ []) (passing terms params rows)
matches_from db terms params [] = refl
matches_from db terms params (r ∷ rows) = go (list_all (holds (params ∷ r ∷ [])) terms) (matches_from db terms params rows)
  where
    go : (b : Bool) → flat_map (λ r. matches db terms end (params ∷ r ∷ [])) rows ≡ map (λ r. params ∷ r ∷ []) (passing terms params rows)
        → cond b ((params ∷ r ∷ []) ∷ []) [] ++ flat_map (λ r. matches db terms end (params ∷ r ∷ [])) rows ≡ map (λ r. params ∷ r ∷ []) (cond b (r ∷ passing terms params rows) (passing terms params rows))
    go true later = ap (λ l. (params ∷ r ∷ []) ∷ l) later
    go false later = later

-- a query over one table, of each row that passes
abbrev pub over_one : ℕ → List Term → List Term → Query
over_one tree terms project = record {
  from = inner tree end;
  filter = terms;
  group = None;
  project = project;
  distinct = false;
  collations = [];
  order = [];
  limit = lit (Int (negsuc 0));
  offset = lit (Int (pos 0));
}

pub answer_count : (tree : ℕ) (terms project : List Term) (db : Trees) (params : Row) (rows : List Row) → IsAnswer (over_one tree terms project) db params rows
    → length rows ≡ length (passing terms params (db tree))
answer_count tree terms project db params rows a =
    let out = output (over_one tree terms project) in
    let kept = a.distinct ∙ ap (map out) (a.grouped ∙ matches_from db terms params (db tree)) in
    ap length a.shown ∙ length-map _ _ ∙ length_permutation a.kept a.ordered a.same ∙ ap length kept ∙ length-map _ _ ∙ length-map _ _
