-- At most one row has a key, if an index makes the keys of its table distinct.
use Rattle.std.proofs.Common.{◌≡◌, inl, inr, ℕ, ◌+◌, ◌<◌, ◌^◌, ◌&&◌, pos, List, [], ◌∷◌, filter, length, option_map, Bool, true, false, not, Some, refl, sym, ap, subst, ◌∙◌, arith}
use Rattle.std.specs.List.{AllByRecursion}
use Rattle.std.specs.Ordering.{is_ne}
use Rattle.std.proofs.lemmas.Bool.{and_from, both_ways, not-true}
use Rattle.sqlite_value.specs.declared.value.Value.TheVariants.{Int}
use Rattle.sqlite_value.specs.Order.{Row}
use Rattle.sqlite_trees.specs.Tree.{rowid}
use Rattle.sqlite_sql.specs.Ops.{binary}
use Rattle.sqlite_schema.specs.declared.schema.Constraint.TheVariants.{Unique}
use Rattle.sqlite_schema.specs.declared.schema.Index.{Index}
use Rattle.sqlite_schema.specs.declared.schema.Table.{Table}
use Rattle.sqlite_schema.specs.Rules.{Keeps, agree, clashes, differ, guards}
use Rattle.sqlite_rules.specs.Lists.{Has}
use Rattle.sqlite_rules.proofs.ListLemmas.{has_filtered, some_from, test_has}
use Rattle.sqlite_rules.proofs.RuleLemmas.{keeps_at}
use Rattle.sqlite.specs.Effect.{Database, IsDatabase}
use Rattle.desk_rows.specs.Rows.{table_of}
use Rattle.desk_rows.specs.Schema.{desk_schema, desk_tables, desk_indexes}
use Rattle.desk_rows.specs.order.Keys.{HasOnly}
use Rattle.desk_rows.proofs.ChangedRows.{zip_high, zip_stands}
use Rattle.desk_rows.proofs.NumberedLemmas.{ints_rise}
use Rattle.desk_rows.proofs.Ordered.{encode, find_head, found_row, found_same, head, zip_from}
use Rattle.desk_rows.proofs.ReadLemmas.{truth_again}
use Rattle.desk_rows.proofs.UpdateLemmas.{AreFew, IsTwice, few}

differ_below : (n m : ℕ) → n < m → differ (Int (pos n)) (Int (pos m)) ≡ true
unfolding binary
differ_below n m low = truth_again _ ∙ ap is_ne (ints_rise n m low)

-- ---- two rows that pass would have one key

module _ (db : Database) (schema : db.schema ≡ desk_schema) (sound : IsDatabase db) (table : Table) (listed : Has desk_tables table)
    (index : Index) (known : Has desk_indexes index) (guarded : guards index table ≡ true)
    {X : Type 0} (cells : X → Row) (xs : List X) (stored : db.trees table.tree ≡ table_of cells xs) (test : ℕ × X → Bool)
    (agreed : (b c : ℕ × X) → Has (zip_from 1 xs) b → Has (zip_from 1 xs) c → test b ≡ true → test c ≡ true
    → agree index.order index.columns (encode cells b) index.columns (encode cells c) ≡ true) where
  stands : (b : ℕ × X) → Has (zip_from 1 xs) b → Has (db.trees table.tree) (encode cells b)
  stands b there = subst (λ l. Has l (encode cells b)) (sym stored) (zip_stands cells 1 xs b there)

  unclashed : (row : Row) → Has (db.trees table.tree) row → clashes index.order index.columns (db.trees table.tree) row ≡ false
  unclashed row there =
      let keeps : Keeps Unique desk_schema db.trees = subst (λ s. Keeps Unique s db.trees) schema (sound.obeys.rules Unique) in
      let passes = keeps_at Unique desk_schema db.trees table row keeps listed there in
      not-true _ (rw guarded at (test_has (λ i. not (guards i table && clashes i.order i.columns (db.trees table.tree) row)) desk_indexes index passes known))

  two_clash : (b c : ℕ × X) → IsTwice test 1 xs b c → ⊥
  two_clash b c (at_b, at_c, is_b, is_c, low) =
      let row = encode cells c in
      both_ways _ (unclashed row (stands c at_c))
      (some_from (λ (other : Row). agree index.order index.columns other index.columns row && differ (rowid other) (rowid row)) (db.trees table.tree)
      (encode cells b) (stands b at_b) (and_from _ _ (agreed b c at_b at_c is_b is_c) (differ_below b.0 c.0 low)))

  pub few_with_key : AreFew (filter test (zip_from 1 xs))
  few_with_key = few test 1 xs two_clash

-- ---- the one that passes

module _ {X : Type 0} (P : X → Type 0) (has is : X → Bool) (alike : (x : X) → P x → has x ≡ is x) (xs : List X) (all : AllByRecursion P xs) where
  abbrev passing : List (ℕ × X)
  passing = filter (λ (b : ℕ × X). has b.1) (zip_from 1 xs)

  -- where there is one, it is the one that passes
  pub one_of_few : AreFew passing → HasOnly is xs → (b : ℕ × X) × (passing ≡ b ∷ [])
  one_of_few (inr one) only = one
  one_of_few (inl none) only = absurd (let e = sym (ap (λ l. option_map (λ (b : ℕ × X). b.1) (head l)) none) ∙ found in cc)
    where
      found : option_map (λ (b : ℕ × X). b.1) (head passing) ≡ Some only.row
      found =
          ap (option_map (λ (b : ℕ × X). b.1)) (find_head (λ (b : ℕ × X). has b.1) (zip_from 1 xs)) ∙ found_row has 1 xs
          ∙ found_same P has is alike xs all ∙ sym (find_head is xs) ∙ ap head only.only

pub numbered_below : {X : Type 0} (test : ℕ × X → Bool) (xs : List X) (b : ℕ × X) → filter test (zip_from 1 xs) ≡ b ∷ [] → length xs < 2 ^ 63 → b.0 < 2 ^ 63
numbered_below test xs b one small =
    let high : b.0 < 1 + length xs = zip_high 1 xs b (has_filtered test (zip_from 1 xs) b (subst (λ l. Has l b) (sym one) (inl refl))).0 in
    omega (arith, high, small)
