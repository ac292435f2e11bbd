-- What an UPDATE of one table does, and what its query gives where at most one row passes.
use Rattle.std.proofs.Common.{◌≡◌, ◌⊎◌, inl, inr, ℕ, ◌<◌, ◌==◌, ◌<ℤ◌, pos, List, [], ◌∷◌, map, filter, length, slice_get, Bool, true, eqb-true, Some, None, Ok, refl, sym, ap, subst, ◌∙◌, arith, IsPermutation}
use Rattle.std.specs.List.{list_all}
use Rattle.std.proofs.lemmas.Int.{ints}
use Rattle.std.proofs.lemmas.List.Sorted.{length_permutation}
use Rattle.sqlite_value.specs.declared.value.Value.TheVariants.{Null}
use Rattle.sqlite_value.specs.Order.{Row}
use Rattle.sqlite_trees.specs.Tree.{Trees}
use Rattle.sqlite_sql.specs.Term.{Term, holds, eval_all}
use Rattle.sqlite_sql.specs.Query.{Query, inner, end, output, IsAnswer}
use Rattle.sqlite_schema.specs.declared.schema.Table.{Table}
use Rattle.sqlite_schema.specs.declared.schema.Keys.TheVariants.{Enforced}
use Rattle.sqlite_schema.specs.declared.program.Program.{Program}
use Rattle.sqlite_rules.specs.Calls.{ids_of}
use Rattle.sqlite_rules.specs.Edit.{edit_of, edited}
use Rattle.sqlite_rules.specs.Lists.{Has}
use Rattle.sqlite_rules.specs.declared.error.Rowids.TheVariants.{Given}
use Rattle.sqlite_rules.proofs.ListLemmas.{has_filtered}
use Rattle.sqlite_keyed.specs.Keyed.{IsKeyedBy}
use Rattle.sqlite_keyed.proofs.ListLemmas.{ascending-filter, map-map}
use Rattle.sqlite_typed.proofs.AnswerLemmas.{Source, at_end, last_table, matches_are}
use Rattle.sqlite.specs.Command.TheVariants.{Update}
use Rattle.sqlite.specs.Effect.{Database, IsDatabase}
use Rattle.sqlite.specs.Does.{Tally, Does, AtPlace, OnRows}
use Rattle.sqlite.specs.Rows.{Written, Task}
use Rattle.sqlite.specs.Program.{overlay}
use Rattle.sqlite.specs.Listing.{understood}
use Rattle.sqlite.specs.State.{State, mode_of, Executes}
use Rattle.sqlite.proofs.Callers.{IsPlain, command_of, statement_of, runs_as, one_step, one_permutation}
use Rattle.desk_rows.specs.Schema.{desk_schema, desk_tables}
use Rattle.desk_rows.specs.Rows.{table_of}
use Rattle.desk_rows.specs.steps.Change.{KeepsOthers}
use Rattle.desk_rows.proofs.InsertLemmas.{went, same_value}
use Rattle.desk_rows.proofs.Ordered.{encode, encoded, number_of, rises, zip_from}
use Rattle.desk_rows.proofs.ReadLemmas.{over_one}

-- ---- an UPDATE that ran

module _ (sql : List ℕ) (params : Row) (old new : State) (has : old.now.schema ≡ desk_schema) (at : ℕ) (query : Query)
    (is : command_of (understood desk_schema sql) ≡ Update at (record { lets = []; body = query })) (plain : IsPlain (understood desk_schema sql))
    (table : Table) (there : slice_get desk_tables at ≡ Some table) where
  abbrev program : Program
  program = record { lets = []; body = query }

  abbrev task_on : Table → Task
  task_on t = record { limit = old.step_limit; keys = Enforced; schema = desk_schema; table = t; params = params }

  -- the table has the rows that its query gave, in place of those with their rowids
  pub updated : (count : ℕ) → Executes sql params old new (Ok count)
      → (rows : List Row) × IsAnswer query (overlay old.now.trees []) params rows × (new.now.schema ≡ desk_schema)
      × (new.now.trees table.tree ≡ edited old.now.trees (edit_of old.now.trees table (ids_of rows) Given 1 rows))
      × KeepsOthers table.tree old.now.trees new.now.trees × IsDatabase new.now
  updated count h =
      let db = old.now.trees in
      let command = Update at program in
      let w = runs_as sql params old new desk_schema has command is plain count h in
      let text = statement_of sql (understood desk_schema sql) in
      let does =
      subst (λ s. Does old.step_limit (mode_of old) params (record old.now { schema = s }) text None command (Ok (w.tally, new.now))) has w.changed in
      let found : OnRows (task_on table) (mode_of old) None command db (Ok (w.tally, new.now)) =
      subst (λ o. AtPlace (λ t. OnRows (task_on t) (mode_of old) None command db) o (Ok (w.tally, new.now))) there does in
      let done = went found in
      let now = ap (λ (p : Tally × Database). p.1) (same_value (went (went done.2).2).2) in
      let given = went done.1 in
      let written = went given.2 in
      let trees : done.0.trees ≡ written.0 = ap (λ (it : Written). it.trees) (same_value written.2) in
      let edit = edit_of db table (ids_of given.0) Given 1 given.0 in
      let applies = one_step desk_schema Enforced db written.0 edit refl written.1 in
      let all : new.now.trees ≡ written.0 = ap (λ (d : Database). d.trees) now ∙ trees in (
        given.0,
        given.1.answer Null,
        ap (λ (d : Database). d.schema) now,
        ap (λ (t : Trees). t table.tree) all ∙ applies.rows,
        subst (KeepsOthers table.tree db) (sym all) applies.tables,
        w.sound,
      )

-- ---- at most one row passes

abbrev pub AreFew : {X : Type 0} → List X → Type 0
AreFew {X} xs = (xs ≡ []) ⊎ ((x : X) × (xs ≡ x ∷ []))

few_permuted : {X : Type 0} (xs ys : List X) → AreFew xs → IsPermutation xs ys → ys ≡ xs
few_permuted xs ys (inl none) same = go ys (length_permutation xs ys same ∙ ap length none) ∙ sym none
  where
    go : {X : Type 0} (ys : List X) → length ys ≡ 0 → ys ≡ []
    go [] h = refl
    go (y ∷ ys) h = absurd (omega (arith, h))
few_permuted xs ys (inr one) same = one_permutation one.0 ys (subst (λ l. IsPermutation l ys) one.1 same) ∙ sym one.1

few_mapped : {X Y : Type 0} (f : X → Y) (xs : List X) → AreFew xs → AreFew (map f xs)
few_mapped f xs (inl none) = inl (ap (map f) none)
few_mapped f xs (inr one) = inr (f one.0, ap (map f) one.1)

module _ {X : Type 0} (p : ℕ × X → Bool) (n : ℕ) (xs : List X) where
  abbrev pub IsTwice : ℕ × X → ℕ × X → Type 0
  IsTwice b c = Has (zip_from n xs) b × Has (zip_from n xs) c × (p b ≡ true) × (p c ≡ true) × (b.0 < c.0)

  -- no two rows pass
  pub few : ((b c : ℕ × X) → IsTwice b c → ⊥) → AreFew (filter p (zip_from n xs))
  few apart = go (filter p (zip_from n xs)) refl
    where
      go : (l : List (ℕ × X)) → filter p (zip_from n xs) ≡ l → AreFew l
      go [] is = inl refl
      go (b ∷ []) is = inr (b, refl)
      go (b ∷ c ∷ more) is =
          let rising = ascending-filter (λ (a b : ℕ × X). number_of a <ℤ number_of b) p (zip_from n xs) (rises n xs) in
          let up : IsKeyedBy (number_of {A = X}) (b ∷ c ∷ more) = subst (IsKeyedBy (number_of {A = X})) is rising in
          let low : pos b.0 <ℤ pos c.0 = up.0.0 in
          let one = has_filtered p (zip_from n xs) b (subst (λ l. Has l b) (sym is) (inl refl)) in
          let two = has_filtered p (zip_from n xs) c (subst (λ l. Has l c) (sym is) (inr (inl refl))) in
          absurd (apart b c (one.0, two.0, one.1, two.1, omega (ints, arith, low)))

pub few_numbers : {X : Type 0} (k n : ℕ) (xs : List X) → AreFew (filter (λ (b : ℕ × X). b.0 == k) (zip_from n xs))
few_numbers k n xs = few (λ b. b.0 == k) n xs (λ b c twice.
    let b_is : b.0 ≡ k = eqb-true b.0 k twice.2 in let c_is : c.0 ≡ k = eqb-true c.0 k twice.3 in let low = twice.4 in omega (arith, b_is, c_is, low))

-- ---- what the query gives

module _ (tree : ℕ) (terms project : List Term) (db : Trees) (params : Row) {X : Type 0} (cells : X → Row) (xs : List X) (stored : db tree ≡ table_of cells xs)
    (p : ℕ × X → Bool) (tests : (b : ℕ × X) → list_all (holds (params ∷ encode cells b ∷ [])) terms ≡ p b) where
  abbrev q : Query
  q = over_one tree terms project

  abbrev source : Source db (inner tree end) (ℕ × X)
  source = last_table db tree (encode cells) (number_of {A = X}) (zip_from 1 xs) (stored ∙ encoded cells 1 xs) (rises 1 xs) (at_end db)

  abbrev env : ℕ × X → List Row
  env b = params ∷ encode cells b ∷ []

  abbrev out : ℕ × X → Row × Row
  out b = output q (env b)

  -- an UPDATE has no ORDER BY: where at most one row passes there is one order alone
  pub gives : AreFew (filter p (zip_from 1 xs)) → (rows : List Row) → IsAnswer q db params rows
      → rows ≡ map (λ b. eval_all project (env b)) (filter p (zip_from 1 xs))
  gives are rows a =
      let all = filter p (zip_from 1 xs) in
      let kept : a.kept ≡ map out all = a.distinct ∙ ap (map (output q)) (a.grouped ∙ matches_are q db params source p tests) ∙ map-map (output q) env all in
      let ordered = few_permuted (map out all) a.ordered (few_mapped out all are) (subst (λ l. IsPermutation l a.ordered) kept a.same) in
      a.shown ∙ ap (map (λ (o : Row × Row). o.1)) ordered ∙ map-map (λ (o : Row × Row). o.1) out all
