-- What an INSERT of one row does.
use Rattle.std.proofs.Common.{◌≡◌, ◌⊎◌, inl, inr, ℕ, ℤ, ◌/◌, List, [], ◌∷◌, length, slice_get, Bool, true, false, cond, Some, None, Ok, Err, Result, refl, sym, ap, subst, ◌∙◌, append-nil}
use Rattle.std.proofs.lemmas.Bool.{and_parts, not-true}
use Rattle.sqlite_value.specs.declared.value.Value.TheVariants.{Null, Int}
use Rattle.sqlite_value.specs.Order.{Row}
use Rattle.sqlite_trees.specs.Tree.{Trees, put_row}
use Rattle.sqlite_sql.specs.Term.{Term}
use Rattle.sqlite_sql.specs.Ops.{unary}
use Rattle.sqlite_schema.specs.declared.schema.Table.{Table}
use Rattle.sqlite_schema.specs.declared.schema.Kind.TheVariants.{Integer}
use Rattle.sqlite_rules.specs.Cast.{cast, cast_row}
use Rattle.sqlite_rules.specs.Edit.{edit_of, edited, with_rowid, is_taken, are_fresh}
use Rattle.sqlite_rules.specs.declared.error.Rowids.TheVariants.{Chosen}
use Rattle.sqlite.specs.Command.TheVariants.{Insert}
use Rattle.sqlite.specs.Source.TheVariants.{Values}
use Rattle.sqlite.specs.Effect.{Database, IsDatabase, value_rows}
use Rattle.sqlite.specs.Does.{Tally, Does, AtPlace, OnRows}
use Rattle.sqlite.specs.Rows.{Written, Task}
use Rattle.sqlite_schema.specs.declared.schema.Keys.TheVariants.{Enforced}
use Rattle.sqlite.specs.Listing.{understood}
use Rattle.sqlite.specs.State.{State, mode_of, Executes}
use Rattle.sqlite.proofs.Callers.{IsPlain, command_of, statement_of, runs_as, one_step}
use Rattle.desk_rows.specs.Schema.{desk_schema, desk_tables}
use Rattle.desk_rows.specs.steps.Change.{KeepsOthers}

pub either : {X : Type 0} (b : Bool) (x : X) → cond b x x ≡ x
either true x = refl
either false x = refl

pub cast_null : cast Integer Null ≡ Null
unfolding unary
cast_null = either _ Null

pub cast_int : (n : ℤ) → cast Integer (Int n) ≡ Int n
unfolding unary
cast_int n = either _ (Int n)

-- a part that gave a value did not stop on the way
pub went : {B E R : Type 0} {b : B} {Stops : E → Type 0} → ((stop : E) × Stops stop × (Ok b ≡ Err stop)) ⊎ R → R
went (inl stopped) = absurd (let e = stopped.2 in cc)
went (inr on) = on

pub same_value : {B E : Type 0} {a b : B} → ◌≡◌ {A = Result B E} (Ok a) (Ok b) → a ≡ b
same_value e = cc

-- no AUTOINCREMENT, and no default that reads the time
abbrev pub uncounted : Table → Table
uncounted bare = record bare { is_counted = false; stamps = record { places = []; terms = []; formats = [] } }

module _ (sql : List ℕ) (params : Row) (old new : State) (has : old.now.schema ≡ desk_schema) (at : ℕ) (terms : List Term) (width : ℕ)
    (is : command_of (understood desk_schema sql) ≡ Insert at (Values terms width)) (plain : IsPlain (understood desk_schema sql))
    (bare : Table) (there : slice_get desk_tables at ≡ Some (uncounted bare))
    (source : Row) (one : value_rows params width (length terms / width) terms ≡ source ∷ []) where
  abbrev task_on : Table → Task
  task_on t = record { limit = old.step_limit; keys = Enforced; schema = desk_schema; table = t; params = params }

  abbrev table : Table
  table = uncounted bare

  pub inserted : (count : ℕ) → Executes sql params old new (Ok count)
      → (new.now.schema ≡ desk_schema) × (new.now.trees table.tree ≡ put_row (with_rowid Chosen (old.now.trees table.tree) (cast_row table source)) (old.now.trees table.tree))
      × (is_taken (old.now.trees table.tree) (with_rowid Chosen (old.now.trees table.tree) (cast_row table source)) ≡ false) × KeepsOthers table.tree old.now.trees new.now.trees × IsDatabase new.now
  inserted count h =
      let db = old.now.trees in
      let command = Insert at (Values terms width) in
      let w = runs_as sql params old new desk_schema has command is plain count h in
      let text = statement_of sql (understood desk_schema sql) in
      let does = subst (λ s. Does old.step_limit (mode_of old) params (record old.now { schema = s }) text None command (Ok (w.tally, new.now))) has w.changed in
      let found : OnRows (task_on table) (mode_of old) None command db (Ok (w.tally, new.now)) = subst (λ o. AtPlace (λ t. OnRows (task_on t) (mode_of old) None command db) o (Ok (w.tally, new.now))) there does in
      let done = went found in
      let now = ap (λ (p : Tally × Database). p.1) (same_value (went (went done.2).2).2) in
      let given = went done.1 in
      let counter = went given.2 in
      let written = went counter.2 in
      let counted = went written.2 in
      let trees : done.0.trees ≡ written.0 = ap (λ (it : Written). it.trees) (same_value counted.2) ∙ same_value counted.1 in
      let edit = edit_of db table [] Chosen 0 given.0 in
      let applies = one_step desk_schema Enforced db written.0 edit refl written.1 in
      let rows : given.0 ≡ source ∷ [] = given.1.1 ∙ ap (λ p. value_rows p width (length terms / width) terms) (append-nil params) ∙ one in
      let all : new.now.trees ≡ written.0 = ap (λ (d : Database). d.trees) now ∙ trees in
      let free = subst (λ rs. are_fresh (db table.tree) (edit_of db table [] Chosen 0 rs).news ≡ true) rows applies.fresh in (
        ap (λ (d : Database). d.schema) now,
        ap (λ (t : Trees). t table.tree) all ∙ applies.rows ∙ ap (λ rs. edited db (edit_of db table [] Chosen 0 rs)) rows,
        not-true _ (and_parts _ _ free).0,
        subst (KeepsOthers table.tree db) (sym all) applies.tables,
        w.sound,
      )
