-- The general lemmas on an UPDATE of one column, which is in no key: what it changes, and when it is never refused.
use Rattle.std.proofs.Common.{◌≡◌, inl, inr, ℕ, ◌≤◌, ◌^◌, ◌-◌, pos, List, [], ◌∷◌, map, filter, length, slice_get, Bool, true, false, cond, Some, None, Ok, Result, refl, sym, ap, subst, ◌∙◌}
use Rattle.std.specs.Prelude.{nat_le, unwrap_or, IfErr, IsTrue}
use Rattle.std.specs.List.{list_all}
use Rattle.sqlite_value.specs.Order.{Row}
use Rattle.sqlite_trees.specs.Tree.{Trees, put_row, without_rowid}
use Rattle.sqlite_sql.specs.Query.{IsAnswer}
use Rattle.sqlite_sql.specs.Term.{Term, col, holds, eval_all}
use Rattle.sqlite_typing.specs.Types.{accepts_program}
use Rattle.sqlite_schema.specs.declared.schema.Constraint.TheVariants.{Unique}
use Rattle.sqlite_schema.specs.declared.schema.Keys.TheVariants.{Enforced}
use Rattle.sqlite_schema.specs.declared.schema.Table.{Table}
use Rattle.sqlite_schema.specs.Rules.{Keeps}
use Rattle.sqlite_resolve.specs.declared.compiled.Compiled.{Compiled}
use Rattle.sqlite_rules.specs.Calls.{ids_of}
use Rattle.sqlite_rules.specs.Cast.{cast_row}
use Rattle.sqlite_rules.specs.Edit.{Edit, IsRefused, edit_of, edited}
use Rattle.sqlite_rules.specs.Lists.{Has}
use Rattle.sqlite_rules.specs.declared.error.Rowids.TheVariants.{Given}
use Rattle.sqlite_rules.proofs.ListLemmas.{has_filtered}
use Rattle.sqlite.specs.Command.{Command}
use Rattle.sqlite.specs.Command.TheVariants.{Update}
use Rattle.sqlite.specs.Effect.{IsDatabase}
use Rattle.sqlite.specs.Listing.{understood}
use Rattle.sqlite.specs.Program.{overlay}
use Rattle.sqlite.specs.State.{State, HasCleanDisk, Executes, text_of}
use Rattle.sqlite.specs.declared.error.Error.{Error}
use Rattle.sqlite.proofs.Callers.{IsPlain, command_of}
use Rattle.desk_rows.specs.Calls.{ChangesOf}
use Rattle.desk_rows.specs.Faults.{IsEven}
use Rattle.desk_rows.specs.Rows.{Rows, Holds, InRange, table_of}
use Rattle.desk_rows.specs.Schema.{desk_schema, desk_tables}
use Rattle.desk_rows.specs.declared.faults.RowFault.{RowFault}
use Rattle.desk_rows.specs.steps.Change.{KeepsOthers}
use Rattle.desk_rows.specs.steps.Statements.{HasWritten}
use Rattle.desk_rows.proofs.ChangedRows.{none_changed, numbered_changed, put_changed, zip_stands}
use Rattle.desk_rows.proofs.Insertions.{apart, ran_well}
use Rattle.desk_rows.proofs.Ordered.{encode, zip_from}
use Rattle.desk_rows.proofs.ReadLemmas.{over_one}
use Rattle.desk_rows.proofs.RefusedLemmas.{IsTurnedDown, in_order_unless}
use Rattle.desk_rows.proofs.TurnedDown.{update_writes}
use Rattle.desk_rows.proofs.Tables.{tables, with_table, holds_with}
use Rattle.desk_rows.proofs.UpdateLemmas.{AreFew, gives, updated}
use Rattle.desk_rows.proofs.UpdateRefusals.{Passes, not_refused, update_cause}

-- an UPDATE of the rows that pass, whose query shows the old rowid and then the new row
abbrev pub update_of : ℕ → Table → List Term → List Term → Command
update_of at table terms project = Update at (record { lets = []; body = over_one table.tree terms (col 1 0 ∷ project) })

-- the text is that, with this number of parameters
pub record IsUpdate (sql : List ℕ) (many at : ℕ) (table : Table) (terms project : List Term) : Type 0 where
  pub compiled : Compiled
  pub means : understood desk_schema sql ≡ Ok compiled
  pub command : compiled.command ≡ update_of at table terms project
  pub plain : (compiled.returning ≡ None) × (compiled.formats ≡ [])
  pub whole : length sql ≤ compiled.tail
  pub given : many ≡ length compiled.names

pub overlay_none : (db : Trees) (t : ℕ) → overlay db [] t ≡ db t
overlay_none db t = elim (nat_le (2 ^ 31) t) as (λ b. unwrap_or (cond b (slice_get [] (t - 2 ^ 31)) None) (db t) ≡ db t) [ true ↦ refl | false ↦ refl ]

-- ---- what it changes

module _ {sql : List ℕ} {many at : ℕ} {table : Table} {terms project : List Term} (text : IsUpdate sql many at table terms project)
    (params : Row) (old new : State) (has : old.now.schema ≡ desk_schema) (there : slice_get desk_tables at ≡ Some table) where
  pub ran : (count : ℕ) → Executes sql params old new (Ok count)
      → (rows : List Row) × IsAnswer (over_one table.tree terms (col 1 0 ∷ project)) (overlay old.now.trees []) params rows × (new.now.schema ≡ desk_schema)
      × (new.now.trees table.tree ≡ edited old.now.trees (edit_of old.now.trees table (ids_of rows) Given 1 rows))
      × KeepsOthers table.tree old.now.trees new.now.trees × IsDatabase new.now
  ran count it =
      updated sql params old new has at (over_one table.tree terms (col 1 0 ∷ project)) (ap command_of text.means ∙ text.command)
      (subst IsPlain (sym text.means) text.plain) table there count it

  -- the schema stays, whatever the tables have
  schema_kept : (count : ℕ) → Executes sql params old new (Ok count) → new.now.schema ≡ desk_schema
  schema_kept count it = (ran count it).2

module _ (table : Table) (terms project : List Term) (params : Row) (old : State)
    {X : Type 0} (cells : X → Row) (xs : List X) (stored : old.now.trees table.tree ≡ table_of cells xs)
    (p : ℕ × X → Bool) (tests : (b : ℕ × X) → list_all (holds (params ∷ encode cells b ∷ [])) terms ≡ p b)
    (f : X → X) (casts : (b : ℕ × X) → cast_row table (eval_all project (params ∷ encode cells b ∷ [])) ≡ encode cells (b.0, f b.1)) where
  abbrev IsGiven : List Row → Type 0
  IsGiven rows = IsAnswer (over_one table.tree terms (col 1 0 ∷ project)) (overlay old.now.trees []) params rows

  abbrev edit_by : List Row → Edit
  edit_by rows = edit_of old.now.trees table (ids_of rows) Given 1 rows

  abbrev passing : List (ℕ × X)
  passing = filter p (zip_from 1 xs)

  abbrev shown : ℕ × X → Row
  shown b = eval_all (col 1 0 ∷ project) (params ∷ encode cells b ∷ [])

  rows_are : AreFew passing → (rows : List Row) → IsGiven rows → rows ≡ map shown passing
  rows_are = gives table.tree terms (col 1 0 ∷ project) (overlay old.now.trees []) params cells xs (overlay_none old.now.trees table.tree ∙ stored) p tests

  -- one row is put in the place of the row with its number
  edit_is : (b : ℕ × X) → passing ≡ b ∷ [] → (rows : List Row) → IsGiven rows
      → edit_by rows ≡ record { table = table; gone = pos b.0 ∷ []; news = encode cells (b.0, f b.1) ∷ [] }
  edit_is b one rows given =
      ap edit_by (rows_are (inr (b, one)) rows given ∙ ap (map shown) one)
      ∙ ap (λ (r : Row). record { table = table; gone = pos b.0 ∷ []; news = r ∷ [] }) (casts b)

  pub table_is : AreFew passing → (rows : List Row) → IsGiven rows → edited old.now.trees (edit_by rows) ≡ table_of cells (numbered_changed p f 1 xs)
  table_is (inl none) rows given =
      ap (λ rs. edited old.now.trees (edit_by rs)) (rows_are (inl none) rows given ∙ ap (map shown) none) ∙ stored
      ∙ ap (table_of cells) (sym (none_changed p f 1 xs none))
  table_is (inr one) rows given =
      let b = one.0 in
      ap (edited old.now.trees) (edit_is b one.1 rows given) ∙ ap (λ l. put_row (encode cells (b.0, f b.1)) (without_rowid (pos b.0) l)) stored
      ∙ put_changed p f cells 1 xs b one.1

-- ---- when it is refused

-- where one row passes, and obeys the rules with what is changed, it never is
module _ {sql : List ℕ} {many at : ℕ} {table : Table} {terms project : List Term} (text : IsUpdate sql many at table terms project)
    (params : Row) (old new : State) (has : old.now.schema ≡ desk_schema) (sound : IsDatabase old.now)
    (there : slice_get desk_tables at ≡ Some table) (listed : Has desk_tables table)
    (typed : accepts_program desk_schema [] (over_one table.tree terms (col 1 0 ∷ project)) params ≡ true) (many_is : length params ≡ many)
    {X : Type 0} (cells : X → Row) (xs : List X) (stored : old.now.trees table.tree ≡ table_of cells xs)
    (p : ℕ × X → Bool) (tests : (b : ℕ × X) → list_all (holds (params ∷ encode cells b ∷ [])) terms ≡ p b)
    (f : X → X) (casts : (b : ℕ × X) → cast_row table (eval_all project (params ∷ encode cells b ∷ [])) ≡ encode cells (b.0, f b.1)) where
  abbrev pub Obeys : ℕ × X → Type 0
  Obeys b = (keeps : Keeps Unique desk_schema old.now.trees) (stood : Has (old.now.trees table.tree) (encode cells b))
      → Passes desk_schema apart old.now.trees table listed keeps b.0 (cells b.1) (cells (f b.1)) stood

  never : old.step_limit ≡ None → (b : ℕ × X) → filter p (zip_from 1 xs) ≡ b ∷ [] → Obeys b → (e : Error)
      → IsTurnedDown sql params old new has (update_of at table terms project) (update_writes at _) text.compiled text.means text.command text.plain
      text.whole (many_is ∙ text.given) e → ⊥
  never unlimited b one obeys e turned =
      let cause = update_cause old params at table terms (col 1 0 ∷ project) typed unlimited there (text_of sql text.compiled) e turned in
      let keeps : Keeps Unique desk_schema old.now.trees = subst (λ s. Keeps Unique s old.now.trees) has (sound.obeys.rules Unique) in
      let numbered : Has (zip_from 1 xs) b = (has_filtered p (zip_from 1 xs) b (subst (λ l. Has l b) (sym one) (inl refl))).0 in
      let stood : Has (old.now.trees table.tree) (encode cells b) = subst (λ l. Has l (encode cells b)) (sym stored) (zip_stands cells 1 xs b numbered) in
      let is = edit_is table terms project params old cells xs stored p tests f casts b one cause.0 cause.1 in
      not_refused desk_schema apart old.now.trees table listed keeps b.0 (cells b.1) (cells (f b.1)) stood (obeys keeps stood) cause.2
      (subst (λ it. IsRefused desk_schema Enforced old.now.trees it cause.2) is cause.3)

  pub update_in_order : old.step_limit ≡ None → (b : ℕ × X) → filter p (zip_from 1 xs) ≡ b ∷ [] → Obeys b → {result : Result (Unit {0}) RowFault}
      → HasWritten sql params old new result → HasCleanDisk new → IsTrue old.in_transaction → IfErr result IsEven
  update_in_order unlimited b one obeys {result} wrote sure inside =
      in_order_unless sql params old new has (update_of at table terms project) (update_writes at _) text.compiled text.means text.command
      text.plain text.whole (many_is ∙ text.given) (never unlimited b one obeys) result (wrote.fails sure inside)

-- ---- what an UPDATE does to the rows

-- At most one row passes and is changed. If there is one, by `May`, and it is in its range, the statement is never refused.
module _ {sql : List ℕ} {many at : ℕ} {table : Table} {terms project : List Term} (text : IsUpdate sql many at table terms project)
    (params : Row) (old new : State) (there : slice_get desk_tables at ≡ Some table) (listed : Has desk_tables table)
    (typed : accepts_program desk_schema [] (over_one table.tree terms (col 1 0 ∷ project)) params ≡ true) (many_is : length params ≡ many)
    {X : Type 0} (cells : X → Row) (xs : Rows → List X) (stored : (r : Rows) → Holds old.now r → old.now.trees table.tree ≡ table_of cells (xs r))
    (p : ℕ × X → Bool) (tests : (b : ℕ × X) → list_all (holds (params ∷ encode cells b ∷ [])) terms ≡ p b)
    (f : X → X) (casts : (b : ℕ × X) → cast_row table (eval_all project (params ∷ encode cells b ∷ [])) ≡ encode cells (b.0, f b.1))
    (few : (r : Rows) → Holds old.now r → AreFew (filter p (zip_from 1 (xs r))))
    (ys : Rows → List X) (done : (r : Rows) → Holds old.now r → numbered_changed p f 1 (xs r) ≡ ys r)
    (after : Rows → Rows) (is_after : (r : Rows) → tables (after r) ≡ with_table table.tree (table_of cells (ys r)) (tables r))
    (ranges : (r : Rows) → InRange r → InRange (after r)) where
  module _ (May : Rows → Type 0)
      (found : (r : Rows) (has : Holds old.now r) → May r → (b : ℕ × X) × (filter p (zip_from 1 (xs r)) ≡ b ∷ [])
      × Obeys text params old new has.ten.schema has.ten.sound there listed typed many_is cells (xs r) (stored r has) p tests f casts b) where
    pub changed_by : {result : Result (Unit {0}) RowFault} → HasWritten sql params old new result → ChangesOf old new result (Unit {0}) May after
    changed_by {result} wrote = record {
      write = wrote.write;
      schema = λ sure inside has. ran_well result (wrote.runs sure inside) (schema_kept text params old new has there);
      made = λ sure inside fits r has. ran_well result (wrote.runs sure inside) (λ count it.
          let did = ran text params old new has.ten.schema there count it in
          let is = table_is table terms project params old cells (xs r) (stored r has) p tests f casts (few r has) did.0 did.1 in
          holds_with old.now new.now r (after r) table.tree (table_of cells (ys r)) has did.2 did.5 (ranges r has.ten.in_range) did.4
          (did.3 ∙ is ∙ ap (table_of cells) (done r has)) (is_after r));
      in_order = λ sure inside unlimited fits r has may.
          let one = found r has may in
          update_in_order text params old new has.ten.schema has.ten.sound there listed typed many_is cells (xs r) (stored r has) p tests f casts unlimited
          one.0 one.1 one.2 {result = result} wrote sure inside;
    }
