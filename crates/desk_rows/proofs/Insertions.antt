-- The general lemmas on an INSERT of one row: what it adds, and that it is refused only for a key that is taken.
use Rattle.std.proofs.Common.{◌≡◌, ◌≢◌, inl, inr, ℕ, ◌+◌, ◌<◌, ◌≤◌, ◌^◌, ◌/◌, pos, List, [], ◌∷◌, ◌++◌, map, length, slice_get, Bool, true, false, ◌&&◌, ◌||◌, Some, None, Ok, Err, Result, OnOk, IfErr, refl, sym, ap, ap₂, subst, ◌∙◌, arith, true≢false, eqb-true, SFits, w64}
use Rattle.std.specs.List.{list_any, list_all, AllByRecursion}
use Rattle.std.specs.Ordering.{is_eq, is_ne}
use Rattle.std.proofs.lemmas.Bool.{false_from_ne_true, eq-eqb}
use Rattle.std.proofs.lemmas.Cmp.{tied_itself}
use Rattle.std.proofs.lemmas.Int.{ints}
use Rattle.std.proofs.lemmas.List.{map-append, length-map}
use Rattle.sqlite_value.specs.declared.value.Value.TheVariants.{Null, Int}
use Rattle.sqlite_value.specs.Order.{Row}
use Rattle.sqlite_value.specs.Keys.{plain}
use Rattle.sqlite_value.proofs.OrderLemmas.{value_cmp_total}
use Rattle.sqlite_trees.specs.Tree.{Trees, put_row, with_tree, IsAscending}
use Rattle.sqlite_sql.specs.Ops.{binary}
use Rattle.sqlite_sql.specs.Term.{Term}
use Rattle.sqlite_typed.proofs.RowLemmas.{fits_if}
use Rattle.sqlite_typing.specs.Types.{accepts_terms}
use Rattle.sqlite_schema.specs.declared.schema.Table.{Table}
use Rattle.sqlite_schema.specs.declared.schema.Keys.TheVariants.{Enforced}
use Rattle.sqlite_schema.specs.declared.schema.Constraint.TheVariants.{Datatype, NotNull, Check, PrimaryKey, Unique, ForeignKey}
use Rattle.sqlite_schema.specs.Rules.{Keeps, clashes, differ, agree, passes}
use Rattle.sqlite_resolve.specs.declared.compiled.Compiled.{Compiled}
use Rattle.sqlite_rules.specs.declared.error.Refusal.{Refusal}
use Rattle.sqlite_rules.specs.declared.error.Refusal.TheVariants.{Violates, Mismatch, NoRowid, BadReference, TooDeep}
use Rattle.sqlite_rules.specs.declared.error.Rowids.TheVariants.{Chosen}
use Rattle.sqlite_rules.specs.Cast.{cast_row}
use Rattle.sqlite_rules.specs.Edit.{Edit, edit_of, IsRefused, is_referred, have_rowids, is_taken, are_fresh, next_rowid, with_rowid}
use Rattle.sqlite_rules.specs.Keys.{are_unique}
use Rattle.sqlite_rules.specs.Lists.{Has}
use Rattle.sqlite_rules.proofs.RuleLemmas.{Turns, unique_kept}
use Rattle.sqlite_rules.proofs.TableLemmas.{put_has, has_put, put_all_keeps}
use Rattle.sqlite.specs.Command.TheVariants.{Insert}
use Rattle.sqlite.specs.Source.TheVariants.{Values}
use Rattle.sqlite.specs.Effect.{IsDatabase, value_rows}
use Rattle.sqlite.specs.Listing.{understood}
use Rattle.sqlite.specs.declared.error.Error.{Error}
use Rattle.sqlite.specs.State.{State, Executes, ExecutesInside, text_of}
use Rattle.sqlite.proofs.Callers.{IsPlain, command_of}
use Rattle.desk_rows.specs.Schema.{desk_schema, desk_tables}
use Rattle.desk_rows.specs.steps.Change.{KeepsOthers}
use Rattle.desk_rows.specs.Rows.{Rows, Holds, InRange, rowids_from, table_of}
use Rattle.desk_rows.specs.Calls.{ChangesOf}
use Rattle.desk_rows.specs.steps.Statements.{HasWritten}
use Rattle.desk_rows.proofs.Tables.{tables, with_table, holds_with}
use Rattle.desk_rows.specs.Faults.{IsEven, row_fault}
use Rattle.desk_rows.specs.declared.faults.RowFault.{RowFault}
use Rattle.desk_rows.proofs.InsertLemmas.{uncounted, inserted}
use Rattle.desk_rows.proofs.NumberedLemmas.{ints_rise, next_is, put_next}
use Rattle.desk_rows.proofs.ReadLemmas.{truth_again}
use Rattle.desk_rows.proofs.RefusedLemmas.{in_order_unless, insert_cause}
use Rattle.desk_rows.proofs.TurnedDown.{insert_writes}

-- the text is an INSERT of one row, with this number of parameters
pub record IsInsert (sql : List ℕ) (many at : ℕ) (terms : List Term) (width : ℕ) : Type 0 where
  pub compiled : Compiled
  pub means : understood desk_schema sql ≡ Ok compiled
  pub command : compiled.command ≡ Insert at (Values terms width)
  pub plain : (compiled.returning ≡ None) × (compiled.formats ≡ [])
  pub whole : length sql ≤ compiled.tail
  pub given : many ≡ length compiled.names

module _ {sql : List ℕ} {many at : ℕ} {terms : List Term} {width : ℕ} (text : IsInsert sql many at terms width) (params : Row) (old new : State) (has : old.now.schema ≡ desk_schema)
    (bare : Table) (there : slice_get desk_tables at ≡ Some (uncounted bare))
    (source : Row) (one : value_rows params width (length terms / width) terms ≡ source ∷ [])
    {X : Type 0} (cells : X → Row) (xs : List X) (x : X) (stored : old.now.trees bare.tree ≡ table_of cells xs) (casts : cast_row (uncounted bare) source ≡ Null ∷ cells x) where
  -- the row is at the end of its table, and everything else is as it was
  pub row_added : (count : ℕ) → Executes sql params old new (Ok count)
      → (new.now.schema ≡ desk_schema) × (new.now.trees bare.tree ≡ table_of cells (xs ++ x ∷ [])) × KeepsOthers bare.tree old.now.trees new.now.trees × IsDatabase new.now
  row_added count ran =
      let did = inserted sql params old new has at terms width (ap command_of text.means ∙ text.command) (subst IsPlain (sym text.means) text.plain) bare there source one count ran in
      let put = λ (cells_now : Row) (rows : List Row). put_row (with_rowid Chosen rows cells_now) rows in (
        did.0,
        did.1 ∙ ap₂ put casts stored ∙ put_next (map cells xs) (cells x) ∙ ap (rowids_from 1) (sym (map-append cells xs (x ∷ []))),
        did.3,
        did.4,
      )

-- and the schema stays, whatever the tables have
pub schema_kept : {sql : List ℕ} {many at : ℕ} {terms : List Term} {width : ℕ} (text : IsInsert sql many at terms width) (params : Row) (old new : State) → old.now.schema ≡ desk_schema
    → (bare : Table) → slice_get desk_tables at ≡ Some (uncounted bare) → (source : Row) → value_rows params width (length terms / width) terms ≡ source ∷ []
    → (count : ℕ) → Executes sql params old new (Ok count) → new.now.schema ≡ desk_schema
schema_kept {sql} {many} {at} {terms} {width} text params old new has bare there source one count ran =
    (inserted sql params old new has at terms width (ap command_of text.means ∙ text.command) (subst IsPlain (sym text.means) text.plain) bare there source one count ran).0

-- ---- keys

pub apart : IsAscending (λ (a b : Table). a.tree ≡ b.tree → ⊥) desk_tables
apart = (
  (λ e. omega (arith, e), (λ e. omega (arith, e), (λ e. omega (arith, e), (λ e. omega (arith, e), (λ e. omega (arith, e), (λ e. omega (arith, e), (λ e. omega (arith, e), (λ e. omega (arith, e), (λ e. omega (arith, e), (λ e. omega (arith, e), tt)))))))))),
  (
    (λ e. omega (arith, e), (λ e. omega (arith, e), (λ e. omega (arith, e), (λ e. omega (arith, e), (λ e. omega (arith, e), (λ e. omega (arith, e), (λ e. omega (arith, e), (λ e. omega (arith, e), (λ e. omega (arith, e), tt))))))))),
    (
      (λ e. omega (arith, e), (λ e. omega (arith, e), (λ e. omega (arith, e), (λ e. omega (arith, e), (λ e. omega (arith, e), (λ e. omega (arith, e), (λ e. omega (arith, e), (λ e. omega (arith, e), tt)))))))),
      (
        (λ e. omega (arith, e), (λ e. omega (arith, e), (λ e. omega (arith, e), (λ e. omega (arith, e), (λ e. omega (arith, e), (λ e. omega (arith, e), (λ e. omega (arith, e), tt))))))),
        (
          (λ e. omega (arith, e), (λ e. omega (arith, e), (λ e. omega (arith, e), (λ e. omega (arith, e), (λ e. omega (arith, e), (λ e. omega (arith, e), tt)))))),
          (
            (λ e. omega (arith, e), (λ e. omega (arith, e), (λ e. omega (arith, e), (λ e. omega (arith, e), (λ e. omega (arith, e), tt))))),
            (
              (λ e. omega (arith, e), (λ e. omega (arith, e), (λ e. omega (arith, e), (λ e. omega (arith, e), tt)))),
              (
                (λ e. omega (arith, e), (λ e. omega (arith, e), (λ e. omega (arith, e), tt))),
                (
                  (λ e. omega (arith, e), (λ e. omega (arith, e), tt)),
                  (
                    (λ e. omega (arith, e), tt),
                    (tt, tt),
                  ),
                ),
              ),
            ),
          ),
        ),
      ),
    ),
  ),
)

not_taken : (n m : ℕ) (xs : List Row) (cells : Row) → n + length xs ≤ m → is_taken (rowids_from n xs) (Int (pos m) ∷ cells) ≡ false
not_taken n m [] cells low = refl
not_taken n m (x ∷ xs) cells low = ap₂ (λ o b. is_eq o || b) (ints_rise n m (omega (arith, low))) (not_taken (n + 1) m xs cells (omega (arith, low)))

pub differ_same : (n : ℕ) → differ (Int (pos n)) (Int (pos n)) ≡ false
unfolding binary
differ_same n = truth_again _ ∙ ap is_ne (tied_itself value_cmp_total (Int (pos n)))

and_false : (a : Bool) → (a && false) ≡ false
and_false true = refl
and_false false = refl

first_false : (a b : Bool) → (a || b) ≡ false → (a ≡ false) × (b ≡ false)
first_false false b h = (refl, h)
first_false true b h = absurd (true≢false h)

pub other_tree : (db : Trees) (tree : ℕ) (rows : List Row) (t : ℕ) → t ≢ tree → with_tree db tree rows t ≡ db t
other_tree db tree rows t other = rw (false_from_ne_true _ (λ e. other (eqb-true _ _ e))) refl

-- no row but the new one has its key
module _ {X : Type 0} (cells : X → Row) (key : List ℕ) (x : X) (P : X → Type 0) (same : X → Bool) (agrees : (n m : ℕ) (y : X) → P y → agree plain key (Int (pos n) ∷ cells y) key (Int (pos m) ∷ cells x) ≡ same y) where
  no_clash : (n m : ℕ) (xs : List X) → AllByRecursion P xs → list_any same xs ≡ false → m ≡ n + length xs
      → clashes plain key (rowids_from n (map cells (xs ++ x ∷ []))) (Int (pos m) ∷ cells x) ≡ false
  no_clash n m [] all absent is =
      ap (λ b. (agree plain key (Int (pos n) ∷ cells x) key (Int (pos m) ∷ cells x) && b) || false) (ap (λ k. differ (Int (pos n)) (Int (pos k))) (let e : m ≡ n = omega (arith, is) in e) ∙ differ_same n)
      ∙ ap (λ b. b || false) (and_false (agree plain key (Int (pos n) ∷ cells x) key (Int (pos m) ∷ cells x)))
  no_clash n m (y ∷ xs) all absent is =
      let parts = first_false _ _ absent in
      ap₂ (λ a b. (a && differ (Int (pos n)) (Int (pos m))) || b) (agrees n m y all.0 ∙ parts.0) (no_clash (n + 1) m xs all.1 parts.1 (omega (arith, is)))

  pub key_free : (xs : List X) → AllByRecursion P xs → list_any same xs ≡ false → clashes plain key (table_of cells (xs ++ x ∷ [])) (Int (pos (1 + length (map cells xs))) ∷ cells x) ≡ false
  key_free xs all absent = no_clash 1 (1 + length (map cells xs)) xs all absent (ap (λ n. 1 + n) (length-map _ _))

-- ---- when `Refused` is returned

module _ (db : Trees) (table : Table) (listed : Has desk_tables table) {X : Type 0} (cells : X → Row) (xs : List X) (x : X) (held : db table.tree ≡ table_of cells xs) (keeps : Keeps Unique desk_schema db)
    (small : 1 + length xs < 2 ^ 63) where
  abbrev pub m : ℕ
  m = 1 + length (map cells xs)

  abbrev pub new_row : Row
  new_row = Int (pos m) ∷ cells x

  abbrev pub edit : Edit
  edit = record { table = table; gone = []; news = new_row ∷ [] }

  free : is_taken (db table.tree) new_row ≡ false
  free = ap (λ rows. is_taken rows new_row) held ∙ not_taken 1 m (map cells xs) (cells x) (omega arith)

  fresh : are_fresh (db table.tree) (new_row ∷ []) ≡ true
  fresh = rw free refl

  pub put_is : put_row new_row (db table.tree) ≡ table_of cells (xs ++ x ∷ [])
  put_is = ap (put_row new_row) held ∙ ap (λ n. put_row (Int n ∷ cells x) (table_of cells xs)) (sym (next_is (map cells xs)))
      ∙ put_next (map cells xs) (cells x) ∙ ap (rowids_from 1) (sym (map-append cells xs (x ∷ [])))

  fits : SFits w64 (pos m)
  fits = let is : m ≡ 1 + length xs = ap (λ n. 1 + n) (length-map _ _) in omega (ints, arith, is, small)

  turn : Turns desk_schema db (with_tree db table.tree (put_row new_row (db table.tree))) table (db table.tree) [] (new_row ∷ [])
  turn = record {
    apart = apart;
    listed = listed;
    others = λ t there other. other_tree db table.tree (put_row new_row (db table.tree)) t.tree other;
    from = λ r there. elim (put_has new_row (db table.tree) r (rw (set_tree) at there)) [ inl is ↦ inl (inl is) | inr was ↦ inr was ];
    stays = λ r there. rw (set_tree) (put_all_keeps (new_row ∷ []) (db table.tree) r fresh there);
    added = λ r there. rw (set_tree) (elim there [ inl is ↦ subst (Has (put_row new_row (db table.tree))) (sym is) (has_put new_row (db table.tree)) | inr none ↦ absurd none ]);
    was = λ r there. there;
    split = λ r there. inl there;
  }
    where
      set_tree : with_tree db table.tree (put_row new_row (db table.tree)) table.tree ≡ put_row new_row (db table.tree)
      set_tree = rw (eq-eqb table.tree table.tree refl) refl

  -- the rules that need no look at the table, and the keys
  pub record Passes : Type 0 where
    pub datatype : list_all (passes Datatype desk_schema db table) (new_row ∷ []) ≡ true
    pub not_null : list_all (passes NotNull desk_schema db table) (new_row ∷ []) ≡ true
    pub check : list_all (passes Check desk_schema db table) (new_row ∷ []) ≡ true
    pub keyed : have_rowids (new_row ∷ []) ≡ true
    pub referred : is_referred desk_schema Enforced edit ≡ true
    pub unique : are_unique desk_schema.indexes (with_tree db table.tree (table_of cells (xs ++ x ∷ []))) table (new_row ∷ []) ≡ true

  pub not_refused : Passes → (why : Refusal) → IsRefused desk_schema Enforced db edit why → ⊥
  not_refused obeys (Violates Datatype) h = true≢false (sym obeys.datatype ∙ h)
  not_refused obeys (Violates NotNull) h = true≢false (sym obeys.not_null ∙ h)
  not_refused obeys (Violates Check) h = true≢false (sym obeys.check ∙ h)
  not_refused obeys (Violates PrimaryKey) h = true≢false (sym fresh ∙ h)
  not_refused obeys (Violates Unique) h = h (unique_kept desk_schema db (with_tree db table.tree (put_row new_row (db table.tree))) table (db table.tree) [] (new_row ∷ []) turn (rw put_is obeys.unique) keeps)
  not_refused obeys (Violates ForeignKey) h = h
  not_refused obeys Mismatch h = true≢false (sym obeys.keyed ∙ h)
  not_refused obeys NoRowid h = true≢false (sym (ap (λ b. b && true) (fits_if (pos m) fits)) ∙ h)
  not_refused obeys BadReference h = true≢false (sym obeys.referred ∙ h)
  not_refused obeys TooDeep h = h

module _ {sql : List ℕ} {many at : ℕ} {terms : List Term} {width : ℕ} (text : IsInsert sql many at terms width) (params : Row) (old new : State) (has : old.now.schema ≡ desk_schema) (sound : IsDatabase old.now)
    (bare : Table) (there : slice_get desk_tables at ≡ Some (uncounted bare)) (listed : Has desk_tables (uncounted bare))
    (source : Row) (one : value_rows params width (length terms / width) terms ≡ source ∷ []) (typed : accepts_terms terms params ≡ true) (many_is : length params ≡ many) (unlimited : old.step_limit ≡ None)
    {X : Type 0} (cells : X → Row) (xs : List X) (x : X) (stored : old.now.trees bare.tree ≡ table_of cells xs) (casts : cast_row (uncounted bare) source ≡ Null ∷ cells x)
    (small : 1 + length xs < 2 ^ 63) where
  pub keeps : Keeps Unique desk_schema old.now.trees
  keeps = subst (λ s. Keeps Unique s old.now.trees) has (sound.obeys.rules Unique)

  abbrev the_edit : Edit
  the_edit = edit old.now.trees (uncounted bare) listed cells xs x stored keeps small

  edit_is : edit_of old.now.trees (uncounted bare) [] Chosen 0 (source ∷ []) ≡ the_edit
  edit_is = ap (λ (r : Row). record { table = uncounted bare; gone = []; news = r ∷ [] })
      (ap (λ v. with_rowid Chosen (old.now.trees bare.tree) v) casts ∙ ap (λ n. Int n ∷ cells x) (ap next_rowid stored ∙ next_is (map cells xs)))

  -- where no key is taken, it is never refused
  pub insert_in_order : Passes old.now.trees (uncounted bare) listed cells xs x stored keeps small → (r : Result (Unit {0}) RowFault)
      → IfErr r (λ fault. (e : Error) × (fault ≡ row_fault e) × ExecutesInside 0 sql params old new (Err e)) → IfErr r IsEven
  insert_in_order passes =
      in_order_unless sql params old new has (Insert at (Values terms width)) (insert_writes at (Values terms width)) text.compiled text.means text.command
      text.plain text.whole (many_is ∙ text.given) (λ e turned.
      let cause = insert_cause old params at terms width bare there source one typed unlimited (text_of sql text.compiled) e turned in
      not_refused old.now.trees (uncounted bare) listed cells xs x stored keeps small passes cause.0
      (subst (λ ed. IsRefused desk_schema Enforced old.now.trees ed cause.0) edit_is cause.1))

-- ---- what an INSERT does to the rows

pub ran_well : {E : Type 0} {P : ℕ → Type 0} {Q : Type 0} (result : Result (Unit {0}) E) → OnOk result ((count : ℕ) × P count) → ((count : ℕ) → P count → Q) → OnOk result Q
ran_well (Ok done) h next = next h.0 h.1
ran_well (Err e) h next = tt

-- A row in its range, by `Fits`, is added if its key is free, by `Free`.
module _ {sql : List ℕ} {many at : ℕ} {terms : List Term} {width : ℕ} (text : IsInsert sql many at terms width) (params : Row) (old new : State)
    (bare : Table) (there : slice_get desk_tables at ≡ Some (uncounted bare)) (listed : Has desk_tables (uncounted bare))
    (source : Row) (one : value_rows params width (length terms / width) terms ≡ source ∷ []) (typed : accepts_terms terms params ≡ true) (many_is : length params ≡ many)
    {X : Type 0} (cells : X → Row) (xs : Rows → List X) (x : X) (casts : cast_row (uncounted bare) source ≡ Null ∷ cells x)
    (stored : (r : Rows) → Holds old.now r → old.now.trees bare.tree ≡ table_of cells (xs r))
    (after : Rows → Rows) (is_after : (r : Rows) → tables (after r) ≡ with_table bare.tree (table_of cells (xs r ++ x ∷ [])) (tables r))
    (ranges : (r : Rows) → InRange r → InRange (after r)) (Free : Rows → Type 0)
    (obeys : (r : Rows) → Holds old.now r → Free r → (held : old.now.trees bare.tree ≡ table_of cells (xs r)) (keeps : Keeps Unique desk_schema old.now.trees) (small : 1 + length (xs r) < 2 ^ 63)
    → Passes old.now.trees (uncounted bare) listed cells (xs r) x held keeps small) (actual : Row) (loose : (s : Row) × (value_rows actual width (length terms / width) terms ≡ s ∷ [])) (Fits : Type 0) (are : Fits → actual ≡ params) where
  pub changed_by : {result : Result (Unit {0}) RowFault} → HasWritten sql actual old new result → ChangesOf old new result Fits (λ r. Free r × (1 + length (xs r) < 2 ^ 63)) after
  changed_by {result} wrote = record {
    write = wrote.write;
    schema = λ sure inside has. ran_well result (wrote.runs sure inside) (schema_kept text actual old new has bare there loose.0 loose.1);
    made = λ sure inside fits r has. ran_well result (wrote.runs sure inside) (λ count ran.
        let did = row_added text params old new has.ten.schema bare there source one cells (xs r) x (stored r has) casts count (subst (λ p. Executes sql p old new (Ok count)) (are fits) ran) in
        holds_with old.now new.now r (after r) bare.tree (table_of cells (xs r ++ x ∷ [])) has did.0 did.3 (ranges r has.ten.in_range) did.2 did.1 (is_after r));
    in_order = λ sure inside unlimited fits r has free.
        insert_in_order text params old new has.ten.schema has.ten.sound bare there listed source one typed many_is unlimited cells (xs r) x (stored r has) casts free.1
        (obeys r has free.0 (stored r has) (keeps text params old new has.ten.schema has.ten.sound bare there listed source one typed many_is unlimited cells (xs r) x (stored r has) casts free.1) free.1)
        result (subst (λ p. IfErr result (λ fault. (e : Error) × (fault ≡ row_fault e) × ExecutesInside 0 sql p old new (Err e))) (are fits) (wrote.fails sure inside));
  }
