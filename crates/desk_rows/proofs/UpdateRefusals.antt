-- Why an UPDATE is refused, and that it never is where it changes one column of one row, which is in no key.
use Rattle.std.proofs.Common.{◌≡◌, ◌⊎◌, inl, inr, ℕ, zero, suc, ◌<◌, ◌^◌, ◌==◌, ◌&&◌, pos, List, [], ◌∷◌, filter, slice_get, Bool, true, false, not, Option, Some, None, Err, refl, sym, ap, subst, ◌∙◌, arith, true≢false, SFits, w64}
use Rattle.std.specs.List.{list_any, list_all}
use Rattle.std.proofs.lemmas.Bool.{and_from, and_parts, both_ways, eq-eqb, false_from_ne_true, not-true, not_from_false, or_parts}
use Rattle.std.proofs.lemmas.Int.{ints}
use Rattle.std.proofs.lemmas.Map.Views.{any-filter_same}
use Rattle.sqlite_value.specs.declared.value.Value.{Value}
use Rattle.sqlite_value.specs.declared.value.Value.TheVariants.{Null, Int}
use Rattle.sqlite_value.specs.declared.keys.Order.{Order}
use Rattle.sqlite_value.specs.Keys.{later}
use Rattle.sqlite_value.specs.Order.{Row, column}
use Rattle.sqlite_trees.specs.Tree.{Trees, IsAscending, rowid, has_rowid, put_row, with_tree, without_rowid}
use Rattle.sqlite_sql.specs.Query.{IsAnswer}
use Rattle.sqlite_sql.specs.Term.{Term}
use Rattle.sqlite_typed.proofs.RowLemmas.{fits_if}
use Rattle.sqlite_typing.specs.Types.{accepts_program}
use Rattle.sqlite_schema.specs.declared.program.Program.{Program}
use Rattle.sqlite_schema.specs.declared.schema.Among.TheVariants.{All}
use Rattle.sqlite_schema.specs.declared.schema.Constraint.TheVariants.{Datatype, NotNull, Check, PrimaryKey, Unique, ForeignKey}
use Rattle.sqlite_schema.specs.declared.schema.Index.{Index}
use Rattle.sqlite_schema.specs.declared.schema.Keys.TheVariants.{Enforced}
use Rattle.sqlite_schema.specs.declared.schema.Schema.{Schema}
use Rattle.sqlite_schema.specs.declared.schema.Table.{Table}
use Rattle.sqlite_schema.specs.Rules.{Keeps, agree, clashes, differ, guards}
use Rattle.sqlite_rules.specs.Calls.{ids_of}
use Rattle.sqlite_rules.specs.Edit.{Edit, IsRefused, are_fresh, edit_of, is_referred, is_taken}
use Rattle.sqlite_rules.specs.Keys.{are_unique}
use Rattle.sqlite_rules.specs.Lists.{Has}
use Rattle.sqlite_rules.specs.Steps.{PassAlone}
use Rattle.sqlite_rules.specs.declared.error.Refusal.{Refusal}
use Rattle.sqlite_rules.specs.declared.error.Refusal.TheVariants.{Violates, Mismatch, NoRowid, BadReference, TooDeep}
use Rattle.sqlite_rules.specs.declared.error.Rowids.TheVariants.{Given}
use Rattle.sqlite_rules.proofs.ListLemmas.{has_filtered, has_kept, some_from, some_has, test_from, test_has}
use Rattle.sqlite_rules.proofs.RuleLemmas.{Turns, keeps_at, unique_kept}
use Rattle.sqlite_rules.proofs.TableLemmas.{has_put, put_all_keeps, put_has}
use Rattle.sqlite.specs.Command.TheVariants.{Update}
use Rattle.sqlite.specs.Does.{Does, AtPlace, OnRows}
use Rattle.sqlite.specs.Program.{overlay}
use Rattle.sqlite.specs.Rows.{Task, Updates}
use Rattle.sqlite.specs.State.{State, mode_of}
use Rattle.sqlite.specs.declared.error.Error.{Error}
use Rattle.desk_rows.specs.Schema.{desk_schema, desk_tables}
use Rattle.desk_rows.proofs.Insertions.{differ_same, other_tree}
use Rattle.desk_rows.proofs.Lookups.{fold_stays}
use Rattle.desk_rows.proofs.ReadLemmas.{over_one}
use Rattle.desk_rows.proofs.RefusedLemmas.{no_work, not_oversized, refers, unset}

-- ---- what refused it is one of the rules

module _ (old : State) (params : Row) (at : ℕ) (table : Table) (terms project : List Term)
    (typed : accepts_program desk_schema [] (over_one table.tree terms project) params ≡ true) (unlimited : old.step_limit ≡ None) where
  abbrev program : Program
  program = record { lets = []; body = over_one table.tree terms project }

  abbrev task : Task
  task = record { limit = old.step_limit; keys = Enforced; schema = desk_schema; table = table; params = params }

  abbrev Cause : Type 0
  Cause = (rows : List Row) × IsAnswer (over_one table.tree terms project) (overlay old.now.trees []) params rows
      × (why : Refusal) × IsRefused desk_schema Enforced old.now.trees (edit_of old.now.trees table (ids_of rows) Given 1 rows) why

  updates : (stop : Option Error) (e : Error) → stop ≡ Some e → Updates task program params old.now.trees (Err stop) → Cause
  updates stop e some (inl (None, queried, eq)) = absurd queried
  updates stop e some (inl (Some s, inl mistyped, eq)) = absurd (true≢false (sym typed ∙ mistyped.1))
  updates stop e some (inl (Some s, inr (inl over), eq)) =
      absurd (elim over.1 [ inl none ↦ none | inr folds ↦ fold_stays (overlay old.now.trees []) (table.tree ∷ []) (params ∷ []) folds ])
  updates stop e some (inl (Some s, inr (inr limited), eq)) = absurd (unset old.step_limit unlimited limited.1)
  updates stop e some (inr (rows, given, inl (s, edits, eq))) =
      elim edits.1 [
        | inl refused ↦ (rows, given.answer Null, refused.0, refused.1)
        | inr (inl big) ↦ absurd (not_oversized edits.0 s stop e big.3 edits.2 eq some)
        | inr (inr went) ↦ absurd (no_work went.2.0 went.0 edits.0 went.2.1)
      ]
  updates stop e some (inr (rows, given, inr (next, edits, out))) = absurd cc

  does : (e : Error) → OnRows task (mode_of old) None (Update at program) old.now.trees (Err (Some e)) → Cause
  does e (inl (stop, wrote, eq)) = updates stop e (let x : stop ≡ Some e = cc in x) wrote
  does e (inr (w, wrote, inl (stop, tested, eq))) = absurd (tested.0 (refers All w.trees))
  does e (inr (w, wrote, inr (doubt, tested, inl (stop, returned, eq)))) = absurd cc
  does e (inr (w, wrote, inr (doubt, tested, inr (rows, returned, out)))) = absurd cc

  pub update_cause : slice_get desk_tables at ≡ Some table → (text : List ℕ) (e : Error)
      → Does old.step_limit (mode_of old) params (record old.now { schema = desk_schema }) text None (Update at program) (Err (Some e)) → Cause
  update_cause there text e h =
      does e (subst (λ o. AtPlace (λ t. OnRows (record task { table = t }) (mode_of old) None (Update at program) old.now.trees) o (Err (Some e))) there h)

-- ---- one column, which is in no key

-- the row with this value at this place
abbrev pub replaced : ℕ → Value → Row → Row
replaced n v [] = []
replaced zero v (x ∷ row) = v ∷ row
replaced (suc n) v (x ∷ row) = x ∷ replaced n v row

-- no unique index of the table has a column at the place
abbrev pub is_in_no_key : Schema → Table → ℕ → Bool
is_in_no_key schema table place = list_all (λ i. not (guards i table && list_any (λ p. p == place) i.columns)) schema.indexes

others_stay : (n p : ℕ) (v : Value) (row : Row) → (p ≡ n → ⊥) → column (replaced n v row) p ≡ column row p
others_stay n p v [] other = refl
others_stay zero zero v (x ∷ row) other = absurd (other refl)
others_stay zero (suc p) v (x ∷ row) other = refl
others_stay (suc n) zero v (x ∷ row) other = refl
others_stay (suc n) (suc p) v (x ∷ row) other = others_stay n p v row (λ e. other (ap suc e))

agree_still : (o : Order) (ps qs : List ℕ) (a : Row) (n : ℕ) (v : Value) (b : Row) → list_any (λ q. q == n) qs ≡ false
    → agree o ps a qs (replaced n v b) ≡ true → agree o ps a qs b ≡ true
agree_still o [] [] a n v b free h = h
agree_still o [] (q ∷ qs) a n v b free h = h
agree_still o (p ∷ ps) [] a n v b free h = h
agree_still o (p ∷ ps) (q ∷ qs) a n v b free h =
    let parts = and_parts _ _ h in
    let apart = or_parts (q == n) (list_any (λ q. q == n) qs) free in
    let same : column (replaced n v b) q ≡ column b q = others_stay n q v b (λ e. both_ways _ apart.0 (eq-eqb q n e)) in
    and_from _ _ (rw (← same) parts.0) (agree_still (later o) ps qs a n v b apart.1 parts.1)

module _ (schema : Schema) (apart : IsAscending (λ (a b : Table). a.tree ≡ b.tree → ⊥) schema.tables)
    (db : Trees) (table : Table) (listed : Has schema.tables table) (keeps : Keeps Unique schema db)
    (m : ℕ) (was cells : Row) (stood : Has (db table.tree) (Int (pos m) ∷ was)) where
  abbrev old_row : Row
  old_row = Int (pos m) ∷ was

  abbrev new_row : Row
  new_row = Int (pos m) ∷ cells

  -- the row is put again at its number
  abbrev pub change : Edit
  change = record { table = table; gone = pos m ∷ []; news = new_row ∷ [] }

  pub record Passes : Type 0 where
    pub alone : PassAlone table (new_row ∷ [])
    pub place : ℕ
    pub value : Value
    pub one_column : new_row ≡ replaced place value old_row
    pub in_no_key : is_in_no_key schema table place ≡ true
    pub referred : is_referred schema Enforced change ≡ true
    pub small : m < 2 ^ 63

  abbrev left : List Row
  left = without_rowid (pos m) (db table.tree)

  abbrev gone : List Row
  gone = filter (has_rowid (pos m)) (db table.tree)

  abbrev changed : Trees
  changed = with_tree db table.tree (put_row new_row left)

  fresh : are_fresh left (new_row ∷ []) ≡ true
  fresh =
      let free : is_taken left new_row ≡ false =
      any-filter_same (has_rowid (pos m)) (λ r. not (has_rowid (pos m) r)) false (λ r is. ap not is) (db table.tree) in
      rw free refl

  set_tree : changed table.tree ≡ put_row new_row left
  set_tree = rw (eq-eqb table.tree table.tree refl) refl

  turn : Turns schema db changed table left gone (new_row ∷ [])
  turn = record {
    apart = apart;
    listed = listed;
    others = λ t known other. other_tree db table.tree (put_row new_row left) t.tree other;
    from = λ r there. elim (put_has new_row left r (rw set_tree at there)) [ inl is ↦ inl (inl is) | inr kept ↦ inr kept ];
    stays = λ r there. rw set_tree (put_all_keeps (new_row ∷ []) left r fresh there);
    added = λ r there. rw set_tree (elim there [ inl is ↦ subst (Has (put_row new_row left)) (sym is) (has_put new_row left) | inr none ↦ absurd none ]);
    was = λ r there. (has_filtered _ (db table.tree) r there).0;
    split = λ r there. either r there (has_rowid (pos m) r) refl;
  }
    where
      either : (r : Row) → Has (db table.tree) r → (b : Bool) → has_rowid (pos m) r ≡ b → Has left r ⊎ Has gone r
      either r there true is = inr (has_kept (has_rowid (pos m)) (db table.tree) r there is)
      either r there false is = inl (has_kept (λ x. not (has_rowid (pos m) x)) (db table.tree) r there (ap not is))

  module _ (obeys : Passes) where
    -- what would clash with the new row clashed with the old one
    no_clash : (i : Index) → Has schema.indexes i → guards i table ≡ true → clashes i.order i.columns (changed table.tree) new_row ≡ true → ⊥
    no_clash i known on clash =
        let other = some_has _ (changed table.tree) clash in
        let parts = and_parts _ _ other.2 in
        let spared = not-true _ (test_has _ schema.indexes i obeys.in_no_key known) in
        let free : list_any (λ p. p == obeys.place) i.columns ≡ false = rw on at spared in
        let agreed = subst (λ r. agree i.order i.columns other.0 i.columns r ≡ true) obeys.one_column parts.0 in
        elim (turn.from other.0 other.1) [
          | inl (inl is) ↦ true≢false (sym parts.1 ∙ ap (λ r. differ (rowid r) (Int (pos m))) is ∙ differ_same m)
          | inl (inr none) ↦ none
          | inr kept ↦
              both_ways _ (not-true _ (test_has _ schema.indexes i (keeps_at Unique schema db table old_row keeps listed stood) known))
              (and_from _ _ on (some_from _ (db table.tree) other.0 (turn.was other.0 kept)
              (and_from _ _ (agree_still i.order i.columns i.columns other.0 obeys.place obeys.value old_row free agreed) parts.1)))
        ]

    unique : are_unique schema.indexes changed table (new_row ∷ []) ≡ true
    unique = test_from _ schema.indexes (λ i known. not_from_false _ (false_from_ne_true _ (λ both.
        let parts = and_parts _ _ both in
        let row = some_has (clashes i.order i.columns (changed table.tree)) (new_row ∷ []) parts.1 in
        elim row.1 [
          | inl is ↦ no_clash i known parts.0 (subst (λ r. clashes i.order i.columns (changed table.tree) r ≡ true) is row.2)
          | inr none ↦ none
        ])))

    fits : SFits w64 (pos m)
    fits = let low = obeys.small in omega (ints, arith, low)

    pub not_refused : (why : Refusal) → IsRefused schema Enforced db change why → ⊥
    not_refused (Violates Datatype) h = true≢false (sym obeys.alone.typed ∙ h)
    not_refused (Violates NotNull) h = true≢false (sym obeys.alone.present ∙ h)
    not_refused (Violates Check) h = true≢false (sym obeys.alone.checked ∙ h)
    not_refused (Violates PrimaryKey) h = true≢false (sym fresh ∙ h)
    not_refused (Violates Unique) h = h (unique_kept schema db changed table left gone (new_row ∷ []) turn unique keeps)
    not_refused (Violates ForeignKey) h = h
    not_refused Mismatch h = true≢false h
    not_refused NoRowid h = true≢false (sym (ap (λ b. b && true) (fits_if (pos m) fits)) ∙ h)
    not_refused BadReference h = true≢false (sym obeys.referred ∙ h)
    not_refused TooDeep h = h
