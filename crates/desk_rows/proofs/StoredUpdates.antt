-- An UPDATE of one column of one row of a `Stored` table: what it changes, and that it is refused only where the row is missing.
use Rattle.std.proofs.Common.{◌≡◌, ℕ, ◌<◌, ◌^◌, ◌==◌, pos, List, [], ◌∷◌, filter, length, slice_get, Bool, true, Some, Result, refl, sym, ap, subst, ◌∙◌}
use Rattle.std.specs.List.{list_all, AllByRecursion}
use Rattle.std.proofs.lemmas.Bool.{and_parts}
use Rattle.sqlite_value.specs.declared.value.Value.{Value}
use Rattle.sqlite_value.specs.declared.value.Value.TheVariants.{Int}
use Rattle.sqlite_value.specs.Keys.{plain}
use Rattle.sqlite_value.specs.Order.{Row}
use Rattle.sqlite_sql.specs.Term.{Term, col, holds, eval_all}
use Rattle.sqlite_schema.specs.declared.schema.Index.{Index}
use Rattle.sqlite_schema.specs.declared.schema.Keys.TheVariants.{Enforced}
use Rattle.sqlite_schema.specs.Rules.{agree, guards}
use Rattle.sqlite_rules.specs.Cast.{cast_row}
use Rattle.sqlite_rules.specs.Edit.{is_referred}
use Rattle.sqlite_rules.specs.Lists.{Has}
use Rattle.sqlite_rules.proofs.ListLemmas.{all_has, has_got}
use Rattle.sqlite_typing.specs.Types.{accepts_program}
use Rattle.sqlite.specs.State.{State}
use Rattle.sqlite_keyed.specs.Lists.{update_where}
use Rattle.registry_core.specs.Numbered.{item_at, item_changed}
use Rattle.desk_rows.specs.Calls.{ChangesOf}
use Rattle.desk_rows.specs.Rows.{Rows, Holds, InRange}
use Rattle.desk_rows.specs.Schema.{desk_indexes, desk_schema, desk_tables}
use Rattle.desk_rows.specs.declared.faults.RowFault.{RowFault}
use Rattle.desk_rows.specs.order.Keys.{HasOnly}
use Rattle.desk_rows.specs.steps.Statements.{HasWritten}
use Rattle.desk_rows.proofs.ChangedRows.{all_changed, changed_at, changed_where, numbered_changed}
use Rattle.desk_rows.proofs.NumberedUpdates.{one_numbered}
use Rattle.desk_rows.proofs.OneWithKey.{few_with_key, numbered_below, one_of_few}
use Rattle.desk_rows.proofs.Ordered.{encode, zip_all, zip_from}
use Rattle.desk_rows.proofs.ReadLemmas.{over_one}
use Rattle.desk_rows.proofs.Stored.{Keyed, Stored, agrees, all_same, same_row}
use Rattle.desk_rows.proofs.UpdateLemmas.{AreFew, few_numbers}
use Rattle.desk_rows.proofs.UpdateRefusals.{is_in_no_key, replaced}
use Rattle.desk_rows.proofs.Updating.{IsUpdate, changed_by}

module _ {X : Type 0} {Fits : X → Type 0} (t : Stored X Fits) {sql : List ℕ} {many : ℕ} {terms project : List Term} (text : IsUpdate sql many t.at t.table terms project) (params : Row)
    (typed : accepts_program desk_schema [] (over_one t.table.tree terms (col 1 0 ∷ project)) params ≡ true) (many_is : length params ≡ many)
    (f : X → X) (kept : (x : X) → Fits x → Fits (f x)) (changed : (b : ℕ × X) → eval_all project (params ∷ encode t.cells b ∷ []) ≡ encode t.cells (b.0, f b.1))
    (place : ℕ) (value : X → Value) (one_column : (m : ℕ) (x : X) → Int (pos m) ∷ t.cells (f x) ≡ replaced place (value x) (Int (pos m) ∷ t.cells x)) (in_no_key : is_in_no_key desk_schema t.table place ≡ true)
    (referred : (m : ℕ) (cells : Row) → is_referred desk_schema Enforced (record { table = t.table; gone = pos m ∷ []; news = (Int (pos m) ∷ cells) ∷ [] }) ≡ true) where
  -- of the rows that pass: at most one, and just one if `May` is true
  changes : {old new : State} (p : ℕ × X → Bool) → ((b : ℕ × X) → list_all (holds (params ∷ encode t.cells b ∷ [])) terms ≡ p b) → ((r : Rows) → Holds old.now r → AreFew (filter p (zip_from 1 (t.rows r))))
      → (ys : Rows → List X) → ((r : Rows) → Holds old.now r → numbered_changed p f 1 (t.rows r) ≡ ys r) → ((r : Rows) → InRange r → AllByRecursion Fits (ys r)) → (May : Rows → Type 0)
      → ((r : Rows) → Holds old.now r → May r → (b : ℕ × X) × (filter p (zip_from 1 (t.rows r)) ≡ b ∷ []) × (b.0 < 2 ^ 63)) → {result : Result (Unit {0}) RowFault} → HasWritten sql params old new result
      → ChangesOf old new result (Unit {0}) May (λ r. t.put r (ys r))
  changes {old} {new} p tests few ys done fits May found = changed_by text params old new t.computes.4 (has_got desk_tables t.at _ t.computes.4) typed many_is t.cells t.rows (λ r has. t.held old.now r has) p tests f
      (λ b. ap (cast_row t.table) (changed b) ∙ same_row t b.0 (f b.1)) few ys done (λ r. t.put r (ys r)) (λ r. t.computes.1 r (ys r)) (λ r h. t.in_range r (ys r) h (fits r h)) May
      (λ r has may.
      let one = found r has may in (
        one.0,
        one.1,
        λ keeps stood.
            let a = and_parts _ _ (t.computes.2 old.now.trees one.0.0 (f one.0.1)) in
            let b = and_parts _ _ a.1 in
            let c = and_parts _ _ b.1 in
            let d = and_parts _ _ c.1 in
            record {
              alone = record { typed = b.0; present = c.0; checked = d.0 };
              place = place;
              value = value one.0.1;
              one_column = one_column one.0.0 one.0.1;
              in_no_key = in_no_key;
              referred = referred one.0.0 (t.cells (f one.0.1));
              small = one.2;
            },
      ))

  -- the row with the number
  pub changes_at : (n : ℕ) → n < 2 ^ 63 → ((b : ℕ × X) → list_all (holds (params ∷ encode t.cells b ∷ [])) terms ≡ (b.0 == n)) → {old new : State} {result : Result (Unit {0}) RowFault} → HasWritten sql params old new result
      → ChangesOf old new result (Unit {0}) (λ r. (row : X) × (item_at (t.rows r) n ≡ Some row)) (λ r. t.put r (item_changed f (t.rows r) n))
  changes_at n small tests = changes (λ b. b.0 == n) tests (λ r has. few_numbers n 1 (t.rows r)) (λ r. item_changed f (t.rows r) n) (λ r has. changed_at f n (t.rows r))
      (λ r h. subst (AllByRecursion Fits) (changed_at f n (t.rows r)) (all_changed (λ b. b.0 == n) f Fits kept 1 (t.rows r) (t.ranges r h)))
      (λ r. (row : X) × (item_at (t.rows r) n ≡ Some row)) (λ r has may. ((n, may.0), one_numbered n (t.rows r) may.0 may.1, small))

  -- the row with the key
  module _ {K : Type 0} {Known : K → Type 0} (key : Keyed t K Known) (index : Index) (at : ℕ) (there : slice_get desk_indexes at ≡ Some index) (ordered : index.order ≡ plain) (columns : index.columns ≡ key.places)
      (guarded : guards index t.table ≡ true) (k : K) (known : Known k) (is_key : (x : X) → key.has k x ≡ true → key.key_of x ≡ k) where
    abbrev test : ℕ × X → Bool
    test b = all_same (key.values (key.key_of b.1)) (key.values k)

    alike : (x : X) → Fits x → all_same (key.values (key.key_of x)) (key.values k) ≡ key.has k x
    alike x fits = key.tells k x known fits

    module _ (old : State) (r : Rows) (has : Holds old.now r) where
      fits_at : (b : ℕ × X) → Has (zip_from 1 (t.rows r)) b → Fits b.1
      fits_at b there = all_has (λ (b : ℕ × X). Fits b.1) (zip_from 1 (t.rows r)) b (zip_all Fits 1 (t.rows r) (t.ranges r has.ten.in_range)) there

      agreed : (b c : ℕ × X) → Has (zip_from 1 (t.rows r)) b → Has (zip_from 1 (t.rows r)) c → test b ≡ true → test c ≡ true
          → agree index.order index.columns (encode t.cells b) index.columns (encode t.cells c) ≡ true
      agreed b c at_b at_c is_b is_c =
          let b_fits = fits_at b at_b in
          let c_fits = fits_at c at_c in
          let c_is : key.key_of c.1 ≡ k = is_key c.1 (sym (alike c.1 c_fits) ∙ is_c) in
          rw (ordered, columns) (agrees t key c.1 c_fits b.0 c.0 b.1 b_fits ∙ ap (λ j. key.has j b.1) c_is ∙ sym (alike b.1 b_fits) ∙ is_b)

      few_keys : AreFew (filter test (zip_from 1 (t.rows r)))
      few_keys = few_with_key old.now has.ten.schema has.ten.sound t.table (has_got desk_tables t.at _ t.computes.4) index (has_got desk_indexes at index there) guarded t.cells (t.rows r) (t.held old.now r has) test agreed

    pub changes_key : ((b : ℕ × X) → list_all (holds (params ∷ encode t.cells b ∷ [])) terms ≡ test b) → {old new : State} {result : Result (Unit {0}) RowFault} → HasWritten sql params old new result
        → ChangesOf old new result (Unit {0}) (λ r. HasOnly (key.has k) (t.rows r) × (length (t.rows r) < 2 ^ 63)) (λ r. t.put r (update_where (key.has k) f (t.rows r)))
    changes_key tests {old} = changes test tests (few_keys old) (λ r. update_where (key.has k) f (t.rows r))
        (λ r has. changed_where Fits test (key.has k) f (λ b b_fits. alike b.1 b_fits) 1 (t.rows r) (t.ranges r has.ten.in_range))
        (λ r h. subst (AllByRecursion Fits) (changed_where Fits (λ b. key.has k b.1) (key.has k) f (λ b b_fits. refl) 1 (t.rows r) (t.ranges r h)) (all_changed (λ b. key.has k b.1) f Fits kept 1 (t.rows r) (t.ranges r h)))
        (λ r. HasOnly (key.has k) (t.rows r) × (length (t.rows r) < 2 ^ 63))
        (λ r has may.
        let one = one_of_few Fits (λ x. all_same (key.values (key.key_of x)) (key.values k)) (key.has k) alike (t.rows r) (t.ranges r has.ten.in_range) (few_keys old r has) may.0 in
        (one.0, one.1, numbered_below test (t.rows r) one.0 one.1 may.1))
