-- What the query of the row of meta shows.
use Rattle.std.proofs.Common.{◌≡◌, ◌⊎◌, inl, inr, ℕ, suc, ℤ, List, [], ◌∷◌, map, length, take, Option, Some, None, true, refl, sym, ap, subst, ◌∙◌, arith, true≢false}
use Rattle.std.specs.Prelude.{IsSome}
use Rattle.std.specs.List.Sorted.{IsPermutation}
use Rattle.sqlite_value.specs.declared.value.Value.TheVariants.{Null}
use Rattle.sqlite_value.specs.Order.{Row, column}
use Rattle.sqlite_schema.specs.declared.schema.Table.{Table}
use Rattle.sqlite_schema.specs.declared.schema.Index.{Index}
use Rattle.sqlite_schema.specs.declared.schema.Schema.{Schema}
use Rattle.sqlite_sql.specs.Query.{IsAnswer, output, page, Output}
use Rattle.sqlite.specs.Command.{Command}
use Rattle.sqlite.specs.Command.TheVariants.{Select}
use Rattle.sqlite.specs.Clock.{timed}
use Rattle.sqlite_typing.specs.Types.{accepts_program}
use Rattle.sqlite_sql.proofs.QueryLemmas.{no_fold_overflows}
use Rattle.sqlite.specs.Program.{overlay}
use Rattle.sqlite.specs.declared.error.Error.{Error}
use Rattle.sqlite.specs.Effect.{Database, RefusesToRead}
use Rattle.sqlite.specs.Listing.{understood, reads_listing, IsSourceOf}
use Rattle.sqlite.specs.State.{State, Shown, FailsToQuery, Survives, CommitsShowing, IsUnchanged, IsRolledBack}
use Rattle.sqlite.proofs.Callers.{IsPlain, reads_as, one_permutation, never_commits}
use Rattle.sqlite.proofs.StateLemmas.{survives_weaker}
use Rattle.registry_core.specs.Settings.{Settings}
use Rattle.desk_rows.specs.declared.faults.RowFault.TheVariants.{Memory, Disk, Size, Row as OutOfRange, Refused}
use Rattle.desk_rows.specs.declared.faults.RowFault.{RowFault}
use Rattle.desk_rows.proofs.FaultLemmas.{not_row}
use Rattle.desk_rows.specs.Schema.{meta_table, meta_tree}
use Rattle.desk_rows.specs.Faults.{is_odd, row_fault}
use Rattle.desk_rows.specs.Meta.{HasMeta, TellsMeta}
use Rattle.desk_rows.specs.steps.Meta.{TellsRow}
use Rattle.desk_rows.proofs.MetaTexts.{find_text, find_query, find_is, find_plain, find_whole, find_typed, names, beside}
use Rattle.desk_rows.proofs.QueryLemmas.{shown_leaves, fails_leave}
use Rattle.desk_rows.proofs.ReadLemmas.{answer_count, passing}
use Rattle.desk_rows.proofs.Unrefused.{not_refused}

first_is : (tables : List Table) → take 1 tables ≡ meta_table ∷ [] → (more : List Table) × (tables ≡ meta_table ∷ more)
first_is [] h = absurd cc
first_is (t ∷ ts) h = (ts, let same : t ≡ meta_table = cc in ap (λ x. x ∷ ts) same)

known : (s : Schema) → HasMeta s → (more : List Table) × (s ≡ beside more s.indexes)
known s has = let first = first_is s.tables has.first in (first.0, λ i. record { tables = first.1 i; indexes = s.indexes; views = has.no_views i })

-- what the query shows of a row
abbrev shown : Row → Row
shown r = column r 0 ∷ column r 2 ∷ column r 3 ∷ column r 4 ∷ column r 5 ∷ column r 6 ∷ []

module _ (old new : State) (has : HasMeta old.now.schema) where
  abbrev rest : List Table
  rest = (known old.now.schema has).0

  abbrev indexes : List Index
  indexes = old.now.schema.indexes

  abbrev is : old.now.schema ≡ beside rest indexes
  is = (known old.now.schema has).1

  plain : IsPlain (understood old.now.schema find_text)
  plain = subst (λ s. IsPlain (understood s find_text)) (sym is) (find_plain rest indexes)

  answer : (rows : List Row) → Shown find_text [] old new rows → IsAnswer find_query (overlay old.now.trees []) [] rows
  answer rows h = (reads_as find_text [] old new (beside rest indexes) is _ (find_is rest indexes).0 (find_plain rest indexes) (find_is rest indexes).1 rows h).answer Null

  alone : (row : Row) (stored : List Row) → old.now.trees meta_tree ≡ stored → (rows : List Row) → rows ≡ row ∷ [] → Shown find_text [] old new rows → (r : Row) × (old.now.trees meta_tree ≡ r ∷ []) × (row ≡ shown r)
  alone row [] at rows one h = absurd (let many = answer_count 0 [] find_query.project (overlay old.now.trees []) [] rows (answer rows h) in
      let none : length (passing [] [] (old.now.trees meta_tree)) ≡ 0 = rw at refl in omega (arith, many, none, ap length one))
  alone row (r ∷ []) at rows one h =
      let a = answer rows h in
      let staged : a.staged ≡ ([] ∷ r ∷ []) ∷ [] = a.grouped ∙ rw at in
      let o : Output = ([], shown r) in
      let kept : a.kept ≡ o ∷ [] = a.distinct ∙ ap (map (output find_query)) staged in
      let ordered = one_permutation o a.ordered (subst (λ k. IsPermutation k a.ordered) kept a.same) in
      let all : rows ≡ shown r ∷ [] = a.shown ∙ ap (λ xs. page find_query [] (map (λ (p : Output). p.1) xs)) ordered in
      (r, at, let both = sym one ∙ all in cc)
  alone row (r ∷ s ∷ more) at rows one h = absurd (let many = answer_count 0 [] find_query.project (overlay old.now.trees []) [] rows (answer rows h) in
      let two : length (passing [] [] (old.now.trees meta_tree)) ≡ suc (suc (length (passing [] [] more))) = rw at refl in omega (arith, many, two, ap length one))

  pub told : (row : Row) (version : ℤ) (c : Settings) (rows : List Row) → rows ≡ row ∷ [] → Shown find_text [] old new rows → TellsRow row version c → TellsMeta old.now.trees version c
  told row version c rows one h tells =
      let it = alone row (old.now.trees meta_tree) refl rows one h in
      let t = subst (λ x. TellsRow x version c) it.2 tells in
      record { row = it.0; one = it.1; id = t.id; version_is = t.version_is; receiver = t.receiver; operator = t.operator; base = t.base; addresses = t.addresses; config = t.config }

  pub untold : (rows : List Row) → Shown find_text [] old new rows → ((row : Row) → rows ≡ row ∷ [] → (version : ℤ) (c : Settings) → ¬ TellsRow row version c)
      → (version : ℤ) (c : Settings) → ¬ TellsMeta old.now.trees version c
  untold rows h never version c t =
      let many = answer_count 0 [] find_query.project (overlay old.now.trees []) [] rows (answer rows h) in
      let one : length (passing [] [] (old.now.trees meta_tree)) ≡ 1 = rw t.one refl in
      let single = single_of rows (many ∙ one) in
      let it = alone single.0 (old.now.trees meta_tree) refl rows single.1 h in
      let both : ◌≡◌ {A = List Row} (it.0 ∷ []) (t.row ∷ []) = sym it.1 ∙ t.one in
      let same : it.0 ≡ t.row = cc in
      never single.0 single.1 version c (rw (it.2, same) (record { id = t.id; version_is = t.version_is; receiver = t.receiver; operator = t.operator; base = t.base; addresses = t.addresses; config = t.config }))
    where
      single_of : (xs : List Row) → length xs ≡ 1 → (x : Row) × (xs ≡ x ∷ [])
      single_of [] e = absurd (omega (arith, e))
      single_of (x ∷ []) e = (x, refl)
      single_of (x ∷ y ∷ more) e = absurd (omega (arith, e))

  pub leaves_ok : (rows : List Row) → Shown find_text [] old new rows → IsUnchanged old new
  leaves_ok rows h = shown_leaves find_text [] old new rows plain h

  pub leaves_err : (e : Error) → FailsToQuery find_text [] old new e → IsUnchanged old new ⊎ IsRolledBack old new
  leaves_err e h = fails_leave find_text [] old new e plain h

  pub survives : Survives old new (CommitsShowing find_text [] old) → Survives old new (λ _. ⊥)
  survives s = survives_weaker old new _ _ (λ _ db. never_commits find_text [] old db plain) s

  refuses : old.step_limit ≡ None → (e : Error) (db : Database) → db ≡ old.now → RefusesToRead old.step_limit (Select (record { lets = []; body = find_query }) names) db [] e → ⊥
  refuses unlimited e db same (inl mistyped) = let typed = ap (λ s. accepts_program s [] find_query []) (ap (λ (d : Database). d.schema) same ∙ is) ∙ find_typed rest indexes in true≢false (sym typed ∙ mistyped.1)
  refuses unlimited e db same (inr (inl (eq, inl grouped))) = grouped
  refuses unlimited e db same (inr (inl (eq, inr folded))) = no_fold_overflows (overlay db.trees []) find_query.from ([] ∷ []) refl folded
  refuses unlimited e db same (inr (inr (eq, limited))) = never old.step_limit unlimited limited
    where
      never : (l : Option ℕ) → l ≡ None → IsSome l → ⊥
      never None e h = let x = h in cc
      never (Some n) e h = cc

  pub unrefused : old.step_limit ≡ None → (e : Error) → row_fault e ≡ Refused → FailsToQuery find_text [] old new e → ⊥
  unrefused unlimited e told h =
      let w = find_whole rest indexes in
      not_refused find_text [] old new (beside rest indexes) is w.0 w.1 w.2 w.3 w.4
      (λ e time db source fault. refuses unlimited e db (subst (λ b. IsSourceOf b old.now db) (ap (λ s. reads_listing s find_text) is ∙ (find_is rest indexes).1) source)
      (let a = subst (λ (k : Command). RefusesToRead old.step_limit k db (timed [] w.0.formats time) e) w.5 fault in rw w.2.1 at a)) e told h

  pub never_odd : old.step_limit ≡ None → (e : Error) → is_odd (row_fault e) ≡ true → FailsToQuery find_text [] old new e → ⊥
  never_odd unlimited e odd h = go (row_fault e) refl odd
    where
      go : (fault : RowFault) → row_fault e ≡ fault → is_odd fault ≡ true → ⊥
      go Memory told odd = true≢false (sym odd)
      go Disk told odd = true≢false (sym odd)
      go Size told odd = true≢false (sym odd)
      go OutOfRange told odd = not_row e told
      go Refused told odd = unrefused unlimited e told h
