-- Queries of many rows: what is true of all rows of an answer, and of those ordered by start.
use Rattle.std.proofs.Common.{◌≡◌, inl, inr, ℕ, pos, List, [], ◌∷◌, ◌++◌, map, filter, length, Bool, true, false, Vec, None, Ok, Err, Result, IfOk, IfErr, refl}
use Rattle.std.proofs.Common.{sym, ap, subst, ◌∙◌, map-id, ◌<◌, ◌^◌, Ordering, Less, Equal, int_cmp}
use Rattle.std.specs.declared.alloc.Global.{Global}
use Rattle.std.specs.List.{list_all, AllByRecursion}
use Rattle.std.specs.Ordering.{ordering_then}
use Rattle.std.specs.Prelude.{ℤ}
use Rattle.std.specs.Result.{is_ok}
use Rattle.sqlite_value.specs.declared.keys.Key.{Key}
use Rattle.sqlite_value.specs.Order.{Row}
use Rattle.sqlite_trees.specs.Tree.{Trees}
use Rattle.sqlite_sql.specs.Term.{Term, holds, eval_all}
use Rattle.sqlite_sql.specs.Query.{IsAnswer, output, output_cmp}
use Rattle.sqlite_trees.proofs.ListLemmas.{map-map}
use Rattle.sqlite_keyed.specs.Lists.{sort_by}
use Rattle.sqlite_typed.proofs.AnswerLemmas.{IsNoTie, no_tie, no_tie_after}
use Rattle.sqlite_typing.specs.Types.{accepts_program}
use Rattle.sqlite.specs.declared.error.Error.{Error}
use Rattle.sqlite.specs.Effect.{Database}
use Rattle.sqlite.specs.Program.{overlay}
use Rattle.sqlite.specs.State.{State, Begins, FailsToQuery}
use Rattle.sqlite.proofs.Callers.{never_commits}
use Rattle.sqlite.proofs.StateLemmas.{survives_weaker}
use Rattle.duty_core.specs.Range.{IsStart}
use Rattle.duty_core.specs.Use.{Interval}
use Rattle.desk_rows.specs.Calls.{StaysOrRollsBack, ReadsRows}
use Rattle.desk_rows.specs.Faults.{row_fault, is_odd, IsEven}
use Rattle.desk_rows.specs.Rows.{Rows, Holds, table_of}
use Rattle.desk_rows.specs.Schema.{desk_schema}
use Rattle.desk_rows.specs.order.Arranged.{by_start, spans_by}
use Rattle.desk_rows.specs.order.LookUps.{rows_by}
use Rattle.desk_rows.specs.steps.Queries.{AreRead, EndsWith, FindsAll}
use Rattle.desk_rows.specs.steps.Shown.{span_shown}
pub use Rattle.desk_rows.specs.steps.Texts.{all_by}
use Rattle.desk_rows.specs.declared.faults.RowFault.{RowFault}
use Rattle.desk_rows.specs.declared.faults.RowFault.TheVariants.{Memory, Disk, Size, Row as OutOfShape, Refused}
use Rattle.desk_rows.proofs.FaultLemmas.{not_row}
use Rattle.desk_rows.proofs.Lookups.{IsLookup, begun_answers, never_refused, plain_now, says_so, shown_answers}
use Rattle.desk_rows.proofs.OrderLemmas.Counting.{filter_alike}
use Rattle.desk_rows.proofs.OrderLemmas.Each.{all_kept, all_map, all_so}
use Rattle.desk_rows.proofs.OrderLemmas.Sorting.{all_sorted}
use Rattle.desk_rows.proofs.Ordered.{Asked, query_of, encode, zip_all, zip_from, rows_sorted}
use Rattle.desk_rows.proofs.QueryLemmas.{fails_leave, shown_leaves}

-- ---- what is read of the rows

module _ {T Seen : Type 0} (seen : T → Seen) (shows : Seen → Row) (Fits : Seen → Type 0) where
  read_are : (want : List Seen) (xs : List T) → AllByRecursion Fits want → AreRead seen shows Fits (map shows want) xs → map seen xs ≡ want
  read_are [] [] fit h = refl
  read_are (y ∷ want) (x ∷ xs) fit h = let first = h.0 y fit.0 refl in let more = read_are want xs fit.1 h.1 in (λ i. first i ∷ more i)
  read_are [] (x ∷ xs) fit h = absurd h
  read_are (y ∷ want) [] fit h = absurd h

  -- a row among them shows one that is wanted
  shown_among : (want : List Seen) (given : List Row) (row : Row) (tail : List Row) → AllByRecursion Fits want → (given ++ row ∷ []) ++ tail ≡ map shows want
      → (y : Seen) × Fits y × (row ≡ shows y)
  shown_among [] [] row tail fit is = absurd cc
  shown_among [] (r ∷ given) row tail fit is = absurd cc
  shown_among (y ∷ want) [] row tail fit is = (y, fit.0, let same : row ≡ shows y = cc in same)
  shown_among (y ∷ want) (r ∷ given) row tail fit is = let rest : (given ++ row ∷ []) ++ tail ≡ map shows want = cc in
      shown_among want given row tail fit.1 rest

-- all rows of an answer are those that are wanted
abbrev pub AreAll : {trees : List ℕ} {Seen : Type 0} → Asked trees → Row → Trees → (Seen → Row) → (Seen → Type 0) → List Seen → Type 0
AreAll a params db shows Fits want = AllByRecursion Fits want × ((rows : List Row) → IsAnswer (query_of a) db params rows → rows ≡ map shows want)

module _ {sql : List ℕ} {many : ℕ} {trees : List ℕ} {a : Asked trees} (text : IsLookup sql many a) (params : Row) (old new : State) (has : old.now.schema ≡ desk_schema)
    {T Seen : Type 0} (seen : T → Seen) (shows : Seen → Row) (Fits : Seen → Type 0) where
  abbrev End : Result (Vec T Global) RowFault → Type 0
  End = EndsWith sql params old new seen shows Fits

  left : (result : Result (Vec T Global) RowFault) → End result → StaysOrRollsBack (is_ok result) old new
  left (Ok all) h = shown_leaves sql params old new h.0 (plain_now text params old new has) h.1
  left (Err fault) (inl failed) = fails_leave sql params old new failed.0 (plain_now text params old new has) failed.2
  left (Err fault) (inr up) = inl up.0

  module _ (want : List Seen) (are : AreAll a params (overlay old.now.trees []) shows Fits want) where
    told : (result : Result (Vec T Global) RowFault) → End result → IfOk result (λ all. map seen all.items ≡ want)
    told (Ok all) h =
        let is = are.1 h.0 (shown_answers text params old new has h.0 h.1) in
        read_are seen shows Fits want all.items are.0 (subst (λ rows. AreRead seen shows Fits rows all.items) is h.2)
    told (Err fault) h = tt

    module _ (many_is : many ≡ length params) (typed : accepts_program desk_schema [] (query_of a) params ≡ true) (unlimited : old.step_limit ≡ None) where
      even_error : (e : Error) → FailsToQuery sql params old new e → (f : RowFault) → row_fault e ≡ f → is_odd f ≡ false
      even_error e fails Memory is = refl
      even_error e fails Disk is = refl
      even_error e fails Size is = refl
      even_error e fails OutOfShape is = absurd (not_row e is)
      even_error e fails Refused is = absurd (never_refused text params old new has many_is typed unlimited e is fails)

      even : (result : Result (Vec T Global) RowFault) → End result → IfErr result IsEven
      even (Ok all) h = tt
      even (Err fault) (inl failed) = even_error failed.0 failed.2 fault (sym failed.1)
      even (Err fault) (inr (same, inl short)) = short
      even (Err fault) (inr (same, inr up)) =
          let back = subst (λ (d : Database). Begins sql params (record new { now = d }) (up.0 ++ up.1 ∷ [])) same.0.now_is up.2 in
          let got = begun_answers text params (record new { now = old.now }) new has (up.0 ++ up.1 ∷ []) back in
          let shown = shown_among seen shows Fits want up.0 up.1 got.0 are.0 (are.1 _ got.1) in
          up.3 shown.0 shown.1 shown.2

pub reads_all : {sql : List ℕ} {many : ℕ} {trees : List ℕ} {a : Asked trees} (text : IsLookup sql many a) (params : Row) {old new : State} → many ≡ length params
    → accepts_program desk_schema [] (query_of a) params ≡ true
    → {T Seen : Type 0} {seen : T → Seen} {shows : Seen → Row} {Fits : Seen → Type 0} {result : Result (Vec T Global) RowFault}
    → FindsAll sql params old new seen shows Fits result
    → (want : Rows → List Seen) → ((r : Rows) → Holds old.now r → AreAll a params (overlay old.now.trees []) shows Fits (want r)) → ReadsRows old new result
    (λ r all. map seen all.items ≡ want r)
reads_all {sql} text params {old} {new} many_is typed {seen = seen} {shows = shows} {Fits = Fits} {result = result} found want are = record {
  read = record {
    clean = found.survives.clean;
    mode = found.mode;
    survives = λ has up sure. survives_weaker _ _ _ _ (λ _ db. never_commits sql params old db (plain_now text params old new has)) found.survives;
    leaves = λ has up sure. left text params old new has seen shows Fits result (found.ends (plain_now text params old new has) sure);
  };
  told = λ sure r has. told text params old new has.ten.schema seen shows Fits (want r) (are r has) result
      (found.ends (plain_now text params old new has.ten.schema) sure);
  in_order = λ sure unlimited r has.
      even text params old new has.ten.schema seen shows Fits (want r) (are r has) many_is typed unlimited result
      (found.ends (plain_now text params old new has.ten.schema) sure);
}

-- ---- rows in an order

-- what is true of each that passes
pub rows_all : {X : Type 0} (P Q : X → Type 0) (order : ℕ × X → ℕ × X → Ordering) (p : X → Bool) → ((x : X) → P x → p x ≡ true → Q x) → (xs : List X)
    → AllByRecursion P xs
    → AllByRecursion (λ (b : ℕ × X). Q b.1) (rows_by order p xs)
rows_all {X} P Q order p so xs all = all_sorted order (λ (b : ℕ × X). Q b.1) (filter (λ (b : ℕ × X). p b.1) (zip_from 1 xs))
    (all_kept (λ (b : ℕ × X). Q b.1) (λ b. p b.1) (zip_from 1 xs)
    (all_so (λ (b : ℕ × X). P b.1) (λ b. p b.1 ≡ true → Q b.1) (λ b. so b.1) (zip_from 1 xs) (zip_all P 1 xs all)))

-- two tests that agree on the rows of a list give the same
pub rows_alike : {X : Type 0} (order : ℕ × X → ℕ × X → Ordering) (P : X → Type 0) (p q : X → Bool) → ((x : X) → P x → p x ≡ q x) → (xs : List X)
    → AllByRecursion P xs
    → rows_by order p xs ≡ rows_by order q xs
rows_alike {X} order P p q same xs all = ap (sort_by order) (filter_alike (λ (b : ℕ × X). P b.1) (λ b. p b.1) (λ b. q b.1) (λ b. same b.1) (zip_from 1 xs)
    (zip_all P 1 xs all))

-- ---- rows in order of start, then of number

pub untied : {X : Type 0} (start : X → ℤ) (b c : ℕ × X) → int_cmp (pos b.0) (pos c.0) ≡ Less → IsNoTie (by_start start b c)
untied start b c less = no_tie_after (int_cmp (start b.1) (start c.1)) (no_tie (ap (λ o. ordering_then o Equal) less))

abbrev pub IsSpan : Interval → Type 0
IsSpan span = IsStart span.start × (span.len < 2 ^ 32)

module _ {sql : List ℕ} {many tree : ℕ} {terms project : List Term} {order : List (Term × Key)} (text : IsLookup sql many (all_by (tree ∷ []) terms project order))
    (params : Row) {old new : State}
    (many_is : many ≡ length params) (typed : accepts_program desk_schema [] (query_of (all_by (tree ∷ []) terms project order)) params ≡ true)
    {X : Type 0} (cells : X → Row) (xs : Rows → List X) (stored : (r : Rows) → Holds old.now r → overlay old.now.trees [] tree ≡ table_of cells (xs r))
    (p : X → Bool) (tests : (b : ℕ × X) → list_all (holds (params ∷ encode cells b ∷ [])) terms ≡ p b.1)
    {Y : Type 0} (shows : Y → Row) (Fits : Y → Type 0)
    (shown : ℕ × X → Y) (shows_it : (b : ℕ × X) → eval_all project (params ∷ encode cells b ∷ []) ≡ shows (shown b))
    (start : X → ℤ) (orders : (b c : ℕ × X) → output_cmp (query_of (all_by (tree ∷ []) terms project order))
    (output (query_of (all_by (tree ∷ []) terms project order)) (params ∷ encode cells b ∷ []))
    (output (query_of (all_by (tree ∷ []) terms project order)) (params ∷ encode cells c ∷ [])) ≡ by_start start b c)
    (P : X → Type 0) (ranges : (r : Rows) → Holds old.now r → AllByRecursion P (xs r)) (fits : (b : ℕ × X) → P b.1 → Fits (shown b)) where
  pub reads_by_start : {result : Result (Vec Y Global) RowFault} → FindsAll sql params old new (λ y. y) shows Fits result
      → ReadsRows old new result (λ r all. all.items ≡ map shown (rows_by (by_start start) p (xs r)))
  reads_by_start found = says_so (reads_all text params many_is typed found (λ r. map shown (rows_by (by_start start) p (xs r)))
      (λ r has. (
        all_map (λ (b : ℕ × X). P b.1) Fits shown fits _
            (rows_all P P (by_start start) p (λ x fit passes. fit) (xs r) (ranges r has)),
        λ rows answer. rows_sorted (all_by (tree ∷ []) terms project order) (overlay old.now.trees []) cells (xs r) (stored r has) params (λ b. p b.1) tests
            (λ b. shows (shown b)) shows_it
            (by_start start) (untied start) orders rows answer
            ∙ sym (map-map shows shown (rows_by (by_start start) p (xs r))),
      )))
      (λ r has all is. sym (map-id all.items) ∙ is)

-- and where spans are shown
module _ {sql : List ℕ} {many tree : ℕ} {terms project : List Term} {order : List (Term × Key)} (text : IsLookup sql many (all_by (tree ∷ []) terms project order))
    (params : Row) {old new : State}
    (many_is : many ≡ length params) (typed : accepts_program desk_schema [] (query_of (all_by (tree ∷ []) terms project order)) params ≡ true)
    {X : Type 0} (cells : X → Row) (xs : Rows → List X) (stored : (r : Rows) → Holds old.now r → overlay old.now.trees [] tree ≡ table_of cells (xs r))
    (p : X → Bool) (tests : (b : ℕ × X) → list_all (holds (params ∷ encode cells b ∷ [])) terms ≡ p b.1)
    (span : X → Interval) (shown : (b : ℕ × X) → eval_all project (params ∷ encode cells b ∷ []) ≡ span_shown (span b.1))
    (orders : (b c : ℕ × X) → output_cmp (query_of (all_by (tree ∷ []) terms project order))
    (output (query_of (all_by (tree ∷ []) terms project order)) (params ∷ encode cells b ∷ []))
    (output (query_of (all_by (tree ∷ []) terms project order)) (params ∷ encode cells c ∷ [])) ≡ by_start (λ x. (span x).start) b c)
    (P : X → Type 0) (ranges : (r : Rows) → Holds old.now r → AllByRecursion P (xs r)) (fits : (x : X) → P x → IsSpan (span x)) where
  pub reads_spans : {result : Result (Vec Interval Global) RowFault} → FindsAll sql params old new (λ s. s) span_shown IsSpan result
      → ReadsRows old new result (λ r spans. spans.items ≡ spans_by span (by_start (λ x. (span x).start)) p (xs r))
  reads_spans = reads_by_start text params many_is typed cells xs stored p tests span_shown IsSpan (λ b. span b.1) shown (λ x. (span x).start) orders P ranges (λ b. fits b.1)
