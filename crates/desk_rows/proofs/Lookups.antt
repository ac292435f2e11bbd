-- Look-ups: what the first row of a query over one table shows, and that a look-up over a desk's tables never returns `Row` or `Refused`.
use Rattle.std.proofs.Common.{◌≡◌, inl, inr, ℕ, ◌≤◌, List, [], ◌∷◌, ◌++◌, length, find, Bool, true, false, Option, Some, None, option_map, Ok, Err, Result, IfOk, refl, sym, ap, subst, ◌∙◌, append-nil, subst₂, true≢false, IfErr}
use Rattle.std.specs.List.{list_all, AllByRecursion}
use Rattle.std.specs.Prelude.{IfSome, is_some}
use Rattle.std.specs.Result.{is_ok}
use Rattle.sqlite_value.specs.declared.value.Value.TheVariants.{Null}
use Rattle.sqlite_value.specs.Order.{Row}
use Rattle.sqlite_trees.specs.Tree.{Trees}
use Rattle.sqlite_trees.specs.View.{doubt}
use Rattle.sqlite_sql.specs.Term.{Env, Term, holds, eval_all}
use Rattle.sqlite_sql.specs.Query.{IsAnswer, FoldOverflows}
use Rattle.sqlite_typing.specs.Types.{accepts_program}
use Rattle.sqlite_resolve.specs.declared.compiled.Compiled.{Compiled}
use Rattle.sqlite_resolve.specs.declared.error.CompileError.{CompileError}
use Rattle.sqlite.specs.Command.TheVariants.{Select}
use Rattle.sqlite.specs.declared.error.Error.{Error}
use Rattle.sqlite.specs.declared.error.Error.TheVariants.{SqliteFailure, SqlInputError, InvalidParameterCount, ExecuteReturnedResults, InvalidQuery, MultipleStatement, QueryReturnedNoRows, InvalidColumnIndex, InvalidColumnType, IntegralValueOutOfRange, Utf8Error}
use Rattle.sqlite_schema.specs.declared.schema.Schema.{Schema}
use Rattle.sqlite.specs.Effect.{Database, RefusesToRead}
use Rattle.sqlite.specs.Listing.{understood, reads_listing, IsSourceOf}
use Rattle.sqlite.specs.Program.{overlay}
use Rattle.sqlite.specs.Clock.{timed}
use Rattle.sqlite.specs.State.{State, Begins, HasCleanDisk, Shown, Survives, QueriesRow, CommitsShowing, FailsToQuery, FailsToShow, IsNotRun, IsNoStatement}
use Rattle.sqlite.proofs.Callers.{IsPlain, begins_as, command_of, first_as, reads_as, never_commits}
use Rattle.sqlite.proofs.StateLemmas.{survives_weaker}
use Rattle.desk_rows.specs.Schema.{desk_schema}
use Rattle.desk_rows.specs.Rows.{Rows, Holds, table_of}
use Rattle.desk_rows.specs.steps.Queries.{HasRun, IsReadOf, Finds, Knows}
use Rattle.desk_rows.specs.CallLaws.{read_weaker}
use Rattle.desk_rows.proofs.Ordered.{Asked, joined, query_of, by_rowid, head, zip_from, encode, first_by_rowid, some_map, map_twice, found_holds, zip_all, mapped_holds}
use Rattle.desk_rows.specs.Calls.{IsReadingCallOf, ReadsRows, ReadsOf}
use Rattle.desk_rows.specs.Faults.{is_odd, IsEven, row_fault}
use Rattle.desk_rows.specs.steps.Errors.{found_of, known_of}
use Rattle.desk_rows.specs.declared.faults.RowFault.{RowFault}
use Rattle.desk_rows.specs.declared.faults.RowFault.TheVariants.{Memory, Disk, Size, Row as OutOfShape, Refused}
use Rattle.desk_rows.proofs.QueryLemmas.{shows_none, found_leaves}
use Rattle.desk_rows.proofs.FaultLemmas.{not_row}
use Rattle.desk_rows.proofs.FaultLemmas.{told_else}
use Rattle.desk_rows.proofs.RefusedLemmas.{unset}

-- over tables of this schema the text is one such query, with this number of parameters
pub record IsLookupOf (desk : Schema) (sql : List ℕ) (many : ℕ) {trees : List ℕ} (a : Asked trees) : Type 0 where
  pub names : List (List ℕ)
  pub compiled : Compiled
  pub means : understood desk sql ≡ Ok compiled
  pub command : compiled.command ≡ Select (record { lets = []; body = query_of a }) names
  pub plain : (compiled.returning ≡ None) × (compiled.formats ≡ [])
  pub whole : length sql ≤ compiled.tail
  pub given : many ≡ length compiled.names
  pub unlisted : reads_listing desk sql ≡ false

-- over those of schema 2
abbrev pub IsLookup : List ℕ → ℕ → {trees : List ℕ} → Asked trees → Type 0
IsLookup = IsLookupOf desk_schema

-- ---- a call of query_row

pub fold_stays : (db : Trees) (trees : List ℕ) (env : Env) → FoldOverflows db (joined trees) env → ⊥
fold_stays db [] env h = h
fold_stays db (tree ∷ trees) env h = fold_stays db trees (env ++ h.1 ∷ []) h.4

module _ {desk : Schema} {sql : List ℕ} {many : ℕ} {trees : List ℕ} {a : Asked trees} (text : IsLookupOf desk sql many a) (params : Row) (old new : State) (has : old.now.schema ≡ desk) where
  is : command_of (understood desk sql) ≡ Select (record { lets = []; body = query_of a }) text.names
  is = ap command_of text.means ∙ text.command

  plain : IsPlain (understood desk sql)
  plain = subst IsPlain (sym text.means) text.plain

  pub plain_now : IsPlain (understood old.now.schema sql)
  plain_now = subst (λ s. IsPlain (understood s sql)) (sym has) plain

  -- what it found begins an answer
  pub found_answers : (r : Result Row Error) → QueriesRow sql params old new r
      → IfOk (found_of r) (λ found. (rows : List Row) × (head rows ≡ found) × IsAnswer (query_of a) (overlay old.now.trees []) params rows)
  found_answers (Ok row) h =
      let got = (first_as sql params old new desk has _ is plain text.unlisted row h).1 in (row ∷ got.0, refl, got.1 Null)
  found_answers (Err QueryReturnedNoRows) h =
      ([], refl, (reads_as sql params old new desk has _ is plain text.unlisted [] (shows_none sql params old new plain_now h)).answer Null)
  found_answers (Err (SqliteFailure code)) h = tt
  found_answers (Err (SqlInputError why)) h = tt
  found_answers (Err (InvalidParameterCount a b)) h = tt
  found_answers (Err ExecuteReturnedResults) h = tt
  found_answers (Err InvalidQuery) h = tt
  found_answers (Err MultipleStatement) h = tt
  found_answers (Err (InvalidColumnIndex at)) h = tt
  found_answers (Err (InvalidColumnType at t)) h = tt
  found_answers (Err (IntegralValueOutOfRange at)) h = tt
  found_answers (Err (Utf8Error at)) h = tt

  -- the rows that were all shown are an answer
  pub shown_answers : (rows : List Row) → Shown sql params old new rows → IsAnswer (query_of a) (overlay old.now.trees []) params rows
  shown_answers rows h = (reads_as sql params old new desk has _ is plain text.unlisted rows h).answer Null

  -- the rows that were shown so far begin one
  pub begun_answers : (rows : List Row) → Begins sql params old rows → (tail : List Row) × IsAnswer (query_of a) (overlay old.now.trees []) params (rows ++ tail)
  begun_answers rows h = let got = (begins_as sql params old new desk has _ is plain text.unlisted rows h).1 in (got.0, got.1 Null)

  no_statement : many ≡ length params → (e : Error) → IsNoStatement old sql params e → ⊥
  no_statement many_is e (inl h) = let a = sym (ap (λ s. understood s sql) has ∙ text.means) ∙ h.1 in cc
  no_statement many_is e (inr h) =
      let both : ◌≡◌ {A = Result Compiled CompileError} (Ok h.0) (Ok text.compiled) = sym h.1 ∙ ap (λ s. understood s sql) has ∙ text.means in
      let same : h.0 ≡ text.compiled = cc in
      elim h.2 [
        | inl long ↦ long.0 (rw same text.whole)
        | inr (inl count) ↦ count.0 (sym many_is ∙ text.given ∙ ap (λ (c : Compiled). length c.names) (sym same))
        | inr (inr clock) ↦ clock.0 (ap (λ (c : Compiled). c.formats) same ∙ text.plain.1)
      ]

  -- with parameters of the right types and no limit on steps it is never refused
  pub never_refused : many ≡ length params → accepts_program desk [] (query_of a) params ≡ true → old.step_limit ≡ None
      → (e : Error) → row_fault e ≡ Refused → FailsToQuery sql params old new e → ⊥
  unfolding FailsToQuery IsNotRun
  never_refused many_is typed unlimited e told (inl (inl h)) = no_statement many_is e h.0
  never_refused many_is typed unlimited e told (inl (inr h)) = told_else h.0 (ap row_fault (sym h.1) ∙ told)
  never_refused many_is typed unlimited e told (inr h) =
      let both : ◌≡◌ {A = Result Compiled CompileError} (Ok h.0) (Ok text.compiled) = sym h.1.is ∙ ap (λ s. understood s sql) has ∙ text.means in
      let same : h.0 ≡ text.compiled = cc in
      let cmd : h.0.command ≡ Select (record { lets = []; body = query_of a }) text.names = ap (λ (x : Compiled). x.command) same ∙ text.command in
      let none : h.0.returning ≡ None = ap (λ (x : Compiled). x.returning) same ∙ text.plain.0 in
      let still : h.0.formats ≡ [] = ap (λ (x : Compiled). x.formats) same ∙ text.plain.1 in
      let it = rw (still, append-nil params) at (subst (FailsToShow old new sql h.0 (timed params h.0.formats h.1.now) e) none h.2) in
      let db : it.0 ≡ old.now = subst (λ b. IsSourceOf b old.now it.0) (ap (λ s. reads_listing s sql) has ∙ text.unlisted) it.1 in
      let why : RefusesToRead old.step_limit (Select (record { lets = []; body = query_of a }) text.names) old.now params e =
      subst₂ (λ k d. RefusesToRead old.step_limit k d params e) cmd db it.2 in
      elim why [
        | inl mistyped ↦ let no : accepts_program desk [] (query_of a) params ≡ false = subst (λ s. accepts_program s [] (query_of a) params ≡ false) has mistyped.1 in
            true≢false (sym typed ∙ no)
        | inr (inl over) ↦ elim over.1 [ inl none ↦ none | inr folds ↦ fold_stays (overlay old.now.trees []) trees (params ∷ []) folds ]
        | inr (inr limited) ↦ unset old.step_limit unlimited limited.1
      ]

  pub found_in_order : many ≡ length params → accepts_program desk [] (query_of a) params ≡ true → old.step_limit ≡ None
      → (r : Result Row Error) → QueriesRow sql params old new r → IfErr (found_of r) (λ f. is_odd f ≡ false)
  unfolding QueriesRow
  found_in_order many_is typed unlimited (Ok row) h = tt
  found_in_order many_is typed unlimited (Err QueryReturnedNoRows) h = tt
  found_in_order many_is typed unlimited (Err (SqliteFailure code)) (inl h) = even (row_fault (SqliteFailure code)) refl
    where
      even : (f : RowFault) → row_fault (SqliteFailure code) ≡ f → is_odd f ≡ false
      even Memory is = refl
      even Disk is = refl
      even Size is = refl
      even OutOfShape is = absurd (not_row (SqliteFailure code) is)
      even Refused is = absurd (never_refused many_is typed unlimited _ is h)
  found_in_order many_is typed unlimited (Err (SqlInputError why)) (inl h) = absurd (never_refused many_is typed unlimited _ refl h)
  found_in_order many_is typed unlimited (Err (InvalidParameterCount a b)) (inl h) = absurd (never_refused many_is typed unlimited _ refl h)
  found_in_order many_is typed unlimited (Err ExecuteReturnedResults) (inl h) = absurd (never_refused many_is typed unlimited _ refl h)
  found_in_order many_is typed unlimited (Err InvalidQuery) (inl h) = absurd (never_refused many_is typed unlimited _ refl h)
  found_in_order many_is typed unlimited (Err MultipleStatement) (inl h) = absurd (never_refused many_is typed unlimited _ refl h)
  found_in_order many_is typed unlimited (Err (InvalidColumnIndex at)) (inl h) = absurd (never_refused many_is typed unlimited _ refl h)
  found_in_order many_is typed unlimited (Err (InvalidColumnType at t)) (inl h) = absurd (never_refused many_is typed unlimited _ refl h)
  found_in_order many_is typed unlimited (Err (IntegralValueOutOfRange at)) (inl h) = absurd (never_refused many_is typed unlimited _ refl h)
  found_in_order many_is typed unlimited (Err (Utf8Error at)) (inl h) = absurd (never_refused many_is typed unlimited _ refl h)
  found_in_order many_is typed unlimited (Err (SqlInputError why)) (inr h) = absurd (let x = h.0 in cc)
  found_in_order many_is typed unlimited (Err (InvalidParameterCount a b)) (inr h) = absurd (let x = h.0 in cc)
  found_in_order many_is typed unlimited (Err ExecuteReturnedResults) (inr h) = absurd (let x = h.0 in cc)
  found_in_order many_is typed unlimited (Err InvalidQuery) (inr h) = absurd (let x = h.0 in cc)
  found_in_order many_is typed unlimited (Err MultipleStatement) (inr h) = absurd (let x = h.0 in cc)
  found_in_order many_is typed unlimited (Err (InvalidColumnIndex at)) (inr h) = absurd (let x = h.0 in cc)
  found_in_order many_is typed unlimited (Err (InvalidColumnType at t)) (inr h) = absurd (let x = h.0 in cc)
  found_in_order many_is typed unlimited (Err (IntegralValueOutOfRange at)) (inr h) = absurd (let x = h.0 in cc)
  found_in_order many_is typed unlimited (Err (Utf8Error at)) (inr h) = absurd (let x = h.0 in cc)
  found_in_order many_is typed unlimited (Err (SqliteFailure code)) (inr h) = absurd (let x = h.0 in cc)

-- a call of query_row changes nothing
pub lookup_reads : {desk : Schema} {sql : List ℕ} {many : ℕ} {trees : List ℕ} {a : Asked trees} (text : IsLookupOf desk sql many a) (params : Row) (old new : State) (r : Result Row Error)
    → (doubt old.is_clean ≤ doubt new.is_clean) → (old.in_transaction ≡ false → new.in_transaction ≡ false)
    → Survives old new (CommitsShowing sql params old) → (HasCleanDisk new → QueriesRow sql params old new r) → IsReadingCallOf desk old new (is_ok (found_of r))
lookup_reads {sql = sql} text params old new r clean mode survives ran = record {
  clean = clean;
  mode = mode;
  survives = λ has up sure. survives_weaker _ _ _ _ (λ _ db. never_commits sql params old db (plain_now text params old new has)) survives;
  leaves = λ has up sure. found_leaves sql params old new (plain_now text params old new has) r (ran sure);
}

-- ---- what a look-up returns

module _ {desk : Schema} {sql : List ℕ} {many : ℕ} {trees : List ℕ} {a : Asked trees} (text : IsLookupOf desk sql many a) (Have : Database → Rows → Type 0) (schema : (db : Database) (r : Rows) → Have db r → db.schema ≡ desk)
    (params : Row) (old new : State) (answer : Result Row Error) (run : HasRun sql params old new answer) (many_is : many ≡ length params) (typed : accepts_program desk [] (query_of a) params ≡ true) where
  has_read : IsReadingCallOf desk old new (is_ok (found_of answer))
  has_read = lookup_reads text params old new answer run.clean run.mode run.survives run.ran

  -- the first row is the one that is wanted
  abbrev pub IsFirst : Option Row → Type 0
  IsFirst want = (rows : List Row) → IsAnswer (query_of a) (overlay old.now.trees []) params rows → head rows ≡ want

  found_is : HasCleanDisk new → (r : Rows) → Have old.now r → (want : Option Row) → IsFirst want → IfOk (found_of answer) (λ found. found ≡ want)
  found_is sure r has want first = go (found_of answer) (found_answers text params old new (schema old.now r has) answer (run.ran sure))
    where
      go : (f : Result (Option Row) RowFault) → IfOk f (λ found. (rows : List Row) × (head rows ≡ found) × IsAnswer (query_of a) (overlay old.now.trees []) params rows) → IfOk f (λ found. found ≡ want)
      go (Ok found) it = sym it.1 ∙ first it.0 it.2
      go (Err f) it = tt

  found_even : HasCleanDisk new → old.step_limit ≡ None → (r : Rows) → Have old.now r → IfErr (found_of answer) IsEven
  found_even sure unlimited r has = found_in_order text params old new (schema old.now r has) many_is typed unlimited answer (run.ran sure)

  -- whether there is a first row
  pub knows_of : (result : Result Bool RowFault) → result ≡ known_of (found_of answer) → (want : Rows → Option Row) → ((r : Rows) → Have old.now r → IsFirst (want r))
      → ReadsOf desk Have old new result (λ r known. known ≡ is_some (want r))
  knows_of result is want first = rw is (record {
    read = subst (IsReadingCallOf desk old new) (sym (known_ok (found_of answer))) has_read;
    told = λ sure r has. told (found_of answer) (want r) (found_is sure r has (want r) (first r has));
    in_order = λ sure unlimited r has. even (found_of answer) (found_even sure unlimited r has);
  })
    where
      known_ok : (f : Result (Option Row) RowFault) → is_ok (known_of f) ≡ is_ok f
      known_ok (Ok None) = refl
      known_ok (Ok (Some row)) = refl
      known_ok (Err f) = refl

      told : (f : Result (Option Row) RowFault) (want : Option Row) → IfOk f (λ found. found ≡ want) → IfOk (known_of f) (λ known. known ≡ is_some want)
      told (Ok None) want is = ap is_some is
      told (Ok (Some row)) want is = ap is_some is
      told (Err f) want is = tt

      even : (f : Result (Option Row) RowFault) → IfErr f IsEven → IfErr (known_of f) IsEven
      even (Ok None) h = tt
      even (Ok (Some row)) h = tt
      even (Err f) h = h

  -- what the first row shows
  pub finds_of : {T Seen : Type 0} {seen : T → Seen} {shows : Seen → Row} {Fits : Seen → Type 0} (result : Result (Option T) RowFault) → IsReadOf seen shows Fits (found_of answer) result
      → (want : Rows → Option Seen) → ((r : Rows) → Have old.now r → IfSome (want r) Fits × IsFirst (option_map shows (want r)))
      → ReadsOf desk Have old new result (λ r x. option_map seen x ≡ want r)
  finds_of result is want first = record {
    read = read_weaker old new _ _ is.read has_read;
    told = λ sure r has. let f = first r has in is.told (want r) f.0 (found_is sure r has _ f.1);
    in_order = λ sure unlimited r has. let f = first r has in is.in_order (want r) f.0 (found_is sure r has _ f.1) (found_even sure unlimited r has);
  }

-- the same of schema 2
pub has_schema : (db : Database) (r : Rows) → Holds db r → db.schema ≡ desk_schema
has_schema db r has = has.ten.schema

module _ {sql : List ℕ} {many : ℕ} {trees : List ℕ} {a : Asked trees} (text : IsLookup sql many a) (params : Row) (old new : State) (answer : Result Row Error) (run : HasRun sql params old new answer)
    (many_is : many ≡ length params) (typed : accepts_program desk_schema [] (query_of a) params ≡ true) where
  pub knows : (result : Result Bool RowFault) → result ≡ known_of (found_of answer) → (want : Rows → Option Row)
      → ((r : Rows) → Holds old.now r → (rows : List Row) → IsAnswer (query_of a) (overlay old.now.trees []) params rows → head rows ≡ want r)
      → ReadsRows old new result (λ r known. known ≡ is_some (want r))
  knows = knows_of text Holds has_schema params old new answer run many_is typed

  pub finds : {T Seen : Type 0} {seen : T → Seen} {shows : Seen → Row} {Fits : Seen → Type 0} (result : Result (Option T) RowFault) → IsReadOf seen shows Fits (found_of answer) result
      → (want : Rows → Option Seen)
      → ((r : Rows) → Holds old.now r → IfSome (want r) Fits × ((rows : List Row) → IsAnswer (query_of a) (overlay old.now.trees []) params rows → head rows ≡ option_map shows (want r)))
      → ReadsRows old new result (λ r x. option_map seen x ≡ want r)
  finds = finds_of text Holds has_schema params old new answer run many_is typed

-- one statement about the result of a look-up in place of another
pub says_so : {desk : Schema} {Have : Database → Rows → Type 0} {X : Type 0} {old new : State} {result : Result X RowFault} {P Q : Rows → X → Type 0} → ReadsOf desk Have old new result P
    → ((r : Rows) → Have old.now r → (x : X) → P r x → Q r x) → ReadsOf desk Have old new result Q
says_so {result = result} reads so = record { read = reads.read; told = λ sure r has. go result (so r has) (reads.told sure r has); in_order = reads.in_order }
  where
    go : {X E : Type 0} {P Q : X → Type 0} (result : Result X E) → ((x : X) → P x → Q x) → IfOk result P → IfOk result Q
    go (Ok x) each h = each x h
    go (Err e) each h = tt

-- ---- look-ups in the order of the rowids, of rows that pass a test

module _ {sql : List ℕ} {many tree : ℕ} {terms project : List Term} (text : IsLookup sql many (by_rowid tree terms project)) (params : Row) {old new : State}
    (many_is : many ≡ length params) (typed : accepts_program desk_schema [] (query_of (by_rowid tree terms project)) params ≡ true)
    {X : Type 0} (cells : X → Row) (xs : Rows → List X) (stored : (r : Rows) → Holds old.now r → overlay old.now.trees [] tree ≡ table_of cells (xs r))
    (p : ℕ × X → Bool) (tests : (b : ℕ × X) → list_all (holds (params ∷ encode cells b ∷ [])) terms ≡ p b) where
  pub known_by : {result : Result Bool RowFault} → Knows sql params old new result → ReadsRows old new result (λ r known. known ≡ is_some (find p (zip_from 1 (xs r))))
  known_by {result} knew = says_so (knows text params old new knew.answer knew.run many_is typed result knew.is _
      (λ r has. first_by_rowid (by_rowid tree terms project) (overlay old.now.trees []) cells (xs r) (stored r has) params p tests _ (λ b. refl) refl))
      (λ r has known is. is ∙ some_map _ (find p (zip_from 1 (xs r))))

  module _ (P : X → Type 0) (ranges : (r : Rows) → Holds old.now r → AllByRecursion P (xs r)) where
    pub found_by : {T Seen : Type 0} {seen : T → Seen} {shows : Seen → Row} {Fits : Seen → Type 0} {result : Result (Option T) RowFault} → Finds sql params old new seen shows Fits result
        → (view : ℕ × X → Seen) → ((b : ℕ × X) → eval_all project (params ∷ encode cells b ∷ []) ≡ shows (view b)) → ((b : ℕ × X) → P b.1 → Fits (view b))
        → ReadsRows old new result (λ r x. option_map seen x ≡ option_map view (find p (zip_from 1 (xs r))))
    found_by {shows = shows} {Fits = Fits} {result = result} found view shown fits = finds text params old new found.answer found.run many_is typed result found.is_read _
        (λ r has. (
          mapped_holds (λ (b : ℕ × X). P b.1) Fits view fits _ (found_holds (λ b. P b.1) p (zip_from 1 (xs r)) (zip_all P 1 (xs r) (ranges r has))),
          λ rows answer. first_by_rowid (by_rowid tree terms project) (overlay old.now.trees []) cells (xs r) (stored r has) params p tests (λ b. shows (view b)) shown refl rows answer
              ∙ sym (map_twice shows view (find p (zip_from 1 (xs r)))),
        ))
