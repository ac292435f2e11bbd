-- A query that shows rows or none leaves the database as it was, and one that fails leaves it or rolls it back.
use Rattle.std.proofs.Common.{◌≡◌, ◌⊎◌, inl, inr, ℕ, List, [], Option, Ok, Err, Result, OnOk, subst}
use Rattle.sqlite_value.specs.Order.{Row}
use Rattle.sqlite_trees.specs.declared.error.StoreError.{StoreError}
use Rattle.sqlite_trees.specs.declared.error.StoreError.TheVariants.{OutOfMemory, Io, Corrupt, Full, Broken, Unstorable}
use Rattle.sqlite.specs.Command.{Command}
use Rattle.sqlite.specs.Command.TheVariants.{Select, Rows}
use Rattle.sqlite.specs.declared.error.Error.{Error}
use Rattle.sqlite.specs.declared.error.Error.TheVariants.{SqliteFailure, SqlInputError, InvalidParameterCount, ExecuteReturnedResults, InvalidQuery, MultipleStatement, QueryReturnedNoRows, InvalidColumnIndex, InvalidColumnType, IntegralValueOutOfRange, Utf8Error}
use Rattle.desk_rows.specs.steps.Errors.{found_of}
use Rattle.std.specs.Result.{is_ok}
use Rattle.desk_rows.specs.Calls.{StaysOrRollsBack}
use Rattle.sqlite.specs.Effect.{Database, RefusesToRead}
use Rattle.sqlite.specs.Listing.{understood}
use Rattle.sqlite.specs.State.{State, QueriesRow, Shown, FailsToQuery, FailsToShow, ShowsRows, IsNotRun, IsNoStatement, IsUnchanged, IsRolledBack, store_error}
use Rattle.sqlite.specs.Clock.{timed}
use Rattle.sqlite.proofs.Callers.{IsPlain}

no_store : (cause : StoreError) → QueryReturnedNoRows ≡ store_error cause → ⊥
no_store OutOfMemory e = cc
no_store Io e = cc
no_store Corrupt e = cc
no_store Full e = cc
no_store Broken e = cc
no_store Unstorable e = cc

no_refusal : (limit : Option ℕ) (command : Command) (db : Database) (params : Row) → RefusesToRead limit command db params QueryReturnedNoRows → ⊥
no_refusal limit (Select q names) db params (inl h) = let e = h.0 in cc
no_refusal limit (Select q names) db params (inr (inl h)) = let e = h.0 in cc
no_refusal limit (Select q names) db params (inr (inr h)) = let e = h.0 in cc
no_refusal limit (Rows values width names) db params h = let e = h.0 in cc
no_refusal limit _ db params h = let e = h in cc

no_statement : (s : State) (sql : List ℕ) (params : Row) → IsNoStatement s sql params QueryReturnedNoRows → ⊥
no_statement s sql params (inl h) = let e = h.2 in cc
no_statement s sql params (inr h) = elim h.2 [ inl a ↦ let e = a.1 in cc | inr b ↦ elim b [ inl a ↦ let e = a.1 in cc | inr a ↦ let e = a.1 in cc ] ]

pub shows_none : (sql : List ℕ) (params : Row) (old new : State) → IsPlain (understood old.now.schema sql) → QueriesRow sql params old new (Err QueryReturnedNoRows) → Shown sql params old new []
unfolding QueriesRow FailsToQuery IsNotRun
shows_none sql params old new plain (inr h) = h.1
shows_none sql params old new plain (inl (inl (inl h))) = absurd (no_statement old sql params h.0)
shows_none sql params old new plain (inl (inl (inr h))) = absurd (no_store h.0 h.1)
shows_none sql params old new plain (inl (inr h)) =
    let none = (subst IsPlain h.1.is plain).0 in
    let it = subst (FailsToShow old new sql h.0 (timed params h.0.formats h.1.now) QueryReturnedNoRows) none h.2 in
    absurd (no_refusal old.step_limit h.0.command it.0 _ it.2)

pub fails_leave : (sql : List ℕ) (params : Row) (old new : State) (e : Error) → IsPlain (understood old.now.schema sql) → FailsToQuery sql params old new e → IsUnchanged old new ⊎ IsRolledBack old new
unfolding FailsToQuery IsNotRun
fails_leave sql params old new e plain (inl (inl h)) = inl h.1
fails_leave sql params old new e plain (inl (inr h)) = inr h.3
fails_leave sql params old new e plain (inr h) =
    let none = (subst IsPlain h.1.is plain).0 in
    let it = subst (FailsToShow old new sql h.0 (timed params h.0.formats h.1.now) e) none h.2 in
    inl it.3

pub shown_leaves : (sql : List ℕ) (params : Row) (old new : State) (rows : List Row) → IsPlain (understood old.now.schema sql) → Shown sql params old new rows → IsUnchanged old new
unfolding Shown
shown_leaves sql params old new rows plain h =
    let none = (subst IsPlain h.1.is plain).0 in
    let it = subst (ShowsRows old new sql h.0 (timed params h.0.formats h.1.now) rows) none h.2 in
    it.3

pub leaves : (sql : List ℕ) (params : Row) (old new : State) → IsPlain (understood old.now.schema sql) → (r : Result Row Error) → QueriesRow sql params old new r → OnOk r (IsUnchanged old new) × (IsUnchanged old new ⊎ IsRolledBack old new)
unfolding QueriesRow
leaves sql params old new plain (Ok row) (inl h) = (h.1, inl h.1)
leaves sql params old new plain (Ok row) (inr h) = let same = shown_leaves sql params old new h.0 plain h.1 in (same, inl same)
leaves sql params old new plain (Err e) (inl h) = (tt, fails_leave sql params old new e plain h)
leaves sql params old new plain (Err e) (inr h) = (tt, inl (shown_leaves sql params old new [] plain h.1))

pub found_leaves : (sql : List ℕ) (params : Row) (old new : State) → IsPlain (understood old.now.schema sql) → (r : Result Row Error) → QueriesRow sql params old new r → StaysOrRollsBack (is_ok (found_of r)) old new
found_leaves sql params old new plain (Ok row) h = (leaves sql params old new plain (Ok row) h).0
found_leaves sql params old new plain (Err QueryReturnedNoRows) h = shown_leaves sql params old new [] plain (shows_none sql params old new plain h)
found_leaves sql params old new plain (Err (SqliteFailure code)) h = (leaves sql params old new plain _ h).1
found_leaves sql params old new plain (Err (SqlInputError why)) h = (leaves sql params old new plain _ h).1
found_leaves sql params old new plain (Err (InvalidParameterCount a b)) h = (leaves sql params old new plain _ h).1
found_leaves sql params old new plain (Err ExecuteReturnedResults) h = (leaves sql params old new plain _ h).1
found_leaves sql params old new plain (Err InvalidQuery) h = (leaves sql params old new plain _ h).1
found_leaves sql params old new plain (Err MultipleStatement) h = (leaves sql params old new plain _ h).1
found_leaves sql params old new plain (Err (InvalidColumnIndex at)) h = (leaves sql params old new plain _ h).1
found_leaves sql params old new plain (Err (InvalidColumnType at t)) h = (leaves sql params old new plain _ h).1
found_leaves sql params old new plain (Err (IntegralValueOutOfRange at)) h = (leaves sql params old new plain _ h).1
found_leaves sql params old new plain (Err (Utf8Error at)) h = (leaves sql params old new plain _ h).1
