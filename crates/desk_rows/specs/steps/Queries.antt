-- What is known of a query's first row, and of all its rows, before its text is looked at.
use Rattle.std.specs.Prelude.{◌≡◌, ◌≤◌, ◌⊎◌, false, ℕ, Vec, List, [], ◌∷◌, ◌++◌, Option, Some, Result, Ok, Err, option_map, if◌then◌else◌, Bool, IsTrue, IfOk}
use Rattle.std.specs.Prelude.{IfErr, IfSome}
use Rattle.std.specs.declared.alloc.Global.{Global}
use Rattle.std.specs.Result.{is_ok}
use Rattle.sqlite_value.specs.Order.{Row}
use Rattle.sqlite_trees.specs.View.{doubt}
use Rattle.sqlite.specs.declared.error.Error.{Error}
use Rattle.sqlite_trees.specs.declared.store.Store.{Ghosts}
use Rattle.sqlite.specs.Given.{HasGiven, IsPlain}
use Rattle.sqlite.specs.Held.{Held, state}
use Rattle.sqlite.specs.Listing.{understood}
use Rattle.sqlite.specs.State.{State, HasCleanDisk, IsUnchanged, Survives, Begins, CommitsShowing, FailsToQuery, QueriesRow, Shown}
use Rattle.desk_rows.specs.Faults.{row_fault, IsEven}
use Rattle.desk_rows.specs.steps.Errors.{Decodes, found_of, known_of}
use Rattle.registry_core.specs.Reports.{is_after}
use Rattle.desk_rows.specs.declared.faults.RowFault.{RowFault}
use Rattle.desk_rows.specs.declared.faults.RowFault.TheVariants.{Row as OutOfRange}

-- the query was run, and its first row is the answer
pub record HasRun (sql : List ℕ) (params : Row) (old new : State) (answer : Result Row Error) : Type 0 where
  pub clean : doubt old.is_clean ≤ doubt new.is_clean
  pub mode : old.in_transaction ≡ false → new.in_transaction ≡ false
  pub survives : Survives old new (CommitsShowing sql params old)
  pub ran : HasCleanDisk new → QueriesRow sql params old new answer

-- the row that was found is read
pub record IsReadOf {T Seen : Type 0} (seen : T → Seen) (shows : Seen → Row) (InRange : Seen → Type 0) (found : Result (Option Row) RowFault)
    (result : Result (Option T) RowFault) : Type 0 where
  pub read : IsTrue (is_ok result) → IsTrue (is_ok found)
  pub told : (want : Option Seen) → IfSome want InRange → IfOk found (λ row. row ≡ option_map shows want) → IfOk result (λ x. option_map seen x ≡ want)
  pub in_order : (want : Option Seen) → IfSome want InRange → IfOk found (λ row. row ≡ option_map shows want) → IfErr found IsEven → IfErr result IsEven

-- the first row is read
pub record Finds {T Seen : Type 0} (sql : List ℕ) (params : Row) (old new : State) (seen : T → Seen) (shows : Seen → Row) (InRange : Seen → Type 0)
    (result : Result (Option T) RowFault) : Type 0 where
  pub answer : Result Row Error
  pub run : HasRun sql params old new answer
  pub is_read : IsReadOf seen shows InRange (found_of answer) result

-- there is a row or not
pub record Knows (sql : List ℕ) (params : Row) (old new : State) (result : Result Bool RowFault) : Type 0 where
  pub answer : Result Row Error
  pub run : HasRun sql params old new answer
  pub is : result ≡ known_of (found_of answer)

-- the number that was found, if it is above `after`
abbrev pub above_only : Option ℕ → Result (Option ℕ) RowFault → Result (Option ℕ) RowFault
above_only after (Ok (Some n)) = if is_after after n then Ok (Some n) else Err OutOfRange
above_only after found = found

-- ---- all rows, read one after another

-- each row was read
abbrev pub AreRead : {T Seen : Type 0} → (T → Seen) → (Seen → Row) → (Seen → Type 0) → List Row → List T → Type 0
AreRead seen shows InRange [] [] = Unit {0}
AreRead seen shows InRange (row ∷ rows) (x ∷ xs) = Decodes seen shows InRange row (Ok x) × AreRead seen shows InRange rows xs
AreRead seen shows InRange _ _ = ⊥

-- the query failed, at its beginning or at a row
abbrev pub HasFailed : List ℕ → Row → State → State → RowFault → Type 0
HasFailed sql params old new fault = (error : Error) × (fault ≡ row_fault error) × FailsToQuery sql params old new error

-- Memory ran out, or the last of the rows that were returned couldn't be read. Nothing had changed.
abbrev pub IsGivenUp : {Seen : Type 0} → List ℕ → Row → State → State → (Seen → Row) → (Seen → Type 0) → RowFault → Type 0
IsGivenUp {Seen} sql params old new shows InRange fault =
    IsUnchanged old new
    × (IsEven fault ⊎ ((given : List Row) × (row : Row) × Begins sql params new (given ++ row ∷ []) × ((y : Seen) → InRange y → row ≡ shows y → IsEven fault)))

-- all rows were read, or the first error is returned
abbrev pub EndsWith : {T Seen : Type 0} → List ℕ → Row → State → State → (T → Seen) → (Seen → Row) → (Seen → Type 0) → Result (Vec T Global) RowFault → Type 0
EndsWith sql params old new seen shows InRange (Ok all) = (rows : List Row) × Shown sql params old new rows × AreRead seen shows InRange rows all.items
EndsWith sql params old new seen shows InRange (Err fault) = HasFailed sql params old new fault ⊎ IsGivenUp sql params old new shows InRange fault

-- all rows are read
pub record FindsAll {T Seen : Type 0} (sql : List ℕ) (params : Row) (old new : State) (seen : T → Seen) (shows : Seen → Row) (InRange : Seen → Type 0)
    (result : Result (Vec T Global) RowFault) : Type 0 where
  pub mode : old.in_transaction ≡ false → new.in_transaction ≡ false
  pub survives : Survives old new (CommitsShowing sql params old)
  pub ends : IsPlain (understood old.now.schema sql) → HasCleanDisk new → EndsWith sql params old new seen shows InRange result

-- the query returns its rows: nothing has changed since it began, and `Given` is true of those that were returned
pub record IsGiving {S : Type 0} (g : Ghosts S) (sql : List ℕ) (params : Row) (first now : Held S) (Given : List Row → Type 0) : Type 0 where
  pub mode : first.in_transaction ≡ false → now.in_transaction ≡ false
  pub survives : Survives (state g first) (state g now) (CommitsShowing sql params (state g first))
  pub gives : IsPlain (understood first.schema sql) → HasCleanDisk (state g now) → IsUnchanged (state g first) (state g now) ×
      ((given : List Row) × HasGiven g sql params now given × Given given)

-- the last row was returned after those that were read
abbrev pub EndsIn : (List Row → Type 0) → Row → List Row → Type 0
EndsIn Given row rows = (given : List Row) × (rows ≡ given ++ row ∷ []) × Given given
