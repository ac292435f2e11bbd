-- What each call on the tables does, whatever it returns.
use Rattle.std.specs.Prelude.{◌≡◌, ◌⊎◌, ◌≤◌, Bool, true, false, List, Result, Vec, IsTrue, IfOk, IfErr, OnOk, None}
use Rattle.std.specs.declared.alloc.Global.{Global}
use Rattle.std.specs.Result.{is_ok}
use Rattle.sqlite_trees.specs.View.{doubt}
use Rattle.sqlite_trees.specs.declared.store.Store.{Ghosts}
use Rattle.sqlite_schema.specs.declared.schema.Schema.{Schema}
use Rattle.sqlite.specs.declared.transaction.Transaction.{Transaction}
use Rattle.sqlite.specs.Effect.{Database}
use Rattle.sqlite.specs.Held.{Held, state}
use Rattle.sqlite.specs.State.{State, HasCleanDisk, Shows, Survives, IsUnchanged, IsRolledBack}
use Rattle.desk_rows.specs.Faults.{IsEven}
use Rattle.desk_rows.specs.Rows.{Rows, Holds}
use Rattle.desk_rows.specs.Migrating.{HoldsFirst}
use Rattle.desk_rows.specs.Schema.{desk_schema, first_schema}
use Rattle.desk_rows.specs.Written.{Written}
use Rattle.desk_rows.specs.declared.faults.RowFault.{RowFault}

-- ---- reading

-- everything is as it was, or after a failure rolled back
abbrev pub StaysOrRollsBack : Bool → State → State → Type 0
StaysOrRollsBack true old new = IsUnchanged old new
StaysOrRollsBack false old new = IsUnchanged old new ⊎ IsRolledBack old new

-- a reading call over tables of this schema, which returned `Ok` or not
pub record IsReadingCallOf (desk : Schema) (old new : State) (ok : Bool) : Type 0 where
  pub clean : doubt old.is_clean ≤ doubt new.is_clean
  pub mode : old.in_transaction ≡ false → new.in_transaction ≡ false
  pub survives : old.now.schema ≡ desk → IsTrue old.is_open → HasCleanDisk new → Survives old new (λ _. ⊥)
  pub leaves : old.now.schema ≡ desk → IsTrue old.is_open → HasCleanDisk new → StaysOrRollsBack ok old new

-- a reading call over the tables of schema 2
abbrev pub IsReadingCall : State → State → Bool → Type 0
IsReadingCall = IsReadingCallOf desk_schema

-- A look-up over tables of this schema changes nothing, and what it returns satisfies `Says` for the rows that the database has by `Have`.
-- If it has rows, and there is no limit on steps, the look-up fails only with `Memory`, `Disk` or `Size`.
pub record ReadsOf (desk : Schema) (Have : Database → Rows → Type 0) {X : Type 0} (old new : State) (result : Result X RowFault) (Says : Rows → X → Type 0) : Type 0 where
  pub read : IsReadingCallOf desk old new (is_ok result)
  pub told : HasCleanDisk new → (r : Rows) → Have old.now r → IfOk result (Says r)
  pub in_order : HasCleanDisk new → old.step_limit ≡ None → (r : Rows) → Have old.now r → IfErr result IsEven

-- a look-up over the tables of schema 2, by the states of a connection before and after it
abbrev pub ReadsRows : {X : Type 0} → State → State → Result X RowFault → (Rows → X → Type 0) → Type 0
ReadsRows = ReadsOf desk_schema Holds

-- the same, by the connection before and after it
abbrev pub Reads : {S X : Type 0} → Ghosts S → Held S → Held S → Result X RowFault → (Rows → X → Type 0) → Type 0
Reads g old new = ReadsRows (state g old) (state g new)

-- the same, where it returns `found r` for the rows `r`
abbrev pub Returns : {S X : Type 0} → Ghosts S → Held S → Held S → Result X RowFault → (Rows → X) → Type 0
Returns g old new result found = Reads g old new result (λ r x. x ≡ found r)

-- the same, where it returns the list `listed r` for the rows `r`
abbrev pub ReturnsList : {S X : Type 0} → Ghosts S → Held S → Held S → Result (Vec X Global) RowFault → (Rows → List X) → Type 0
ReturnsList g old new result listed = Reads g old new result (λ r all. all.items ≡ listed r)

-- a look-up over the tables of schema 1, which have no limits
abbrev pub ReadsFirst : {S X : Type 0} → Ghosts S → Held S → Held S → Result X RowFault → (Rows → X → Type 0) → Type 0
ReadsFirst g old new = ReadsOf first_schema HoldsFirst (state g old) (state g new)

-- ---- writing

-- the transaction has ended, and nothing of it is left
pub record IsUndone (old new : State) : Type 0 where
  pub was_open : IsTrue new.is_open → IsTrue old.is_open
  pub undone : IsTrue new.is_open → (new.now ≡ old.committed) × (new.committed ≡ old.committed)
  pub ended : new.in_transaction ≡ false

-- the transaction continues, and nothing of it is committed
abbrev pub GoesOn : State → State → Type 0
GoesOn old new = Shows old new new.now old.committed true

abbrev pub Writes : Bool → State → State → Type 0
Writes true old new = GoesOn old new
Writes false old new = GoesOn old new ⊎ IsUndone old new

-- a writing call inside a transaction, which returned `Ok` or not
pub record IsWritingCall (old new : State) (ok : Bool) : Type 0 where
  pub survives : Survives old new (λ _. ⊥)
  pub goes_on : HasCleanDisk new → IsTrue old.in_transaction → IsTrue old.is_open → Writes ok old new

-- A statement inside a transaction makes the rows `after r` of the database's rows `r`, if what it writes is in its range. If it may change
-- the rows, by `May`, and there is no limit on steps, it fails only with `Memory`, `Disk` or `Size`.
pub record ChangesOf {X : Type 0} (old new : State) (result : Result X RowFault) (InRange : Type 0) (May : Rows → Type 0) (after : Rows → Rows) : Type 0 where
  pub write : IsWritingCall old new (is_ok result)
  pub schema : HasCleanDisk new → IsTrue old.in_transaction → old.now.schema ≡ desk_schema → OnOk result (new.now.schema ≡ desk_schema)
  pub made : HasCleanDisk new → IsTrue old.in_transaction → InRange → (r : Rows) → Holds old.now r → OnOk result (Holds new.now (after r))
  pub in_order : HasCleanDisk new → IsTrue old.in_transaction → old.step_limit ≡ None → InRange → (r : Rows) → Holds old.now r → May r → IfErr result IsEven

-- ---- a connection or a transaction before a call and after it

-- a crash leaves what it left before the call
abbrev pub CommitsNothing : {S : Type 0} → Ghosts S → Held S → Held S → Type 0
CommitsNothing g old new = Survives (state g old) (state g new) (λ _. ⊥)

-- `Does` is true of the states before and after a call if the disk is clean after it
abbrev pub WhenClean : {S : Type 0} → Ghosts S → Held S → Held S → (State → State → Type 0) → Type 0
WhenClean g old new Does = HasCleanDisk (state g new) → Does (state g old) (state g new)

-- the same, if the call was inside a transaction
abbrev pub WhenInside : {S : Type 0} → Ghosts S → Transaction S → Transaction S → (State → State → Type 0) → Type 0
WhenInside g old new Does = HasCleanDisk (state g new.conn.now) → IsTrue (state g old.conn.now).in_transaction → Does (state g old.conn.now) (state g new.conn.now)

-- a writing call inside a transaction
abbrev pub WritesInside : {S X : Type 0} → Ghosts S → Transaction S → Transaction S → Result X RowFault → Type 0
WritesInside g old new result = IsWritingCall (state g old.conn.now) (state g new.conn.now) (is_ok result)

-- inside a transaction, if `Before` is true of the database before `Ok`, `After` is true of the one after it
abbrev pub LeadsTo : {S X : Type 0} → Ghosts S → Transaction S → Transaction S → Result X RowFault → (Database → Type 0) → (Database → Type 0) → Type 0
LeadsTo g old new result Before After = WhenInside g old new (λ old new. Before old.now → OnOk result (After new.now))

-- inside a transaction the rows that the database had by `Before` are those that it has by `After` after `Ok`
abbrev pub KeepsRows : {S X : Type 0} → Ghosts S → Transaction S → Transaction S → Result X RowFault → (Database → Rows → Type 0) → (Database → Rows → Type 0) → Type 0
KeepsRows g old new result Before After = WhenInside g old new (λ old new. (r : Rows) → Before old.now r → OnOk result (After new.now r))

-- a statement that writes this, inside a transaction
abbrev pub Changes : {S X : Type 0} → Ghosts S → Transaction S → Transaction S → Result X RowFault → Written → Type 0
Changes g old new result written = ChangesOf (state g old.conn.now) (state g new.conn.now) result written.InRange written.May written.after
