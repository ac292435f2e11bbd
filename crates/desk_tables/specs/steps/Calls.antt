-- What several statements in a row do: those that read, those that write inside a transaction, and a whole transaction.
use Rattle.std.specs.Prelude.{◌≡◌, ◌≤◌, false, Result, IsTrue, IfOk, IfErr, OnOk, OnErr, None}
use Rattle.std.specs.Result.{is_ok}
use Rattle.sqlite_trees.specs.View.{doubt}
use Rattle.sqlite_schema.specs.declared.schema.Schema.{Schema}
use Rattle.sqlite.specs.Effect.{Database}
use Rattle.sqlite.specs.State.{State, HasCleanDisk, Survives}
use Rattle.desk_rows.specs.Calls.{IsReadingCallOf, IsWritingCall}
use Rattle.desk_rows.specs.Faults.{IsEven}
use Rattle.desk_rows.specs.Rows.{Rows, Holds}
use Rattle.desk_rows.specs.Migrating.{HoldsFirst}
use Rattle.desk_rows.specs.Schema.{desk_schema, first_schema}
use Rattle.desk_rows.specs.declared.faults.RowFault.{RowFault}

-- Look-ups in a row, over tables of this schema, change nothing. What they return satisfies `Says` for the rows that the database has by
-- `Have`, if these satisfy `Of`. If the rows also satisfy `May`, and there is no limit on steps, the look-ups fail only with `Memory`,
-- `Disk` or `Size`.
pub record AsksOf (desk : Schema) (Have : Database → Rows → Type 0) {X : Type 0} (old new : State) (result : Result X RowFault) (Of May : Rows → Type 0)
    (Says : Rows → X → Type 0) : Type 0 where
  pub read : IsReadingCallOf desk old new (is_ok result)
  pub told : HasCleanDisk new → IsTrue old.is_open → (r : Rows) → Have old.now r → Of r → IfOk result (Says r)
  pub in_order : HasCleanDisk new → IsTrue old.is_open → old.step_limit ≡ None → (r : Rows) → Have old.now r → Of r → May r → IfErr result IsEven

-- look-ups over the tables of schema 2
abbrev pub Asks : {X : Type 0} → State → State → Result X RowFault → (Of May : Rows → Type 0) → (Rows → X → Type 0) → Type 0
Asks = AsksOf desk_schema Holds

-- look-ups over the tables of schema 1
abbrev pub AsksFirst : {X : Type 0} → State → State → Result X RowFault → (Of May : Rows → Type 0) → (Rows → X → Type 0) → Type 0
AsksFirst = AsksOf first_schema HoldsFirst

-- inside a transaction of a connection that is open
pub record IsInside (s : State) : Type 0 where
  pub within : IsTrue s.in_transaction
  pub is_open : IsTrue s.is_open

-- Statements in a row inside a transaction make the rows `after r` of the database's rows `r`, if these satisfy `Of`. If they also satisfy
-- `May`, and there is no limit on steps, the statements fail only with `Memory`, `Disk` or `Size`.
pub record Makes {X : Type 0} (old new : State) (result : Result X RowFault) (Of May : Rows → Type 0) (after : Rows → Rows) : Type 0 where
  pub write : IsWritingCall old new (is_ok result)
  pub schema : HasCleanDisk new → IsInside old → old.now.schema ≡ desk_schema → OnOk result (new.now.schema ≡ desk_schema)
  pub made : HasCleanDisk new → IsInside old → (r : Rows) → Holds old.now r → Of r → OnOk result (Holds new.now (after r))
  pub in_order : HasCleanDisk new → IsInside old → old.step_limit ≡ None → (r : Rows) → Holds old.now r → Of r → May r → IfErr result IsEven

-- the connection is open, its tables are a desk's, and everything is committed
pub record IsReady (s : State) : Type 0 where
  pub is_open : IsTrue s.is_open
  pub schema : s.now.schema ≡ desk_schema
  pub committed : s.now ≡ s.committed

-- A whole transaction on a connection that is ready. It makes the rows `after r` of the rows `r`, and the connection is ready again; or it
-- leaves what was there. A crash leaves what it left before, or these rows.
pub record Commits {X : Type 0} (old new : State) (result : Result X RowFault) (Of May : Rows → Type 0) (after : Rows → Rows) : Type 0 where
  pub clean : doubt old.is_clean ≤ doubt new.is_clean
  pub mode : new.in_transaction ≡ false
  pub limit : HasCleanDisk new → IsReady old → new.step_limit ≡ old.step_limit
  pub ready : HasCleanDisk new → IsReady old → OnOk result (IsReady new)
  pub made : HasCleanDisk new → IsReady old → (r : Rows) → Holds old.now r → Of r → OnOk result (Holds new.now (after r))
  pub neither : HasCleanDisk new → IsReady old → IsTrue new.is_open → OnErr result ((new.now ≡ old.now) × (new.committed ≡ old.committed))
  pub crash : HasCleanDisk new → IsReady old → (r : Rows) → Holds old.now r → Of r
      → Survives old new (λ trees. Holds (record { schema = desk_schema; trees = trees }) (after r))
  pub in_order : HasCleanDisk new → IsReady old → old.step_limit ≡ None → (r : Rows) → Holds old.now r → Of r → May r → IfErr result IsEven
