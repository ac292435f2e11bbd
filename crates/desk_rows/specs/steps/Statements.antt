-- What is known of a statement that writes, before its text is looked at.
use Rattle.std.specs.Prelude.{◌≡◌, ℕ, List, Result, Ok, Err, IsTrue, IfErr, OnOk}
use Rattle.std.specs.Result.{is_ok}
use Rattle.sqlite_value.specs.Order.{Row}
use Rattle.sqlite.specs.declared.error.Error.{Error}
use Rattle.sqlite.specs.State.{State, HasCleanDisk, Executes, ExecutesInside}
use Rattle.desk_rows.specs.Calls.{IsWritingCall}
use Rattle.desk_rows.specs.Faults.{row_fault}
use Rattle.desk_rows.specs.declared.faults.RowFault.{RowFault}

-- the statement was run inside the transaction
pub record HasWritten (sql : List ℕ) (params : Row) (old new : State) (result : Result (Unit {0}) RowFault) : Type 0 where
  pub write : IsWritingCall old new (is_ok result)
  pub runs : HasCleanDisk new → IsTrue old.in_transaction → OnOk result ((count : ℕ) × Executes sql params old new (Ok count))
  pub fails : HasCleanDisk new → IsTrue old.in_transaction → IfErr result (λ fault. (e : Error) × (fault ≡ row_fault e) × ExecutesInside 0 sql params old new (Err e))
