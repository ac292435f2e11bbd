-- The transaction that moves the tables of schema 1 to schema 2.
use Rattle.std.specs.Prelude.{◌≡◌, ◌≤◌, false, None, IsTrue, IfErr, OnErr, OnOk, Result}
use Rattle.std.specs.Result.{is_ok}
use Rattle.sqlite_trees.specs.Tree.{Trees}
use Rattle.sqlite_trees.specs.View.{doubt}
use Rattle.sqlite.specs.State.{State, HasCleanDisk, Survives}
use Rattle.desk_rows.specs.Calls.{IsWritingCall}
use Rattle.desk_rows.specs.Faults.{IsEven}
use Rattle.desk_rows.specs.Migrating.{HoldsFirst}
use Rattle.desk_rows.specs.Rows.{Holds, Rows}
use Rattle.desk_rows.specs.declared.faults.RowFault.{RowFault}
use Rattle.desk_tables.specs.Opening.{TreesHold}
use Rattle.desk_tables.specs.steps.Calls.{IsInside}

-- the trees have the rows of the tables before
abbrev pub AreRowsBefore : State → Trees → Type 0
AreRowsBefore old trees = (r : Rows) → HoldsFirst old.now r → TreesHold trees r

-- the same, and the error isn't that they aren't a desk
abbrev pub AreMoved : State → Result (Unit {0}) RowFault → Trees → Type 0
AreMoved old result trees = AreRowsBefore old trees × IfErr result IsEven

-- Inside a transaction the two statements make schema 2 of the rows of schema 1. With no limit on steps they fail only with `Memory`,
-- `Disk` or `Size`.
pub record MakesSecond (old new : State) (result : Result (Unit {0}) RowFault) : Type 0 where
  pub write : IsWritingCall old new (is_ok result)
  pub made : HasCleanDisk new → IsInside old → (r : Rows) → HoldsFirst old.now r → OnOk result (Holds new.now r)
  pub in_order : HasCleanDisk new → IsInside old → old.step_limit ≡ None → (r : Rows) → HoldsFirst old.now r → IfErr result IsEven

-- On a connection that is open, the transaction ends with the rows of the tables before in schema 2, everything committed, or it leaves
-- what was committed. A crash leaves what it left before, or these rows; not these rows if the error is that they aren't a desk.
pub record Moves (old new : State) (result : Result (Unit {0}) RowFault) : Type 0 where
  pub clean : doubt old.is_clean ≤ doubt new.is_clean
  pub mode : new.in_transaction ≡ false
  pub limit : new.step_limit ≡ old.step_limit
  pub open_still : HasCleanDisk new → IsTrue old.is_open → OnOk result (IsTrue new.is_open)
  pub committed : HasCleanDisk new → IsTrue old.is_open → OnOk result (new.committed ≡ new.now)
  pub made : HasCleanDisk new → IsTrue old.is_open → (r : Rows) → HoldsFirst old.now r → OnOk result (Holds new.now r)
  pub neither : HasCleanDisk new → IsTrue old.is_open → IsTrue new.is_open
      → OnErr result ((new.now ≡ old.committed) × (new.committed ≡ old.committed))
  pub crash : HasCleanDisk new → IsTrue old.is_open → Survives old new (AreMoved old result)
  pub in_order : HasCleanDisk new → IsTrue old.is_open → old.step_limit ≡ None → (r : Rows) → HoldsFirst old.now r → IfErr result IsEven
