-- What an error of the connection is to the store, and the state after it.
use Rattle.std.specs.Prelude.{◌≡◌, ◌||◌, Bool, true, false, Result, Ok, Err, Some, IsTrue}
use Rattle.sqlite_trees.specs.declared.store.Store.{Ghosts}
use Rattle.sqlite.specs.Held.{state}
use Rattle.sqlite.specs.State.{State, HasCleanDisk, Survives}
use Rattle.desk_store.specs.declared.faults.StoreFault.{StoreFault}
use Rattle.desk_store.specs.declared.faults.StoreFault.TheVariants.{Size as NoRoom}
use Rattle.desk_store.specs.Calls.{is_disk, is_not_a_desk}
use Rattle.desk_rows.specs.declared.faults.RowFault.{RowFault}
use Rattle.desk_rows.specs.declared.faults.RowFault.TheVariants.{Memory, Size}
use Rattle.desk_tables.specs.declared.tables.Tables.{Tables}
use Rattle.desk_tables.specs.steps.Faults.{store_fault}

-- A look-up writes nothing, so `Size` is that of a value for which there was no memory.
abbrev pub reading_fault : RowFault → RowFault
reading_fault Size = Memory
reading_fault fault = fault

-- the connection was open and is, and what was committed is still there
pub record StaysOpen (old new : State) : Type 0 where
  pub was_open : IsTrue old.is_open
  pub open_still : IsTrue new.is_open
  pub kept : old.now ≡ old.committed → (new.now ≡ old.now) × (new.committed ≡ old.committed)

-- The store's error is that of the connection if the connection is still open, and else `Disk`.
pub record IsCheckedFault (old new : State) (fault : RowFault) (told : StoreFault) : Type 0 where
  pub survives : Survives old new (λ _. ⊥)
  pub mode : old.in_transaction ≡ false → new.in_transaction ≡ false
  pub same : is_disk (Some told) ≡ false → told ≡ store_fault fault
  pub stands : HasCleanDisk new → is_disk (Some told) ≡ false → StaysOpen old new

-- the medium named its own size
abbrev pub is_size : StoreFault → Bool
is_size NoRoom = true
is_size _ = false

module _ {S : Type 0} (g : Ghosts S) where
  -- and the store notes whether it is `Disk` or `NotADesk`
  pub record Fails (old new : Tables S) (fault : RowFault) (told : StoreFault) : Type 0 where
    pub checked : IsCheckedFault (state g old.conn) (state g new.conn) fault told
    pub same : new ≡ record old { conn = new.conn; failed = is_disk (Some told) || old.failed; not_a_desk = is_not_a_desk (Some told) || old.not_a_desk }

  -- the result of a look-up for a result of the connection
  abbrev pub IsTold : {T : Type 0} → Tables S → Tables S → Result T RowFault → Result T StoreFault → Type 0
  IsTold old new (Ok x) result = (result ≡ Ok x) × (new ≡ old)
  IsTold old new (Err fault) result = (told : StoreFault) × (result ≡ Err told) × Fails old new (reading_fault fault) told
