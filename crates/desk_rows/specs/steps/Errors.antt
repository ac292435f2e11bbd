-- What a query returned, and what is read from a row.
use Rattle.std.specs.Prelude.{◌≡◌, ◌<◌, ℕ, length, Option, Some, None, Result, Ok, Err, Bool, true, false}
use Rattle.desk_rows.specs.Faults.{IsEven, row_fault}
use Rattle.sqlite_value.specs.Order.{Row, column}
use Rattle.sqlite_value.specs.declared.value.Value.{Value}
use Rattle.sqlite.specs.declared.error.Error.{Error}
use Rattle.sqlite.specs.declared.error.Error.TheVariants.{SqliteFailure, QueryReturnedNoRows}
use Rattle.sqlite.specs.declared.error.ErrorCode.TheVariants as code
use Rattle.desk_rows.specs.declared.faults.RowFault.{RowFault}
use Rattle.desk_rows.specs.declared.faults.RowFault.TheVariants.{Memory, Row as OutOfRange}

-- the row that a query returned, if it returned one
abbrev pub found_of : Result Row Error → Result (Option Row) RowFault
found_of (Ok row) = Ok (Some row)
found_of (Err QueryReturnedNoRows) = Ok None
found_of (Err e) = Err (row_fault e)

-- a row was found
abbrev pub known_of : Result (Option Row) RowFault → Result Bool RowFault
known_of (Ok (Some row)) = Ok true
known_of (Ok None) = Ok false
known_of (Err fault) = Err fault

-- ---- reading a row

abbrev pub read_fault : Error → RowFault
read_fault (SqliteFailure code.OutOfMemory) = Memory
read_fault _ = OutOfRange

-- a value in its range that is at a place of a row is read
abbrev pub ReadsAt : {T : Type 0} → (T → Value) → (T → Type 0) → Row → ℕ → Result T RowFault → Type 0
ReadsAt {T} shows InRange row at result = (x : T) → InRange x → column row at ≡ shows x → at < length row → result ≡ Ok x

-- What is read from a place of a row is there, whatever the row is; else the error is that the row is out of its range.
abbrev pub StandsAt : {T : Type 0} → (T → Value) → Row → ℕ → Result T RowFault → Type 0
StandsAt shows row at (Ok x) = column row at ≡ shows x
StandsAt shows row at (Err fault) = fault ≡ OutOfRange

-- What is read from a row that shows a value in its range is that value. Reading such a row fails only if memory runs out.
abbrev pub Decodes : {T Seen : Type 0} → (T → Seen) → (Seen → Row) → (Seen → Type 0) → Row → Result T RowFault → Type 0
Decodes {Seen = Seen} seen shows InRange row (Ok x) = (y : Seen) → InRange y → row ≡ shows y → seen x ≡ y
Decodes {Seen = Seen} seen shows InRange row (Err fault) = (y : Seen) → InRange y → row ≡ shows y → IsEven fault
