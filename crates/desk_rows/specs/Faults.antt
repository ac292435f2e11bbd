-- The error of a call for SQLite's error, and which errors never come over a desk's tables.
use Rattle.std.specs.Prelude.{◌≡◌, Bool, true, false}
use Rattle.sqlite.specs.declared.error.Error.{Error}
use Rattle.sqlite.specs.declared.error.Error.TheVariants.{SqliteFailure}
use Rattle.sqlite.specs.declared.error.ErrorCode.TheVariants as code
use Rattle.desk_rows.specs.declared.faults.RowFault.{RowFault}
use Rattle.desk_rows.specs.declared.faults.RowFault.TheVariants.{Memory, Disk, Size, Refused, Row as OutOfRange}

-- the error by SQLite's code: out of memory, disk, out of space, or any other cause
abbrev pub row_fault : Error → RowFault
row_fault (SqliteFailure code.OutOfMemory) = Memory
row_fault (SqliteFailure code.SystemIoFailure) = Disk
row_fault (SqliteFailure code.DatabaseCorrupt) = Disk
row_fault (SqliteFailure code.Closed) = Disk
row_fault (SqliteFailure code.TooBig) = Size
row_fault (SqliteFailure code.DiskFull) = Size
row_fault _ = Refused

abbrev pub is_odd : RowFault → Bool
is_odd OutOfRange = true
is_odd Refused = true
is_odd _ = false

abbrev pub IsEven : RowFault → Type 0
IsEven fault = is_odd fault ≡ false
