-- The store's error for each error of a row call.
use Rattle.desk_rows.specs.declared.faults.RowFault.{RowFault}
use Rattle.desk_rows.specs.declared.faults.RowFault.TheVariants.{Memory, Disk, Size, Row, Refused}
use Rattle.desk_store.specs.declared.faults.StoreFault.{StoreFault}
use Rattle.desk_store.specs.declared.faults.StoreFault.TheVariants.{Memory as NoMemory, Disk as NoDisk, Size as NoRoom, NotADesk}

-- a row out of its range is not a desk's, and neither is a schema that refuses a desk's statement
abbrev pub store_fault : RowFault → StoreFault
store_fault Memory = NoMemory
store_fault Disk = NoDisk
store_fault Size = NoRoom
store_fault Row = NotADesk
store_fault Refused = NotADesk
