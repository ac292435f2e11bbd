-- The errors of commands: their lines on standard error, their exit statuses, and the command's error for each error of a store.
use Rattle.std.specs.Prelude.{◌≡◌, ◌++◌, ◌∷◌, ℕ, List, [], Option, Result, Ok, Err, codes}
use Rattle.std.specs.Fmt.{decimal}
use Rattle.std.specs.Io.KnownBytes.{Appends}
use Rattle.std.specs.declared.io.Write.{Ghosts}
use Rattle.desk_store.specs.declared.faults.StoreFault.{StoreFault}
use Rattle.desk_store.specs.declared.faults.StoreFault.TheVariants as store
use Rattle.desk_engine.specs.declared.report_faults.ReportFault.{ReportFault}
use Rattle.desk_engine.specs.declared.report_faults.ReportFault.TheVariants as report
use Rattle.desk_wire.specs.declared.csv_faults.CsvFault.{CsvFault}
use Rattle.desk_wire.specs.declared.csv_faults.CsvFault.TheVariants as csv
use Rattle.desk_engine.specs.Lines.{line_feed}
use Rattle.desk_cli.specs.declared.audit.Place.{Place}
use Rattle.desk_cli.specs.declared.audit.Table.{Table}
use Rattle.desk_cli.specs.declared.audit.Table.TheVariants as table
use Rattle.desk_cli.specs.declared.endings.Ending.{Ending}
use Rattle.desk_cli.specs.declared.endings.Ending.TheVariants as ending
use Rattle.desk_cli.specs.declared.faults.Fault.{Fault}
use Rattle.desk_cli.specs.declared.faults.Fault.TheVariants.{Exists, NotADesk, Schema, Owner, Gateway, Device, Month, Time, CsvSize, CsvEnd, CsvHeader, CsvRecord, Differs, Unavailable, File, Network}

-- the exit status: memory, the file, the streams or the network failed; for any other error the command is refused
abbrev pub ending_of_fault : Fault → Ending
ending_of_fault Unavailable = ending.Failed
ending_of_fault File = ending.Failed
ending_of_fault Network = ending.Failed
ending_of_fault _ = ending.Refused

-- ---- the line on standard error

-- the name of a table
abbrev pub table_name : Table → List ℕ
table_name table.Meta = codes "meta"
table_name table.Sender = codes "sender"
table_name table.Reply = codes "reply"
table_name table.Owner = codes "owner"
table_name table.Gateway = codes "gateway"
table_name table.Device = codes "device"
table_name table.Session = codes "session"
table_name table.Uplink = codes "uplink"
table_name table.Copy = codes "copy"
table_name table.Booking = codes "booking"
table_name table.BandLimit = codes "band_limit"

-- a row of a file: its table, and its number there
abbrev pub place_text : Place → List ℕ
place_text place = table_name place.table ++ (codes " " ++ decimal place.row)

-- the text of an error
abbrev pub fault_word : Fault → List ℕ
fault_word Exists = codes "exists"
fault_word NotADesk = codes "not a desk"
fault_word Schema = codes "schema"
fault_word Owner = codes "owner"
fault_word Gateway = codes "gateway"
fault_word Device = codes "device"
fault_word Month = codes "month"
fault_word Time = codes "time"
fault_word CsvSize = codes "csv size"
fault_word CsvEnd = codes "csv end"
fault_word CsvHeader = codes "csv header"
fault_word (CsvRecord n) = codes "csv record " ++ decimal n
fault_word (Differs place) = codes "differs at " ++ place_text place
fault_word Unavailable = codes "unavailable"
fault_word File = codes "file"
fault_word Network = codes "network"

-- the line of an error on standard error
abbrev pub fault_line : Fault → List ℕ
fault_line fault = codes "desk: " ++ (fault_word fault ++ line_feed ∷ [])

-- Between `before` and `after` a text was written, or its first octets if a write failed.
pub record IsBegun (before after : Option (List ℕ)) (text : List ℕ) : Type 0 where
  pub written : List ℕ
  pub rest : List ℕ
  pub parts : text ≡ written ++ rest
  pub appends : Appends before after written

-- ---- how a command ends

-- `f` are the ghost members of the type that writes standard error, `before` and `after` the writer.
module _ {F : Type 0} (f : Ghosts F) (before after : F) where
  -- By the command's result: with `Ok` nothing is written, with an error its line.
  abbrev pub EndsBy : Ending → Result (Unit {0}) Fault → Type 0
  EndsBy ends (Ok x) = (ends ≡ ending.Done) × (after ≡ before)
  EndsBy ends (Err fault) = (ends ≡ ending_of_fault fault) × IsBegun (f.contents before) (f.contents after) (fault_line fault)

  -- by some result of a command
  abbrev pub EndsBySome : Ending → Type 0
  EndsBySome ends = (done : Result (Unit {0}) Fault) × EndsBy ends done

  -- The command ended with a result that satisfies this.
  pub record Ends (ends : Ending) (Says : Result (Unit {0}) Fault → Type 0) : Type 0 where
    pub result : Result (Unit {0}) Fault
    pub ended : EndsBy ends result
    pub says : Says result

  -- The command ended and gave something back, and both satisfy this.
  abbrev pub EndsGiving : {X : Type 0} → Ending × X → (X → Result (Unit {0}) Fault → Type 0) → Type 0
  EndsGiving both Says = Ends both.0 (Says both.1)

-- ---- the errors of the crates below

-- refusals 32 to 34, and `Exists`
abbrev pub fault_of_store : StoreFault → Fault
fault_of_store store.Memory = Unavailable
fault_of_store store.Disk = Unavailable
fault_of_store store.Size = Unavailable
fault_of_store store.NotADesk = NotADesk
fault_of_store store.SchemaVersion = Schema
fault_of_store store.Exists = Exists

-- refusals 31, 10, 11 and 12
abbrev pub fault_of_report : ReportFault → Fault
fault_of_report report.Month = Month
fault_of_report report.Time = Time
fault_of_report report.Owner = Owner
fault_of_report report.Gateway = Gateway
fault_of_report report.Device = Device
fault_of_report (report.Unavailable fault) = fault_of_store fault

-- why a text isn't a gateway report
abbrev pub fault_of_csv : CsvFault → Fault
fault_of_csv csv.Size = CsvSize
fault_of_csv csv.Unended = CsvEnd
fault_of_csv csv.Header = CsvHeader
fault_of_csv (csv.Record n) = CsvRecord n
fault_of_csv csv.Memory = Unavailable
