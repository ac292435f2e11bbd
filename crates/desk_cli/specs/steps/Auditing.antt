-- What an audit has found, alone and as it is printed.
use Rattle.std.specs.Prelude.{◌≡◌, ◌⊎◌, ℕ, List, Option, Some, None, Result, Ok, Err}
use Rattle.std.specs.Io.KnownBytes.{Appends, Keeps}
use Rattle.desk_cli.specs.commands.Auditing.{audit_text}
use Rattle.desk_cli.specs.declared.audit.Finding.{Finding}
use Rattle.desk_cli.specs.declared.audit.Finding.TheVariants as found
use Rattle.desk_cli.specs.declared.faults.Fault.{Fault}
use Rattle.desk_cli.specs.declared.faults.Fault.TheVariants.{Differs, Unavailable, File}

-- the finding of an audit, without the store of its scratch database
abbrev pub finding_of : {R : Type 0} → Result (Finding × R) Fault → Result Finding Fault
finding_of (Ok both) = Ok both.0
finding_of (Err why) = Err why

-- the store, if the audit was completed
abbrev pub store_of : {R : Type 0} → Result (Finding × R) Fault → Option R
store_of (Ok both) = Some both.1
store_of (Err why) = None

-- that the file is in order is printed; or the writer or memory failed, or it isn't, and that is returned
abbrev pub PrintsFinding : {T : Type 0} → Result Finding Fault → (before after : Option (List ℕ)) → Result T Fault → Type 0
PrintsFinding (Ok (found.InOrder count)) before after (Ok x) = Appends before after (audit_text count)
PrintsFinding (Ok (found.InOrder count)) before after (Err fault) = (fault ≡ File) ⊎ ((fault ≡ Unavailable) × Keeps before after)
PrintsFinding (Ok (found.Differs place)) before after (Ok x) = ⊥
PrintsFinding (Ok (found.Differs place)) before after (Err fault) = (fault ≡ Differs place) × Keeps before after
PrintsFinding (Err why) before after (Ok x) = ⊥
PrintsFinding (Err why) before after (Err fault) = (fault ≡ why) × Keeps before after
