-- A report, or why there is none, as it is printed.
use Rattle.std.proofs.Common.{subst}
use Rattle.std.specs.Prelude.{◌≡◌, ℕ, ℤ, List, Option, Result, Ok, Err}
use Rattle.std.specs.Io.KnownBytes.{Appends, Keeps}
use Rattle.desk_store.specs.declared.faults.StoreFault.TheVariants.{Memory}
use Rattle.desk_engine.specs.declared.report_faults.ReportFault.{ReportFault}
use Rattle.desk_engine.specs.declared.report_faults.ReportFault.TheVariants.{Unavailable}
use Rattle.registry_core.specs.State.{State}
use Rattle.desk_cli.specs.Faults.{fault_of_report}
use Rattle.desk_http.specs.Reports.{IsMonthAnswer}
use Rattle.desk_cli.specs.Printing.{IsGatewaysRoom, IsOfMonth}
use Rattle.desk_cli.specs.declared.faults.Fault.{Fault}
use Rattle.desk_cli.specs.declared.faults.Fault.TheVariants.{File}

-- the octets of a report
abbrev pub shown : {X : Type 0} → (X → List ℕ) → Result X ReportFault → Result (List ℕ) ReportFault
shown octets (Ok text) = Ok (octets text)
shown octets (Err why) = Err why

-- there was no memory to look it up
abbrev pub unasked : Result (List ℕ) ReportFault
unasked = Err (Unavailable Memory)

abbrev IsUnasked : Result (List ℕ) ReportFault → Type 0
IsUnasked (Err (Unavailable fault)) = Unit {0}
IsUnasked _ = ⊥

-- that may be answered for any month
pub unasked_month : {month : List ℕ} {IsKnown : Type 0} {IsReport : ℤ → ℤ → List ℕ → Type 0} {IsFault : ReportFault → Type 0} → IsFault (Unavailable Memory)
    → IsOfMonth month (IsMonthAnswer month IsKnown IsReport IsFault) unasked
unasked_month fault = record {
  answer_is = record { known = tt; report = λ from to is. tt; fault = λ from to is. fault };
  bad_month = λ is. absurd (subst IsUnasked is tt);
  no_month = λ none. tt;
}

-- and for any gateway's room
pub unasked_room : (s : State) (gateway time : List ℕ) → IsGatewaysRoom s gateway time unasked
unasked_room s gateway time = record {
  answer_is = record { known = tt; report = λ at is. tt; fault = λ at is. tt };
  bad_time = λ is. absurd (subst IsUnasked is tt);
  no_time = λ none. tt;
}

abbrev pub IsPrinted : {X T : Type 0} → (X → List ℕ) → Result X ReportFault → Option (List ℕ) → Option (List ℕ) → Result T Fault → Type 0
IsPrinted octets (Ok text) before after (Ok x) = Appends before after (octets text)
IsPrinted octets (Ok text) before after (Err fault) = fault ≡ File
IsPrinted octets (Err why) before after (Ok x) = ⊥
IsPrinted octets (Err why) before after (Err fault) = (fault ≡ fault_of_report why) × Keeps before after
