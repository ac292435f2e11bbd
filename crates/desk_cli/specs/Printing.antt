-- A report that a command prints.
use Rattle.std.specs.Prelude.{◌≡◌, ◌⊎◌, ℕ, ℤ, List, Option, None, Result, Ok, Err}
use Rattle.std.specs.Io.KnownBytes.{Appends, Keeps}
use Rattle.registry_core.specs.State.{State}
use Rattle.desk_store.specs.Calls.{IsUnavailability}
use Rattle.desk_engine.specs.declared.report_faults.ReportFault.{ReportFault}
use Rattle.desk_engine.specs.declared.report_faults.ReportFault.TheVariants as report
use Rattle.desk_engine.specs.declared.report_faults.ReportFault.TheVariants.{Month, Time}
use Rattle.desk_engine.specs.Months.{IsMonth}
use Rattle.desk_engine.specs.Rooms.{time_in}
use Rattle.desk_http.specs.Reports.{IsDownlinkAnswer, IsOwnerAnswer, IsReceptionAnswer, IsRoomAnswer}
use Rattle.desk_cli.specs.Faults.{fault_of_report}
use Rattle.desk_cli.specs.declared.faults.Fault.{Fault}
use Rattle.desk_cli.specs.declared.faults.Fault.TheVariants.{File, Unavailable}

-- the error for a text that is not a month: that, or that the desk can't be read
abbrev pub RefusesMonth : Result (List ℕ) ReportFault → Type 0
RefusesMonth (Err Month) = Unit {0}
RefusesMonth (Err (report.Unavailable fault)) = IsUnavailability fault
RefusesMonth _ = ⊥

-- the report of a month, or why there is none; `Month` only for a text that isn't a month, whatever the report is about
pub record IsOfMonth (month : List ℕ) (IsAnswer : Result (List ℕ) ReportFault → Type 0) (answer : Result (List ℕ) ReportFault) : Type 0 where
  pub answer_is : IsAnswer answer
  pub bad_month : answer ≡ Err Month → (from to : ℤ) → ¬ (IsMonth month from to)
  pub no_month : ((from to : ℤ) → ¬ (IsMonth month from to)) → RefusesMonth answer

-- the owner's report of a month
abbrev pub IsOwnersMonth : State → List ℕ → List ℕ → Result (List ℕ) ReportFault → Type 0
IsOwnersMonth s owner month = IsOfMonth month (IsOwnerAnswer s owner month)

-- the receptions of a device in a month
abbrev pub IsDevicesMonth : State → List ℕ → List ℕ → Result (List ℕ) ReportFault → Type 0
IsDevicesMonth s dev_eui month = IsOfMonth month (IsReceptionAnswer s dev_eui month)

-- the downlinks of a gateway in a month
abbrev pub IsGatewaysMonth : State → List ℕ → List ℕ → Result (List ℕ) ReportFault → Type 0
IsGatewaysMonth s gateway month = IsOfMonth month (IsDownlinkAnswer s gateway month)

-- the error for a text that is not a time: that, or that the desk can't be read
abbrev pub RefusesTime : Result (List ℕ) ReportFault → Type 0
RefusesTime (Err Time) = Unit {0}
RefusesTime (Err (report.Unavailable fault)) = IsUnavailability fault
RefusesTime _ = ⊥

-- the gateway's room at a time, or why there is none; `Time` only for a text that isn't a time, whoever the gateway is
pub record IsGatewaysRoom (s : State) (gateway time : List ℕ) (answer : Result (List ℕ) ReportFault) : Type 0 where
  pub answer_is : IsRoomAnswer s gateway time answer
  pub bad_time : answer ≡ Err Time → time_in time ≡ None
  pub no_time : time_in time ≡ None → RefusesTime answer

-- `Kept` states that the desk's file is unchanged, and `Left` that a crash leaves it. `before` and `after` are what the writer has before
-- and after. What follows is for the report that was asked for, or why there is none.
module _ (Kept Left : Type 0) (before after : Option (List ℕ)) where
  -- exactly the report was written; or why not, and then nothing was, unless the writer failed
  abbrev pub PrintsAnswer : {T : Type 0} → Result (List ℕ) ReportFault → Result T Fault → Type 0
  PrintsAnswer (Ok text) (Ok x) = Appends before after text × Kept
  PrintsAnswer (Ok text) (Err fault) = (fault ≡ File) × Kept
  PrintsAnswer (Err why) (Ok x) = ⊥
  PrintsAnswer (Err why) (Err fault) = (fault ≡ fault_of_report why) × Keeps before after × ((fault ≡ Unavailable) ⊎ Kept) × Left

  pub record PrintsBy (IsAnswer : Result (List ℕ) ReportFault → Type 0) {T : Type 0} (result : Result T Fault) : Type 0 where
    pub answer : Result (List ℕ) ReportFault
    pub answer_is : IsAnswer answer
    pub prints : PrintsAnswer answer result
