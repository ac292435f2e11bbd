-- Texts that may be asked for, and the answer to each: the text, or why there is none.
use Rattle.std.specs.Prelude.{◌≡◌, ◌↔◌, ℕ, List, [], ℤ, Some, None, Result, Err, IfOk, IfErr, OnOk, IsTrue, codes}
use Rattle.registry_core.specs.declared.messages.Envelope.{Envelope}
use Rattle.registry_core.specs.Heard.{state_of}
use Rattle.registry_core.specs.Settings.{Settings}
use Rattle.registry_core.specs.State.{State}
use Rattle.desk_store.specs.Calls.{IsUnavailability}
use Rattle.desk_engine.specs.declared.lists.ListOf.{ListOf}
use Rattle.desk_engine.specs.declared.log.LogText.{LogText}
use Rattle.desk_engine.specs.declared.report_faults.ReportFault.{ReportFault}
use Rattle.desk_engine.specs.declared.report_faults.ReportFault.TheVariants.{Month, Time, Unavailable}
use Rattle.desk_engine.specs.Lines.{input_of}
use Rattle.desk_engine.specs.Listing.{IsDeviceAnswer, IsDeviceFault, IsListAnswer, is_device}
use Rattle.desk_engine.specs.Log.{log_of}
use Rattle.desk_engine.specs.MonthReports.{IsDownlinkReport, IsReceptionReportOf}
use Rattle.desk_engine.specs.Months.{IsMonth}
use Rattle.desk_engine.specs.Reporting.{IsOwnerFault, IsGatewayFault}
use Rattle.desk_engine.specs.Reports.{IsBandReport, IsOwnerReport, is_gateway, is_owner}
use Rattle.desk_engine.specs.Rooms.{IsRoomReport, time_in}

-- the report on an owner for a month; the report of a gateway's bands; its room at a time; the log from this number on, of messages or of
-- answers; a list; one device; the receptions of a device in a month; the downlinks of a gateway in a month
pub data Report : Type 0 where
  owner_report : (owner month : List ℕ) → Report
  band_report : (gateway : List ℕ) → Report
  room_report : (gateway time : List ℕ) → Report
  log_part : (which : LogText) (from : ℕ) → Report
  list_of : (of : ListOf) → Report
  device_report : (dev_eui : List ℕ) → Report
  reception_report : (dev_eui month : List ℕ) → Report
  downlink_report : (gateway month : List ℕ) → Report

-- the content type of its text
abbrev pub kind_of : Report → List ℕ
kind_of (log_part which from) = codes "application/x-ndjson"
kind_of _ = codes "text/csv"

-- the greatest number of log lines in one response (this project's limit)
abbrev pub most_lines : ℕ
most_lines = 1000

-- if the month is one: the report from its beginning to its end if what it is about is known, and else why not
pub record IsMonthAnswer (month : List ℕ) (IsKnown : Type 0) (IsReport : ℤ → ℤ → List ℕ → Type 0) (IsFault : ReportFault → Type 0) (answer : Result (List ℕ) ReportFault) : Type 0 where
  pub known : OnOk answer IsKnown
  pub report : (from to : ℤ) → IsMonth month from to → IfOk answer (IsReport from to)
  pub fault : (from to : ℤ) → IsMonth month from to → IfErr answer IsFault

-- the answer to an owner's month, by the registry's facts
abbrev pub IsOwnerAnswer : State → List ℕ → List ℕ → Result (List ℕ) ReportFault → Type 0
IsOwnerAnswer s owner month = IsMonthAnswer month (IsTrue (is_owner s owner)) (IsOwnerReport s owner) (IsOwnerFault s owner)

-- the answer to the receptions of a device in a month
abbrev pub IsReceptionAnswer : State → List ℕ → List ℕ → Result (List ℕ) ReportFault → Type 0
IsReceptionAnswer s dev_eui month = IsMonthAnswer month (IsTrue (is_device s dev_eui)) (IsReceptionReportOf s dev_eui) (IsDeviceFault s dev_eui)

-- the answer to the downlinks of a gateway in a month
abbrev pub IsDownlinkAnswer : State → List ℕ → List ℕ → Result (List ℕ) ReportFault → Type 0
IsDownlinkAnswer s gateway month = IsMonthAnswer month (IsTrue (is_gateway s gateway)) (IsDownlinkReport s gateway) (IsGatewayFault s gateway)

-- the report if the gateway is known, and else why not
pub record IsBandAnswer (s : State) (gateway : List ℕ) (answer : Result (List ℕ) ReportFault) : Type 0 where
  pub known : OnOk answer (IsTrue (is_gateway s gateway))
  pub report : IfOk answer (IsBandReport s gateway)
  pub fault : IfErr answer (IsGatewayFault s gateway)

-- the answer by the registry's facts: if the time is one, the report if the gateway is known, and else why not
pub record IsRoomAnswer (s : State) (gateway time : List ℕ) (answer : Result (List ℕ) ReportFault) : Type 0 where
  pub known : OnOk answer (IsTrue (is_gateway s gateway))
  pub report : (at : ℕ) → time_in time ≡ Some at → IfOk answer (IsRoomReport s gateway at)
  pub fault : (at : ℕ) → time_in time ≡ Some at → IfErr answer (IsGatewayFault s gateway)

-- why there is no log
abbrev pub IsLogFault : ReportFault → Type 0
IsLogFault (Unavailable fault) = IsUnavailability fault
IsLogFault _ = ⊥

-- the answer after this log: its lines from this number on, each with an LF
pub record IsLogAnswer (c : Settings) (heard : List Envelope) (which : LogText) (from : ℕ) (answer : Result (List ℕ) ReportFault) : Type 0 where
  pub lines : IfOk answer (λ text. text ≡ input_of (log_of which c heard from most_lines) [])
  pub fault : IfErr answer IsLogFault

-- the answer to what was asked for, after this log
abbrev pub IsAnswer : Settings → List Envelope → Report → Result (List ℕ) ReportFault → Type 0
IsAnswer c heard (owner_report owner month) answer = IsOwnerAnswer (state_of c heard) owner month answer
IsAnswer c heard (band_report gateway) answer = IsBandAnswer (state_of c heard) gateway answer
IsAnswer c heard (room_report gateway time) answer = IsRoomAnswer (state_of c heard) gateway time answer
IsAnswer c heard (log_part which from) answer = IsLogAnswer c heard which from answer
IsAnswer c heard (list_of of) answer = IsListAnswer of c heard answer
IsAnswer c heard (device_report dev_eui) answer = IsDeviceAnswer c heard dev_eui answer
IsAnswer c heard (reception_report dev_eui month) answer = IsReceptionAnswer (state_of c heard) dev_eui month answer
IsAnswer c heard (downlink_report gateway month) answer = IsDownlinkAnswer (state_of c heard) gateway month answer

-- the report is refused for its month if and only if that is not a month
abbrev pub RefusesMonth : List ℕ → Result (List ℕ) ReportFault → Type 0
RefusesMonth month answer = (answer ≡ Err Month) ↔ ((from to : ℤ) → ¬ (IsMonth month from to))

-- Whatever was heard: a report of a month is refused for it if and only if that is not a month, and a room's for its time if and only if
-- that is not a time.
abbrev pub RefusesTime : Report → Result (List ℕ) ReportFault → Type 0
RefusesTime (owner_report owner month) answer = RefusesMonth month answer
RefusesTime (reception_report dev_eui month) answer = RefusesMonth month answer
RefusesTime (downlink_report gateway month) answer = RefusesMonth month answer
RefusesTime (room_report gateway time) answer = (answer ≡ Err Time) ↔ (time_in time ≡ None)
RefusesTime _ answer = Unit {0}
