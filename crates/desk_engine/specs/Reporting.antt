-- Why there is no report, and what a call that makes a report returns.
use Rattle.std.specs.Prelude.{◌≡◌, ℕ, false, List, Option, Some, None, Result, Err, IfErr, IfOk, IsTrue, OnOk}
use Rattle.std.specs.Global.{Vec}
use Rattle.registry_core.specs.declared.messages.Envelope.{Envelope}
use Rattle.registry_core.specs.Heard.{state_of}
use Rattle.registry_core.specs.Settings.{Settings}
use Rattle.registry_core.specs.State.{State}
use Rattle.desk_store.specs.declared.faults.StoreFault.{StoreFault}
use Rattle.desk_store.specs.Calls.{ForHeld, IsUnavailability}
use Rattle.desk_store.specs.Meaning.{Meaning}
use Rattle.desk_engine.specs.declared.report_faults.ReportFault.{ReportFault}
use Rattle.desk_engine.specs.declared.report_faults.ReportFault.TheVariants.{Month, Time, Owner, Gateway, Device, Unavailable}
use Rattle.desk_engine.specs.InOrder.{ForLog, WasInOrder}
use Rattle.desk_engine.specs.Listing.{IsDeviceFault, device_text, is_device}
use Rattle.desk_engine.specs.MonthReports.{IsDownlinkReport, IsReceptionReportOf}
use Rattle.desk_engine.specs.Months.{ForMonth}
use Rattle.desk_engine.specs.Reports.{IsBandReport, IsOwnerReport, is_gateway, is_owner}
use Rattle.desk_engine.specs.Rooms.{IsRoomReport, time_in}

-- the store's error, if that is why there is no report
abbrev pub store_fault_in : {T : Type 0} → Result T ReportFault → Option StoreFault
store_fault_in (Err (Unavailable fault)) = Some fault
store_fault_in _ = None

-- why there is no report on an owner, if the month is one
abbrev pub IsOwnerFault : State → List ℕ → ReportFault → Type 0
IsOwnerFault s owner Owner = is_owner s owner ≡ false
IsOwnerFault s owner (Unavailable fault) = IsUnavailability fault
IsOwnerFault s owner Month = ⊥
IsOwnerFault s owner Time = ⊥
IsOwnerFault s owner Gateway = ⊥
IsOwnerFault s owner Device = ⊥

-- why there is no report on a gateway
abbrev pub IsGatewayFault : State → List ℕ → ReportFault → Type 0
IsGatewayFault s gateway Gateway = is_gateway s gateway ≡ false
IsGatewayFault s gateway (Unavailable fault) = IsUnavailability fault
IsGatewayFault s gateway Month = ⊥
IsGatewayFault s gateway Time = ⊥
IsGatewayFault s gateway Owner = ⊥
IsGatewayFault s gateway Device = ⊥

-- ---- what a call that makes a report returns

module _ {K : Type 0} (m : Meaning K) (old new : K) where
  -- `P` is true of the facts that the store represented before the call, if it is sound after it
  abbrev pub ForFacts : (State → Type 0) → Type 0
  ForFacts P = ForHeld m old new (λ kept. P kept.facts)

  -- `P` is true of the state after each log that the store represented before the call, if it is sound after it
  abbrev pub ForState : (State → Type 0) → Type 0
  ForState P = ForLog m old new (λ c heard. P (state_of c heard))

-- there is a report only if there is such an owner
abbrev pub OnlyIfOwner : {T : Type 0} → List ℕ → Result T ReportFault → State → Type 0
OnlyIfOwner owner result s = OnOk result (IsTrue (is_owner s owner))

-- there is a report only if there is such a gateway
abbrev pub OnlyIfGateway : {T : Type 0} → List ℕ → Result T ReportFault → State → Type 0
OnlyIfGateway gateway result s = OnOk result (IsTrue (is_gateway s gateway))

-- there is a report only if there is a device with the DevEUI that the text writes
abbrev pub OnlyIfDevice : {T : Type 0} → List ℕ → Result T ReportFault → State → Type 0
OnlyIfDevice dev_eui result s = OnOk result (IsTrue (is_device s dev_eui))

-- if the month is one and there is a report, it is that on the owner's devices in the month
abbrev pub IfOwnerReport : List ℕ → List ℕ → Result (Vec ℕ) ReportFault → State → Type 0
IfOwnerReport owner month result s = ForMonth month (λ from to. IfOk result (λ text. IsOwnerReport s owner from to text.items))

-- if the month is one and there is no report, there is no such owner, or the store was unavailable
abbrev pub IfNoOwnerReport : {T : Type 0} → List ℕ → List ℕ → Result T ReportFault → State → Type 0
IfNoOwnerReport owner month result s = ForMonth month (λ from to. IfErr result (IsOwnerFault s owner))

-- if there is a report, it is that on the gateway's bands
abbrev pub IfBandReport : List ℕ → Result (Vec ℕ) ReportFault → State → Type 0
IfBandReport gateway result s = IfOk result (λ text. IsBandReport s gateway text.items)

-- if there is no report, there is no such gateway, or the store was unavailable
abbrev pub IfNoBandReport : {T : Type 0} → List ℕ → Result T ReportFault → State → Type 0
IfNoBandReport gateway result s = IfErr result (IsGatewayFault s gateway)

-- if the month is one and there is a report, it is that on the gateway's downlinks in the month
abbrev pub IfDownlinks : List ℕ → List ℕ → Result (Vec ℕ) ReportFault → State → Type 0
IfDownlinks gateway month result s = ForMonth month (λ from to. IfOk result (λ text. IsDownlinkReport s gateway from to text.items))

-- if the month is one and there is no report, there is no such gateway, or the store was unavailable
abbrev pub IfNoDownlinks : {T : Type 0} → List ℕ → List ℕ → Result T ReportFault → State → Type 0
IfNoDownlinks gateway month result s = ForMonth month (λ from to. IfErr result (IsGatewayFault s gateway))

-- if the month is one and there is a report, it is that on the device's receptions in the month
abbrev pub IfReceptions : List ℕ → List ℕ → Result (Vec ℕ) ReportFault → State → Type 0
IfReceptions dev_eui month result s = ForMonth month (λ from to. IfOk result (λ text. IsReceptionReportOf s dev_eui from to text.items))

-- if the month is one and there is no report, there is no such device, or the store was unavailable
abbrev pub IfNoReceptions : {T : Type 0} → List ℕ → List ℕ → Result T ReportFault → State → Type 0
IfNoReceptions dev_eui month result s = ForMonth month (λ from to. IfErr result (IsDeviceFault s dev_eui))

-- for each log that the store represented before: if the time is one and there is a report, it is that on the gateway's room at the time
abbrev pub IfRoomReport : {K : Type 0} → Meaning K → K → K → List ℕ → List ℕ → Result (Vec ℕ) ReportFault → Type 0
IfRoomReport m old new gateway time result = (c : Settings) (heard : List Envelope) (t : ℕ) → WasInOrder m c heard old new → time_in time ≡ Some t
    → IfOk result (λ text. IsRoomReport (state_of c heard) gateway t text.items)

-- if the time is one and there is no report, there is no such gateway, or the store was unavailable
abbrev pub IfNoRoomReport : {T : Type 0} → List ℕ → List ℕ → Result T ReportFault → State → Type 0
IfNoRoomReport gateway time result s = (t : ℕ) → time_in time ≡ Some t → IfErr result (IsGatewayFault s gateway)

-- if there is a report, it is the text of the device after this log
abbrev pub IfDeviceReport : List ℕ → Result (Vec ℕ) ReportFault → Settings → List Envelope → Type 0
IfDeviceReport dev_eui result c heard = IfOk result (λ text. text.items ≡ device_text c (state_of c heard) dev_eui)

-- if there is no report, there is no such device, or the store was unavailable
abbrev pub IfNoDeviceReport : {T : Type 0} → List ℕ → Result T ReportFault → State → Type 0
IfNoDeviceReport dev_eui result s = IfErr result (IsDeviceFault s dev_eui)
