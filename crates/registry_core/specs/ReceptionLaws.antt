-- Laws of receptions: a report of a frame that is booked adds at most one, and a reception that is stored stays.
use Rattle.std.specs.Prelude.{◌≡◌, ◌≢◌, ◌⊎◌, ℕ, List, Option, Some, None, unwrap_or, if◌then◌else◌}
use Rattle.registry_core.specs.declared.answers.Answer.{Answer}
use Rattle.registry_core.specs.declared.answers.Answer.TheVariants.{JoinSuccess, FrameSuccess}
use Rattle.registry_core.specs.declared.facts.Reception.{Reception}
use Rattle.registry_core.specs.declared.facts.Uplink.{Uplink}
use Rattle.registry_core.specs.declared.messages.Envelope.{Envelope}
use Rattle.registry_core.specs.declared.messages.Message.{Message}
use Rattle.registry_core.specs.declared.messages.Message.TheVariants.{JoinHeard, FrameHeard}
use Rattle.registry_core.specs.declared.messages.Report.{Report}
use Rattle.registry_core.specs.Heard.{state_of}
use Rattle.registry_core.specs.Numbered.{item_at}
use Rattle.registry_core.specs.Settings.{Settings}
use Rattle.registry_core.specs.State.{State}
use Rattle.registry_core.specs.Step.{step}
use Rattle.registry_core.specs.Uplinks.{reception_of}

-- whatever was heard, no message changes a reception that is stored
abbrev pub ReceptionsStay : Type 0
ReceptionsStay = (c : Settings) (heard : List Envelope) (e : Envelope) (number : ℕ) (gateway : List ℕ) (reception : Reception)
    → let s : State = state_of c heard in
    s.receptions number gateway ≡ Some reception → (step c s e).0.receptions number gateway ≡ Some reception

-- what a gateway reports in the message
abbrev pub report_heard : Message → Option Report
report_heard (JoinHeard report verdict) = Some report
report_heard (FrameHeard report verdict) = Some report
report_heard _ = None

-- the number of the uplink that the answer names as known already
abbrev pub copied_uplink : Answer → Option ℕ
copied_uplink (JoinSuccess airtime band copy addr uplink) = if copy then Some uplink else None
copied_uplink (FrameSuccess airtime band copy counter dev_eui uplink) = if copy then Some uplink else None
copied_uplink _ = None

-- The report is a copy of the uplink with this number. The gateway's reception of it stays if there is one, and else becomes this one.
-- Everything else is as it was before.
pub record KeepsReception (report : Report) (number : ℕ) (before after : State) : Type 0 where
  pub uplink : Uplink
  pub there : item_at before.uplinks number ≡ Some uplink
  pub octets : uplink.octets ≡ report.octets
  pub own : after.receptions number report.gateway
      ≡ Some (unwrap_or (before.receptions number report.gateway) (reception_of report))
  pub others : (n : ℕ) (gateway : List ℕ) → (n ≢ number) ⊎ (gateway ≢ report.gateway)
      → after.receptions n gateway ≡ before.receptions n gateway
  pub senders : after.senders ≡ before.senders
  pub owners : after.owners ≡ before.owners
  pub gateways : after.gateways ≡ before.gateways
  pub devices : after.devices ≡ before.devices
  pub sessions : after.sessions ≡ before.sessions
  pub uplinks : after.uplinks ≡ before.uplinks
  pub bookings : after.bookings ≡ before.bookings
  pub limits : after.limits ≡ before.limits

-- a message that is answered as a copy is a report, and adds at most that
abbrev pub CopiesAddOneAtMost : Type 0
CopiesAddOneAtMost = (c : Settings) (s : State) (e : Envelope) (number : ℕ)
    → copied_uplink (step c s e).1 ≡ Some number
    → (report : Report) × (report_heard e.message ≡ Some report) × KeepsReception report number s (step c s e).0
