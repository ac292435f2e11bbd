-- The refusals that a step gives: 6, and 9 to 31.
use Rattle.std.proofs.Common.{ℕ, Bool, List, Option, rules, subst}
use Rattle.registry_core.specs.declared.answers.Answer.{Answer}
use Rattle.registry_core.specs.declared.answers.Answer.TheVariants.{Refused}
use Rattle.registry_core.specs.declared.messages.Envelope.{Envelope}
use Rattle.registry_core.specs.declared.messages.JoinVerdict.{JoinVerdict}
use Rattle.registry_core.specs.declared.messages.Message.{Message}
use Rattle.registry_core.specs.declared.messages.Message.TheVariants.{SenderAdd, OwnerAdd, GatewayAdd, DeviceAdd, DeviceMove, JoinHeard, FrameHeard, DownBook, DownDone, LimitSet}
use Rattle.registry_core.specs.declared.messages.Report.{Report}
use Rattle.registry_core.specs.declared.messages.Role.{Role}
use Rattle.registry_core.specs.declared.windows.Window.{Window}
use Rattle.registry_core.specs.Administration.{sender_add, owner_add, gateway_add, device_add, device_move, limit_set}
use Rattle.registry_core.specs.Checks.{Checked}
use Rattle.registry_core.specs.DataFrames.{data_added, frame_heard}
use Rattle.registry_core.specs.Decision.{Decision, decision_or_refusal}
use Rattle.registry_core.specs.Downlinks.{down_added, down_book, down_done}
use Rattle.registry_core.specs.Joins.{join_added, join_heard}
use Rattle.registry_core.specs.Laws.{IsStepRefusal, StepsRefuseByNumber}
use Rattle.registry_core.specs.Limits.{Limit}
use Rattle.registry_core.specs.Settings.{Settings}
use Rattle.registry_core.specs.State.{State}
use Rattle.registry_core.specs.Step.{checked_decision}

-- the answer is no refusal, or one of a check
abbrev AnswersByNumber : Answer → Type 0
AnswersByNumber (Refused refusal) = IsStepRefusal refusal
AnswersByNumber answer = Unit {0}

abbrev Refuses : Checked Decision → Type 0
Refuses checked = AnswersByNumber (decision_or_refusal checked).1

sender_refuses : (s : State) (e : Envelope) (sender : List ℕ) (role : Role) → Refuses (sender_add s e sender role)
unfolding sender_add
sender_refuses s e sender role = search rules

owner_refuses : (s : State) (e : Envelope) (owner : List ℕ) → Refuses (owner_add s e owner)
unfolding owner_add
owner_refuses s e owner = search rules

gateway_refuses : (s : State) (e : Envelope) (gateway : List ℕ) → Refuses (gateway_add s e gateway)
unfolding gateway_add
gateway_refuses s e gateway = search rules

device_refuses : (s : State) (e : Envelope) (dev_eui join_eui : ℕ) (owner : List ℕ) → Refuses (device_add s e dev_eui join_eui owner)
unfolding device_add
device_refuses s e dev_eui join_eui owner = search rules

move_refuses : (s : State) (e : Envelope) (dev_eui : ℕ) (owner : List ℕ) → Refuses (device_move s e dev_eui owner)
unfolding device_move
move_refuses s e dev_eui owner = search rules

join_refuses : (c : Settings) (s : State) (report : Report) (verdict : JoinVerdict) → Refuses (join_heard c s report verdict)
unfolding join_heard join_added
join_refuses c s report verdict = search rules

frame_refuses : (c : Settings) (s : State) (report : Report) (verdict : Option ℕ) → Refuses (frame_heard c s report verdict)
unfolding frame_heard data_added
frame_refuses c s report verdict = search rules

book_refuses : (c : Settings) (s : State) (number : ℕ) (gateway : List ℕ) (window : Window) (octets : List ℕ) → Refuses (down_book c s number gateway window octets)
unfolding down_book down_added
book_refuses c s number gateway window octets = search rules

done_refuses : (s : State) (number : ℕ) (sent : Bool) → Refuses (down_done s number sent)
unfolding down_done
done_refuses s number sent = search rules

limit_refuses : (s : State) (e : Envelope) (gateway : List ℕ) (limit : Limit) → Refuses (limit_set s e gateway limit)
unfolding limit_set
limit_refuses s e gateway limit = search rules

refuses : (c : Settings) (s : State) (e : Envelope) (m : Message) → Refuses (checked_decision c s e m)
refuses c s e (SenderAdd sender role) = sender_refuses s e sender role
refuses c s e (OwnerAdd owner) = owner_refuses s e owner
refuses c s e (GatewayAdd gateway) = gateway_refuses s e gateway
refuses c s e (DeviceAdd dev_eui join_eui owner) = device_refuses s e dev_eui join_eui owner
refuses c s e (DeviceMove dev_eui owner) = move_refuses s e dev_eui owner
refuses c s e (JoinHeard report verdict) = join_refuses c s report verdict
refuses c s e (FrameHeard report verdict) = frame_refuses c s report verdict
refuses c s e (DownBook uplink gateway window octets) = book_refuses c s uplink gateway window octets
refuses c s e (DownDone booking sent) = done_refuses s booking sent
refuses c s e (LimitSet gateway limit) = limit_refuses s e gateway limit

pub steps_refuse_by_number : StepsRefuseByNumber
steps_refuse_by_number c s e refusal told = subst AnswersByNumber told (refuses c s e e.message)
