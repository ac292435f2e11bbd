-- A step of the registry: if a check fails, the first one that does decides the answer, and nothing changes. Else the message adds what it
-- adds, and is answered Success with its members.
use Rattle.registry_core.specs.declared.answers.Answer.{Answer}
use Rattle.registry_core.specs.declared.messages.Envelope.{Envelope}
use Rattle.registry_core.specs.declared.messages.Message.{Message}
use Rattle.registry_core.specs.declared.messages.Message.TheVariants.{SenderAdd, OwnerAdd, GatewayAdd, DeviceAdd, DeviceMove, JoinHeard, FrameHeard, DownBook, DownDone, LimitSet}
use Rattle.registry_core.specs.Administration.{sender_add, owner_add, gateway_add, device_add, device_move, limit_set}
use Rattle.registry_core.specs.Checks.{Checked}
use Rattle.registry_core.specs.DataFrames.{frame_heard}
use Rattle.registry_core.specs.Decision.{Decision, decision_or_refusal}
use Rattle.registry_core.specs.Downlinks.{down_book, down_done}
use Rattle.registry_core.specs.Joins.{join_heard}
use Rattle.registry_core.specs.Settings.{Settings}
use Rattle.registry_core.specs.State.{State, state_with}

-- the decision of the message's type, or the refusal of the first check that fails
abbrev pub checked_decision : Settings → State → Envelope → Message → Checked Decision
checked_decision c s e (SenderAdd sender role) = sender_add s e sender role
checked_decision c s e (OwnerAdd owner) = owner_add s e owner
checked_decision c s e (GatewayAdd gateway) = gateway_add s e gateway
checked_decision c s e (DeviceAdd dev_eui join_eui owner) = device_add s e dev_eui join_eui owner
checked_decision c s e (DeviceMove dev_eui owner) = device_move s e dev_eui owner
checked_decision c s e (JoinHeard report verdict) = join_heard c s report verdict
checked_decision c s e (FrameHeard report verdict) = frame_heard c s report verdict
checked_decision c s e (DownBook uplink gateway window octets) = down_book c s uplink gateway window octets
checked_decision c s e (DownDone booking sent) = down_done s booking sent
checked_decision c s e (LimitSet gateway limit) = limit_set s e gateway limit

-- what the envelope changes, and its answer
abbrev pub decision_of : Settings → State → Envelope → Decision
decision_of c s e = decision_or_refusal (checked_decision c s e e.message)

-- the state after the envelope, and the answer
abbrev pub step : Settings → State → Envelope → State × Answer
step c s e = (state_with s (decision_of c s e).0, (decision_of c s e).1)
