-- What no message does: a refused one changes nothing, one that adds no sender leaves the senders, and one of no operator leaves the
-- register.
use Rattle.std.proofs.Common.{◌≡◌, ℕ, Bool, true, false, List, Option, refl, ap, subst, rules}
use Rattle.registry_core.specs.declared.answers.Refusal.TheVariants.{WrongRole}
use Rattle.registry_core.specs.declared.effects.Effect.{Effect}
use Rattle.registry_core.specs.declared.effects.Effect.TheVariants.{AddsSender, AddsOwner, AddsGateway, AddsDevice, MovesDevice, SetsLimit}
use Rattle.registry_core.specs.declared.facts.Reception.{Reception}
use Rattle.registry_core.specs.declared.messages.Envelope.{Envelope}
use Rattle.registry_core.specs.declared.messages.JoinVerdict.{JoinVerdict}
use Rattle.registry_core.specs.declared.messages.Message.{Message}
use Rattle.registry_core.specs.declared.messages.Message.TheVariants.{SenderAdd, OwnerAdd, GatewayAdd, DeviceAdd, DeviceMove, JoinHeard, FrameHeard, DownBook, DownDone, LimitSet}
use Rattle.registry_core.specs.declared.messages.Report.{Report}
use Rattle.registry_core.specs.declared.messages.Role.{Role}
use Rattle.registry_core.specs.declared.windows.Window.{Window}
use Rattle.registry_core.specs.Administration.{is_operator, sender_add, owner_add, gateway_add, device_add, device_move, limit_set}
use Rattle.registry_core.specs.Checks.{Checked, ◌>>◌, wants}
use Rattle.registry_core.specs.DataFrames.{data_added, frame_heard}
use Rattle.registry_core.specs.Decision.{Decision, decision_or_refusal}
use Rattle.registry_core.specs.Downlinks.{down_added, down_book, down_done}
use Rattle.registry_core.specs.Heard.{state_of}
use Rattle.registry_core.specs.Joins.{join_added, join_heard}
use Rattle.registry_core.specs.Laws.{OperatorsKeepTheRegister, RefusalsChangeNothing, SendersStay, adds_sender}
use Rattle.registry_core.specs.Limits.{Limit}
use Rattle.registry_core.specs.Settings.{Settings}
use Rattle.registry_core.specs.State.{State, state_with}
use Rattle.registry_core.specs.Step.{checked_decision, decision_of}
use Rattle.registry_core.specs.Uplinks.{reception_added}
use Rattle.registry_core.proofs.Decisions.{is_decision, sound_of}

pub refusals_change_nothing : RefusalsChangeNothing
refusals_change_nothing c heard e r refused = ap (state_with (state_of c heard)) ((is_decision c (state_of c heard) e (sound_of c heard)).refusal r refused)

-- ---- which message a change comes from

-- only an operator's messages change senders, owners, gateways, devices and limits; only one that adds a sender changes the senders, and
-- only one that sets a limit the limit
abbrev pub IsFrom : Bool → Message → Effect → Type 0
IsFrom operator m (AddsSender name role) = (operator ≡ true) × (adds_sender m ≡ true)
IsFrom operator m (AddsOwner name) = operator ≡ true
IsFrom operator m (AddsGateway name) = operator ≡ true
IsFrom operator m (AddsDevice dev_eui device) = operator ≡ true
IsFrom operator m (MovesDevice dev_eui owner) = operator ≡ true
IsFrom operator m (SetsLimit gateway limit) = (operator ≡ true) × (m ≡ LimitSet gateway limit)
IsFrom operator m effect = Unit {0}

abbrev pub Changes : Bool → Message → Checked Decision → Type 0
Changes operator m checked = IsFrom operator m (decision_or_refusal checked).0

of_operator : (operator : Bool) (m : Message) (rest : Checked Decision) → Changes true m rest → Changes operator m (wants operator WrongRole >> rest)
of_operator true m rest h = h
of_operator false m rest h = tt

sender_from : (s : State) (e : Envelope) (sender : List ℕ) (role : Role) → Changes (is_operator (s.senders e.sender)) (SenderAdd sender role) (sender_add s e sender role)
unfolding sender_add
sender_from s e sender role = of_operator (is_operator (s.senders e.sender)) (SenderAdd sender role) _ (search rules)

owner_from : (s : State) (e : Envelope) (owner : List ℕ) → Changes (is_operator (s.senders e.sender)) (OwnerAdd owner) (owner_add s e owner)
unfolding owner_add
owner_from s e owner = of_operator (is_operator (s.senders e.sender)) (OwnerAdd owner) _ (search rules)

gateway_from : (s : State) (e : Envelope) (gateway : List ℕ) → Changes (is_operator (s.senders e.sender)) (GatewayAdd gateway) (gateway_add s e gateway)
unfolding gateway_add
gateway_from s e gateway = of_operator (is_operator (s.senders e.sender)) (GatewayAdd gateway) _ (search rules)

device_from : (s : State) (e : Envelope) (dev_eui join_eui : ℕ) (owner : List ℕ)
    → Changes (is_operator (s.senders e.sender)) (DeviceAdd dev_eui join_eui owner) (device_add s e dev_eui join_eui owner)
unfolding device_add
device_from s e dev_eui join_eui owner = of_operator (is_operator (s.senders e.sender)) (DeviceAdd dev_eui join_eui owner) _ (search rules)

move_from : (s : State) (e : Envelope) (dev_eui : ℕ) (owner : List ℕ) → Changes (is_operator (s.senders e.sender)) (DeviceMove dev_eui owner) (device_move s e dev_eui owner)
unfolding device_move
move_from s e dev_eui owner = of_operator (is_operator (s.senders e.sender)) (DeviceMove dev_eui owner) _ (search rules)

limit_from : (s : State) (e : Envelope) (gateway : List ℕ) (limit : Limit) → Changes (is_operator (s.senders e.sender)) (LimitSet gateway limit) (limit_set s e gateway limit)
unfolding limit_set
limit_from s e gateway limit = of_operator (is_operator (s.senders e.sender)) (LimitSet gateway limit) _ (search rules)

copy_from : (operator : Bool) (m : Message) (number : ℕ) (at : Option Reception) (report : Report) → IsFrom operator m (reception_added number at report)
copy_from operator m number at report = search rules

join_from : (operator : Bool) (m : Message) (c : Settings) (s : State) (report : Report) (verdict : JoinVerdict) → Changes operator m (join_heard c s report verdict)
unfolding join_heard join_added
join_from operator m c s report verdict = search (rules, copy_from)

frame_from : (operator : Bool) (m : Message) (c : Settings) (s : State) (report : Report) (verdict : Option ℕ) → Changes operator m (frame_heard c s report verdict)
unfolding frame_heard data_added
frame_from operator m c s report verdict = search (rules, copy_from)

book_from : (operator : Bool) (m : Message) (c : Settings) (s : State) (number : ℕ) (gateway : List ℕ) (window : Window) (octets : List ℕ)
    → Changes operator m (down_book c s number gateway window octets)
unfolding down_book down_added
book_from operator m c s number gateway window octets = search rules

done_from : (operator : Bool) (m : Message) (s : State) (number : ℕ) (sent : Bool) → Changes operator m (down_done s number sent)
unfolding down_done
done_from operator m s number sent = search rules

pub is_from : (c : Settings) (s : State) (e : Envelope) (m : Message) → Changes (is_operator (s.senders e.sender)) m (checked_decision c s e m)
is_from c s e (SenderAdd sender role) = sender_from s e sender role
is_from c s e (OwnerAdd owner) = owner_from s e owner
is_from c s e (GatewayAdd gateway) = gateway_from s e gateway
is_from c s e (DeviceAdd dev_eui join_eui owner) = device_from s e dev_eui join_eui owner
is_from c s e (DeviceMove dev_eui owner) = move_from s e dev_eui owner
is_from c s e (JoinHeard report verdict) = join_from _ (JoinHeard report verdict) c s report verdict
is_from c s e (FrameHeard report verdict) = frame_from _ (FrameHeard report verdict) c s report verdict
is_from c s e (DownBook uplink gateway window octets) = book_from _ (DownBook uplink gateway window octets) c s uplink gateway window octets
is_from c s e (DownDone booking sent) = done_from _ (DownDone booking sent) s booking sent
is_from c s e (LimitSet gateway limit) = limit_from s e gateway limit

-- ---- what stays

same_senders : (s : State) (operator : Bool) (m : Message) (effect : Effect) → adds_sender m ≡ false → IsFrom operator m effect → (state_with s effect).senders ≡ s.senders
same_senders s operator m (AddsSender name role) none k = cc
same_senders s operator m effect none k = refl

pub senders_stay : SendersStay
senders_stay c s e none = same_senders s (is_operator (s.senders e.sender)) e.message (decision_of c s e).0 none (is_from c s e e.message)

same_register : (s : State) (m : Message) (effect : Effect) → IsFrom false m effect → let after : State = state_with s effect in
    (after.senders ≡ s.senders) × (after.owners ≡ s.owners) × (after.gateways ≡ s.gateways) × (after.devices ≡ s.devices) × (after.limits ≡ s.limits)
same_register s m (AddsSender name role) k = cc
same_register s m (AddsOwner name) k = cc
same_register s m (AddsGateway name) k = cc
same_register s m (AddsDevice dev_eui device) k = cc
same_register s m (MovesDevice dev_eui owner) k = cc
same_register s m (SetsLimit gateway limit) k = let never : false ≡ true = k.0 in cc
same_register s m effect k = (refl, refl, refl, refl, refl)

pub operators_keep_the_register : OperatorsKeepTheRegister
operators_keep_the_register c s e other = same_register s e.message (decision_of c s e).0 (subst (λ b. IsFrom b e.message (decision_of c s e).0) other (is_from c s e e.message))
