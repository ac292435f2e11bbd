-- What the checks let a message add: a booking by the checks of a downlink alone, an uplink by those of a report alone.
use Rattle.std.proofs.Common.{◌≡◌, ℕ, Bool, true, false, List, Option, Some, None, refl, rules}
use Rattle.registry_core.specs.declared.answers.Refusal.{Refusal}
use Rattle.registry_core.specs.declared.effects.Effect.{Effect}
use Rattle.registry_core.specs.declared.effects.Effect.TheVariants.{Nothing, AddsSession, AddsUplink, AddsBooking}
use Rattle.registry_core.specs.declared.facts.Booking.{Booking}
use Rattle.registry_core.specs.declared.facts.Reception.{Reception}
use Rattle.registry_core.specs.declared.facts.Uplink.{Uplink}
use Rattle.registry_core.specs.declared.messages.Envelope.{Envelope}
use Rattle.registry_core.specs.declared.messages.JoinVerdict.{JoinVerdict}
use Rattle.registry_core.specs.declared.messages.Message.{Message}
use Rattle.registry_core.specs.declared.messages.Message.TheVariants.{SenderAdd, OwnerAdd, GatewayAdd, DeviceAdd, DeviceMove, JoinHeard, FrameHeard, DownBook, DownDone, LimitSet}
use Rattle.registry_core.specs.declared.messages.Report.{Report}
use Rattle.registry_core.specs.declared.messages.Role.{Role}
use Rattle.registry_core.specs.declared.windows.Window.{Window}
use Rattle.registry_core.specs.Administration.{sender_add, owner_add, gateway_add, device_add, device_move, limit_set}
use Rattle.registry_core.specs.Checks.{Checked, ◌>>=◌, ◌>>◌, wants, needs}
use Rattle.registry_core.specs.DataFrames.{data_added, frame_heard}
use Rattle.registry_core.specs.Decision.{Decision, decision_or_refusal}
use Rattle.registry_core.specs.Downlinks.{down_added, down_book, down_done}
use Rattle.registry_core.specs.Joins.{join_added, join_heard}
use Rattle.registry_core.specs.Limits.{Limit}
use Rattle.registry_core.specs.Settings.{Settings}
use Rattle.registry_core.specs.State.{State}
use Rattle.registry_core.specs.Step.{checked_decision}
use Rattle.registry_core.specs.Uplinks.{reception_added}

-- it is true of the booking that a change adds
abbrev pub OfBooking : (Booking → Type 0) → Effect → Type 0
OfBooking P (AddsBooking booking) = P booking
OfBooking P effect = Unit {0}

-- and of the uplink that it adds, with the gateway's first reception of it
abbrev pub OfUplink : (Uplink → Reception → Type 0) → Effect → Type 0
OfUplink P (AddsSession session uplink gateway reception) = P uplink reception
OfUplink P (AddsUplink uplink gateway reception) = P uplink reception
OfUplink P effect = Unit {0}

-- it is true of the decision of the checks
abbrev pub Lets : (Effect → Type 0) → Checked Decision → Type 0
Lets Holds checked = Holds (decision_or_refusal checked).0

pub lets_wants : (Holds : Effect → Type 0) → Holds Nothing → (b : Bool) (r : Refusal) (rest : Checked Decision) → (b ≡ true → Lets Holds rest) → Lets Holds (wants b r >> rest)
lets_wants Holds nothing true r rest h = h refl
lets_wants Holds nothing false r rest h = nothing

pub lets_needs : {X : Type 0} (Holds : Effect → Type 0) → Holds Nothing → (x : Option X) (r : Refusal) (rest : X → Checked Decision) → ((y : X) → x ≡ Some y → Lets Holds (rest y))
    → Lets Holds (needs x r >>= rest)
lets_needs Holds nothing (Some x) r rest h = h x refl
lets_needs Holds nothing None r rest h = nothing

-- ---- no other message adds one

abbrev AddsNeither : Effect → Type 0
AddsNeither (AddsSession session uplink gateway reception) = ⊥
AddsNeither (AddsUplink uplink gateway reception) = ⊥
AddsNeither (AddsBooking booking) = ⊥
AddsNeither effect = Unit {0}

neither_booking : (P : Booking → Type 0) (effect : Effect) → AddsNeither effect → OfBooking P effect
neither_booking P effect k = search rules

neither_uplink : (P : Uplink → Reception → Type 0) (effect : Effect) → AddsNeither effect → OfUplink P effect
neither_uplink P effect k = search rules

sender_neither : (s : State) (e : Envelope) (sender : List ℕ) (role : Role) → Lets AddsNeither (sender_add s e sender role)
unfolding sender_add
sender_neither s e sender role = search rules

owner_neither : (s : State) (e : Envelope) (owner : List ℕ) → Lets AddsNeither (owner_add s e owner)
unfolding owner_add
owner_neither s e owner = search rules

gateway_neither : (s : State) (e : Envelope) (gateway : List ℕ) → Lets AddsNeither (gateway_add s e gateway)
unfolding gateway_add
gateway_neither s e gateway = search rules

device_neither : (s : State) (e : Envelope) (dev_eui join_eui : ℕ) (owner : List ℕ) → Lets AddsNeither (device_add s e dev_eui join_eui owner)
unfolding device_add
device_neither s e dev_eui join_eui owner = search rules

move_neither : (s : State) (e : Envelope) (dev_eui : ℕ) (owner : List ℕ) → Lets AddsNeither (device_move s e dev_eui owner)
unfolding device_move
move_neither s e dev_eui owner = search rules

done_neither : (s : State) (number : ℕ) (sent : Bool) → Lets AddsNeither (down_done s number sent)
unfolding down_done
done_neither s number sent = search rules

copy_no_booking : (P : Booking → Type 0) (number : ℕ) (at : Option Reception) (report : Report) → OfBooking P (reception_added number at report)
copy_no_booking P number at report = search rules

join_no_booking : (P : Booking → Type 0) (c : Settings) (s : State) (report : Report) (verdict : JoinVerdict) → Lets (OfBooking P) (join_heard c s report verdict)
unfolding join_heard join_added
join_no_booking P c s report verdict = search (rules, copy_no_booking)

frame_no_booking : (P : Booking → Type 0) (c : Settings) (s : State) (report : Report) (verdict : Option ℕ) → Lets (OfBooking P) (frame_heard c s report verdict)
unfolding frame_heard data_added
frame_no_booking P c s report verdict = search (rules, copy_no_booking)

book_no_uplink : (P : Uplink → Reception → Type 0) (c : Settings) (s : State) (number : ℕ) (gateway : List ℕ) (window : Window) (octets : List ℕ)
    → Lets (OfUplink P) (down_book c s number gateway window octets)
unfolding down_book down_added
book_no_uplink P c s number gateway window octets = search rules

limit_neither : (s : State) (e : Envelope) (gateway : List ℕ) (limit : Limit) → Lets AddsNeither (limit_set s e gateway limit)
unfolding limit_set
limit_neither s e gateway limit = search rules

-- ---- each message

-- a booking is new by the checks of a downlink
pub new_booking : (P : Booking → Type 0) (c : Settings) (s : State) → ((number : ℕ) (gateway : List ℕ) (window : Window) (octets : List ℕ) → Lets (OfBooking P) (down_book c s number gateway window octets))
    → (e : Envelope) (m : Message) → Lets (OfBooking P) (checked_decision c s e m)
new_booking P c s by e (SenderAdd sender role) = neither_booking P _ (sender_neither s e sender role)
new_booking P c s by e (OwnerAdd owner) = neither_booking P _ (owner_neither s e owner)
new_booking P c s by e (GatewayAdd gateway) = neither_booking P _ (gateway_neither s e gateway)
new_booking P c s by e (DeviceAdd dev_eui join_eui owner) = neither_booking P _ (device_neither s e dev_eui join_eui owner)
new_booking P c s by e (DeviceMove dev_eui owner) = neither_booking P _ (move_neither s e dev_eui owner)
new_booking P c s by e (JoinHeard report verdict) = join_no_booking P c s report verdict
new_booking P c s by e (FrameHeard report verdict) = frame_no_booking P c s report verdict
new_booking P c s by e (DownBook uplink gateway window octets) = by uplink gateway window octets
new_booking P c s by e (DownDone booking sent) = neither_booking P _ (done_neither s booking sent)
new_booking P c s by e (LimitSet gateway limit) = neither_booking P _ (limit_neither s e gateway limit)

-- an uplink is new by the checks of a join or of a data frame
pub new_uplink : (P : Uplink → Reception → Type 0) (c : Settings) (s : State) → ((report : Report) (verdict : JoinVerdict) → Lets (OfUplink P) (join_heard c s report verdict))
    → ((report : Report) (verdict : Option ℕ) → Lets (OfUplink P) (frame_heard c s report verdict)) → (e : Envelope) (m : Message) → Lets (OfUplink P) (checked_decision c s e m)
new_uplink P c s join frame e (SenderAdd sender role) = neither_uplink P _ (sender_neither s e sender role)
new_uplink P c s join frame e (OwnerAdd owner) = neither_uplink P _ (owner_neither s e owner)
new_uplink P c s join frame e (GatewayAdd gateway) = neither_uplink P _ (gateway_neither s e gateway)
new_uplink P c s join frame e (DeviceAdd dev_eui join_eui owner) = neither_uplink P _ (device_neither s e dev_eui join_eui owner)
new_uplink P c s join frame e (DeviceMove dev_eui owner) = neither_uplink P _ (move_neither s e dev_eui owner)
new_uplink P c s join frame e (JoinHeard report verdict) = join report verdict
new_uplink P c s join frame e (FrameHeard report verdict) = frame report verdict
new_uplink P c s join frame e (DownBook uplink gateway window octets) = book_no_uplink P c s uplink gateway window octets
new_uplink P c s join frame e (DownDone booking sent) = neither_uplink P _ (done_neither s booking sent)
new_uplink P c s join frame e (LimitSet gateway limit) = neither_uplink P _ (limit_neither s e gateway limit)
