-- What the messages that administer the desk change, and the end of a booking.
use Rattle.std.proofs.Common.{◌≡◌, ℕ, List, Bool, true, false, Option, Some, None, Ok, refl, sym, ◌∙◌, ap, subst}
use Rattle.std.specs.Prelude.{◌==◌, ◌≢◌, bytes_eq, is_none, is_some, not, option_map}
use Rattle.std.proofs.lemmas.Bool.{eq-eqb, eqb-true}
use Rattle.std.proofs.lemmas.Slice.Eq.{bytes_eq-Decides}
use Rattle.registry_core.specs.declared.answers.Answer.TheVariants.{Success}
use Rattle.registry_core.specs.declared.answers.Refusal.{Refusal}
use Rattle.registry_core.specs.declared.answers.Refusal.TheVariants.{WrongRole, Exists, UnknownOwner, UnknownDevEui, NoBooking, Done}
use Rattle.registry_core.specs.declared.effects.Effect.{Effect}
use Rattle.registry_core.specs.declared.effects.Effect.TheVariants.{AddsSender, AddsOwner, AddsGateway, AddsDevice, MovesDevice, EndsBooking}
use Rattle.registry_core.specs.declared.facts.Booking.{Booking}
use Rattle.registry_core.specs.declared.facts.Standing.{Standing}
use Rattle.registry_core.specs.declared.facts.Standing.TheVariants.{Booked, Sent, Dropped}
use Rattle.registry_core.specs.declared.messages.Envelope.{Envelope}
use Rattle.registry_core.specs.declared.messages.Message.TheVariants.{SenderAdd, OwnerAdd, GatewayAdd, DeviceAdd, DeviceMove, DownDone}
use Rattle.registry_core.specs.declared.messages.Role.{Role}
use Rattle.registry_core.specs.Administration.{is_operator, sender_add, owner_add, gateway_add, device_add, device_move}
use Rattle.registry_core.specs.AdministrationLaws.{DevicesAddedAlone, DevicesAddedExactly, DevicesMovedAlone, DevicesMovedExactly, DownlinksEndedAlone, DownlinksEndedExactly, GatewaysAddedAlone, GatewaysAddedExactly, IsBookingEnded, IsDeviceAdded, IsDeviceMoved, IsGatewayAdded, IsOwnerAdded, IsSenderAdded, OwnersAddedAlone, OwnersAddedExactly, SendersAddedAlone, SendersAddedExactly}
use Rattle.registry_core.specs.Bookings.{is_booked}
use Rattle.registry_core.specs.Checks.{◌>>=◌, ◌>>◌, wants, needs}
use Rattle.registry_core.specs.Decision.{Decision, decision_or_refusal}
use Rattle.registry_core.specs.Downlinks.{down_done}
use Rattle.registry_core.specs.Numbered.{item_at}
use Rattle.registry_core.specs.Settings.{Settings}
use Rattle.registry_core.specs.State.{State, at_name, at_number, ended, owned_by, state_with, with_device, with_end, with_gateway, with_move, with_owner, with_sender}
use Rattle.registry_core.specs.Step.{checked_decision, decision_of}
use Rattle.registry_core.proofs.Items.{item_changed_length}
use Rattle.registry_core.proofs.NumberedLaws.{item_elsewhere, item_there}

-- ---- checks in a row

-- three checks, and what they let through
abbrev row : (one two three : Bool) → Refusal → Refusal → Refusal → Effect → Decision
row one two three r q p effect = decision_or_refusal do
  wants one r
  wants two q
  wants three p
  Ok (effect, Success)

record AllHold (one two three : Bool) : Type 0 where
  first : one ≡ true
  second : two ≡ true
  third : three ≡ true

all_hold : (one two three : Bool) (r q p : Refusal) (effect : Effect) → (row one two three r q p effect).1 ≡ Success → AllHold one two three
all_hold true true true r q p effect h = record { first = refl; second = refl; third = refl }
all_hold true true false r q p effect h = cc
all_hold true false three r q p effect h = cc
all_hold false two three r q p effect h = cc

-- a decision by such a row
record IsRow (decision : Decision) (one two three : Bool) (effect : Effect) : Type 0 where
  holds : decision.1 ≡ Success → AllHold one two three
  success : AllHold one two three → decision.1 ≡ Success
  adds : decision.1 ≡ Success → decision.0 ≡ effect

lets : (one two three : Bool) (r q p : Refusal) (effect : Effect) → AllHold one two three → row one two three r q p effect ≡ (effect, Success)
lets one two three r q p effect all = rw (all.first, all.second, all.third) refl

is_row : (decision : Decision) (one two three : Bool) (r q p : Refusal) (effect : Effect) → decision ≡ row one two three r q p effect → IsRow decision one two three effect
is_row decision one two three r q p effect is = record {
  holds = λ h. all_hold one two three r q p effect (sym (ap (λ (d : Decision). d.1) is) ∙ h);
  success = λ all. ap (λ (d : Decision). d.1) (is ∙ lets one two three r q p effect all);
  adds = λ h. ap (λ (d : Decision). d.0) (is ∙ lets one two three r q p effect (all_hold one two three r q p effect (sym (ap (λ (d : Decision). d.1) is) ∙ h)));
}

none_is : {X : Type 0} (x : Option X) → is_none x ≡ true → x ≡ None
none_is None h = refl
none_is (Some x) h = cc

some_is : {X : Type 0} (x : Option X) → is_some x ≡ true → (y : X) × (x ≡ Some y)
some_is (Some y) h = (y, refl)
some_is None h = cc

false_is : (b : Bool) → not b ≡ true → b ≡ false
false_is false h = refl
false_is true h = cc

-- ---- look-ups

at_itself : {X : Type 0} (f : List ℕ → X) (name : List ℕ) (x : X) → at_name f name x name ≡ x
at_itself f name x = rw ((bytes_eq-Decides name name).1 refl) refl

at_other : {X : Type 0} (f : List ℕ → X) (name : List ℕ) (x : X) (other : List ℕ) → other ≢ name → at_name f name x other ≡ f other
at_other f name x other apart = by (bytes_eq other name) refl
  where
    by : (b : Bool) → bytes_eq other name ≡ b → at_name f name x other ≡ f other
    by true is = absurd (apart ((bytes_eq-Decides other name).0 is))
    by false is = rw is refl

number_itself : {X : Type 0} (f : ℕ → X) (n : ℕ) (x : X) → at_number f n x n ≡ x
number_itself f n x = rw (eq-eqb n n refl) refl

number_other : {X : Type 0} (f : ℕ → X) (n : ℕ) (x : X) (other : ℕ) → other ≢ n → at_number f n x other ≡ f other
number_other f n x other apart = by (other == n) refl
  where
    by : (b : Bool) → (other == n) ≡ b → at_number f n x other ≡ f other
    by true is = absurd (apart (eqb-true other n is))
    by false is = rw is refl

-- ---- senders

sender_row : (c : Settings) (s : State) (e : Envelope) (name : List ℕ) (role : Role) → e.message ≡ SenderAdd name role
    → IsRow (decision_of c s e) (is_operator (s.senders e.sender)) (is_none (s.senders name)) true (AddsSender name role)
unfolding sender_add
sender_row c s e name role same =
    is_row (decision_of c s e) (is_operator (s.senders e.sender)) (is_none (s.senders name)) true WrongRole Exists Exists (AddsSender name role)
    (ap (λ m. decision_or_refusal (checked_decision c s e m)) same)

pub senders_added_exactly : SendersAddedExactly
senders_added_exactly c s e name role same = let row = sender_row c s e name role same in (
  λ h. let all = row.holds h in record { operator = all.first; new = none_is (s.senders name) all.second },
  λ is. row.success (record { first = is.operator; second = ap is_none is.new; third = refl }),
)

sender_added : (s : State) (name : List ℕ) (role : Role) → IsSenderAdded s (with_sender s name role) name role
sender_added s name role = record {
  sender = at_itself s.senders name (Some role);
  others = at_other s.senders name (Some role);
  owners = refl;
  gateways = refl;
  devices = refl;
  traffic = record { sessions = refl; uplinks = refl; receptions = refl; bookings = refl; limits = refl };
}

pub senders_added_alone : SendersAddedAlone
senders_added_alone c s e name role same h =
    subst (λ effect. IsSenderAdded s (state_with s effect) name role) (sym ((sender_row c s e name role same).adds h)) (sender_added s name role)

-- ---- owners

owner_row : (c : Settings) (s : State) (e : Envelope) (name : List ℕ) → e.message ≡ OwnerAdd name
    → IsRow (decision_of c s e) (is_operator (s.senders e.sender)) (not (s.owners name)) true (AddsOwner name)
unfolding owner_add
owner_row c s e name same =
    is_row (decision_of c s e) (is_operator (s.senders e.sender)) (not (s.owners name)) true WrongRole Exists Exists (AddsOwner name)
    (ap (λ m. decision_or_refusal (checked_decision c s e m)) same)

pub owners_added_exactly : OwnersAddedExactly
owners_added_exactly c s e name same = let row = owner_row c s e name same in (
  λ h. let all = row.holds h in record { operator = all.first; new = false_is (s.owners name) all.second },
  λ is. row.success (record { first = is.operator; second = ap not is.new; third = refl }),
)

owner_added : (s : State) (name : List ℕ) → IsOwnerAdded s (with_owner s name) name
owner_added s name = record {
  owner = at_itself s.owners name true;
  others = at_other s.owners name true;
  senders = refl;
  gateways = refl;
  devices = refl;
  traffic = record { sessions = refl; uplinks = refl; receptions = refl; bookings = refl; limits = refl };
}

pub owners_added_alone : OwnersAddedAlone
owners_added_alone c s e name same h =
    subst (λ effect. IsOwnerAdded s (state_with s effect) name) (sym ((owner_row c s e name same).adds h)) (owner_added s name)

-- ---- gateways

gateway_row : (c : Settings) (s : State) (e : Envelope) (name : List ℕ) → e.message ≡ GatewayAdd name
    → IsRow (decision_of c s e) (is_operator (s.senders e.sender)) (not (s.gateways name)) true (AddsGateway name)
unfolding gateway_add
gateway_row c s e name same =
    is_row (decision_of c s e) (is_operator (s.senders e.sender)) (not (s.gateways name)) true WrongRole Exists Exists (AddsGateway name)
    (ap (λ m. decision_or_refusal (checked_decision c s e m)) same)

pub gateways_added_exactly : GatewaysAddedExactly
gateways_added_exactly c s e name same = let row = gateway_row c s e name same in (
  λ h. let all = row.holds h in record { operator = all.first; new = false_is (s.gateways name) all.second },
  λ is. row.success (record { first = is.operator; second = ap not is.new; third = refl }),
)

gateway_added : (s : State) (name : List ℕ) → IsGatewayAdded s (with_gateway s name) name
gateway_added s name = record {
  gateway = at_itself s.gateways name true;
  others = at_other s.gateways name true;
  senders = refl;
  owners = refl;
  devices = refl;
  traffic = record { sessions = refl; uplinks = refl; receptions = refl; bookings = refl; limits = refl };
}

pub gateways_added_alone : GatewaysAddedAlone
gateways_added_alone c s e name same h =
    subst (λ effect. IsGatewayAdded s (state_with s effect) name) (sym ((gateway_row c s e name same).adds h)) (gateway_added s name)

-- ---- devices

device_row : (c : Settings) (s : State) (e : Envelope) (dev_eui join_eui : ℕ) (owner : List ℕ) → e.message ≡ DeviceAdd dev_eui join_eui owner
    → IsRow (decision_of c s e) (is_operator (s.senders e.sender)) (s.owners owner) (is_none (s.devices dev_eui)) (AddsDevice dev_eui (record { join_eui = join_eui; owner = owner }))
unfolding device_add
device_row c s e dev_eui join_eui owner same =
    is_row (decision_of c s e) (is_operator (s.senders e.sender)) (s.owners owner) (is_none (s.devices dev_eui)) WrongRole UnknownOwner Exists
    (AddsDevice dev_eui (record { join_eui = join_eui; owner = owner })) (ap (λ m. decision_or_refusal (checked_decision c s e m)) same)

pub devices_added_exactly : DevicesAddedExactly
devices_added_exactly c s e dev_eui join_eui owner same = let row = device_row c s e dev_eui join_eui owner same in (
  λ h. let all = row.holds h in record { operator = all.first; owned = all.second; new = none_is (s.devices dev_eui) all.third },
  λ is. row.success (record { first = is.operator; second = is.owned; third = ap is_none is.new }),
)

device_added : (s : State) (dev_eui join_eui : ℕ) (owner : List ℕ) → IsDeviceAdded s (with_device s dev_eui (record { join_eui = join_eui; owner = owner })) dev_eui join_eui owner
device_added s dev_eui join_eui owner = record {
  device = number_itself s.devices dev_eui (Some (record { join_eui = join_eui; owner = owner }));
  others = number_other s.devices dev_eui (Some (record { join_eui = join_eui; owner = owner }));
  senders = refl;
  owners = refl;
  gateways = refl;
  traffic = record { sessions = refl; uplinks = refl; receptions = refl; bookings = refl; limits = refl };
}

pub devices_added_alone : DevicesAddedAlone
devices_added_alone c s e dev_eui join_eui owner same h =
    subst (λ effect. IsDeviceAdded s (state_with s effect) dev_eui join_eui owner) (sym ((device_row c s e dev_eui join_eui owner same).adds h))
    (device_added s dev_eui join_eui owner)

-- ---- moves

move_row : (c : Settings) (s : State) (e : Envelope) (dev_eui : ℕ) (owner : List ℕ) → e.message ≡ DeviceMove dev_eui owner
    → IsRow (decision_of c s e) (is_operator (s.senders e.sender)) (is_some (s.devices dev_eui)) (s.owners owner) (MovesDevice dev_eui owner)
unfolding device_move
move_row c s e dev_eui owner same =
    is_row (decision_of c s e) (is_operator (s.senders e.sender)) (is_some (s.devices dev_eui)) (s.owners owner) WrongRole UnknownDevEui UnknownOwner (MovesDevice dev_eui owner)
    (ap (λ m. decision_or_refusal (checked_decision c s e m)) same)

pub devices_moved_exactly : DevicesMovedExactly
devices_moved_exactly c s e dev_eui owner same = let row = move_row c s e dev_eui owner same in (
  λ h. let all = row.holds h in let found = some_is (s.devices dev_eui) all.second in
      record { operator = all.first; device = found.0; there = found.1; owned = all.third },
  λ is. row.success (record { first = is.operator; second = ap is_some is.there; third = is.owned }),
)

device_moved : (s : State) (dev_eui : ℕ) (owner : List ℕ) → IsDeviceMoved s (with_move s dev_eui owner) dev_eui owner
device_moved s dev_eui owner = record {
  device = λ was there. number_itself s.devices dev_eui (option_map (owned_by owner) (s.devices dev_eui)) ∙ ap (option_map (owned_by owner)) there;
  nonce = refl;
  floor = λ session. refl;
  others = number_other s.devices dev_eui (option_map (owned_by owner) (s.devices dev_eui));
  senders = refl;
  owners = refl;
  gateways = refl;
  traffic = record { sessions = refl; uplinks = refl; receptions = refl; bookings = refl; limits = refl };
}

pub devices_moved_alone : DevicesMovedAlone
devices_moved_alone c s e dev_eui owner same h =
    subst (λ effect. IsDeviceMoved s (state_with s effect) dev_eui owner) (sym ((move_row c s e dev_eui owner same).adds h)) (device_moved s dev_eui owner)

-- ---- the end of a booking

-- the checks, by the booking that is found
abbrev end_by : Option Booking → ℕ → Bool → Decision
end_by found number sent = decision_or_refusal do
  booking ← needs found NoBooking
  wants (is_booked booking.standing) Done
  Ok (EndsBooking number sent, Success)

end_decided : (c : Settings) (s : State) (e : Envelope) (number : ℕ) (sent : Bool) → e.message ≡ DownDone number sent
    → decision_of c s e ≡ end_by (item_at s.bookings number) number sent
unfolding down_done
end_decided c s e number sent same = ap (λ m. decision_or_refusal (checked_decision c s e m)) same

record IsOpen (found : Option Booking) : Type 0 where
  booking : Booking
  is : found ≡ Some booking
  standing : booking.standing ≡ Booked

open_at : (booking : Booking) (standing : Standing) (number : ℕ) (sent : Bool) → booking.standing ≡ standing → (end_by (Some booking) number sent).1 ≡ Success → IsOpen (Some booking)
open_at booking Booked number sent is h = record { booking = booking; is = refl; standing = is }
open_at booking Sent number sent is h =
    let no : (decision_or_refusal (wants (is_booked Sent) Done >> Ok (EndsBooking number sent, Success))).1 ≡ Success =
    subst (λ standing. (decision_or_refusal (wants (is_booked standing) Done >> Ok (EndsBooking number sent, Success))).1 ≡ Success) is h in cc
open_at booking Dropped number sent is h =
    let no : (decision_or_refusal (wants (is_booked Dropped) Done >> Ok (EndsBooking number sent, Success))).1 ≡ Success =
    subst (λ standing. (decision_or_refusal (wants (is_booked standing) Done >> Ok (EndsBooking number sent, Success))).1 ≡ Success) is h in cc

is_open : (found : Option Booking) (number : ℕ) (sent : Bool) → (end_by found number sent).1 ≡ Success → IsOpen found
is_open None number sent h = cc
is_open (Some booking) number sent h = open_at booking booking.standing number sent refl h

ends_open : (found : Option Booking) (number : ℕ) (sent : Bool) → IsOpen found → end_by found number sent ≡ (EndsBooking number sent, Success)
ends_open found number sent is = ap (λ found. end_by found number sent) is.is ∙ ap (λ standing. decision_or_refusal (wants (is_booked standing) Done >> Ok (EndsBooking number sent, Success))) is.standing

open_booking : (c : Settings) (s : State) (e : Envelope) (number : ℕ) (sent : Bool) → e.message ≡ DownDone number sent → (decision_of c s e).1 ≡ Success → IsOpen (item_at s.bookings number)
open_booking c s e number sent same h = is_open (item_at s.bookings number) number sent (sym (ap (λ (d : Decision). d.1) (end_decided c s e number sent same)) ∙ h)

pub downlinks_ended_exactly : DownlinksEndedExactly
downlinks_ended_exactly c s e number sent same = (
  λ h. let found = open_booking c s e number sent same h in record { booking = found.booking; there = found.is; standing = found.standing },
  λ is. ap (λ (d : Decision). d.1) (end_decided c s e number sent same
      ∙ ends_open (item_at s.bookings number) number sent (record { booking = is.booking; is = is.there; standing = is.standing })),
)

booking_ended : (s : State) (number : ℕ) (sent : Bool) → IsBookingEnded s (with_end s number sent) number sent
booking_ended s number sent = record {
  booking = λ was there. item_there (ended sent) s.bookings number ∙ ap (option_map (ended sent)) there;
  others = λ other apart. item_elsewhere (ended sent) s.bookings number other (λ same. apart (sym same));
  count = item_changed_length (ended sent) s.bookings number;
  senders = refl;
  owners = refl;
  gateways = refl;
  devices = refl;
  sessions = refl;
  uplinks = refl;
  receptions = refl;
  limits = refl;
}

pub downlinks_ended_alone : DownlinksEndedAlone
downlinks_ended_alone c s e number sent same h =
    let adds = ap (λ (d : Decision). d.0) (end_decided c s e number sent same ∙ ends_open (item_at s.bookings number) number sent (open_booking c s e number sent same h)) in
    subst (λ effect. IsBookingEnded s (state_with s effect) number sent) (sym adds) (booking_ended s number sent)
