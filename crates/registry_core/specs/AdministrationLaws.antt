-- What the messages that administer the desk and the end of a booking change: one thing each, and nothing else. Each of them is answered
-- Success if and only if its conditions are met.
use Rattle.std.specs.Prelude.{◌≡◌, ◌≢◌, ◌↔◌, ℕ, Bool, true, false, List, length, Some, None, IsTrue, if◌then◌else◌}
use Rattle.registry_core.specs.declared.answers.Answer.TheVariants.{Success}
use Rattle.registry_core.specs.declared.facts.Booking.{Booking}
use Rattle.registry_core.specs.declared.facts.Device.{Device}
use Rattle.registry_core.specs.declared.facts.Standing.TheVariants.{Booked, Sent, Dropped}
use Rattle.registry_core.specs.declared.messages.Envelope.{Envelope}
use Rattle.registry_core.specs.declared.messages.Message.TheVariants.{SenderAdd, OwnerAdd, GatewayAdd, DeviceAdd, DeviceMove, DownDone}
use Rattle.registry_core.specs.declared.messages.Role.{Role}
use Rattle.registry_core.specs.Administration.{is_operator}
use Rattle.registry_core.specs.Derived.{is_below_floor, last_nonce}
use Rattle.registry_core.specs.Numbered.{item_at}
use Rattle.registry_core.specs.Settings.{Settings}
use Rattle.registry_core.specs.State.{State}
use Rattle.registry_core.specs.Step.{step}

-- ---- what stays

-- what was heard and booked is the same, and so are the limits
pub record SameTraffic (s after : State) : Type 0 where
  pub sessions : after.sessions ≡ s.sessions
  pub uplinks : after.uplinks ≡ s.uplinks
  pub receptions : after.receptions ≡ s.receptions
  pub bookings : after.bookings ≡ s.bookings
  pub limits : after.limits ≡ s.limits

-- ---- senders

-- An operator sends the message, and no sender has the name.
pub record IsNewSender (s : State) (e : Envelope) (name : List ℕ) : Type 0 where
  pub operator : IsTrue (is_operator (s.senders e.sender))
  pub new : s.senders name ≡ None

-- There is a sender with the name and the role. Each other sender is as it was, and so is everything else.
pub record IsSenderAdded (s after : State) (name : List ℕ) (role : Role) : Type 0 where
  pub sender : after.senders name ≡ Some role
  pub others : (other : List ℕ) → other ≢ name → after.senders other ≡ s.senders other
  pub owners : after.owners ≡ s.owners
  pub gateways : after.gateways ≡ s.gateways
  pub devices : after.devices ≡ s.devices
  pub traffic : SameTraffic s after

abbrev pub SendersAddedExactly : Type 0
SendersAddedExactly = (c : Settings) (s : State) (e : Envelope) (name : List ℕ) (role : Role) → e.message ≡ SenderAdd name role
    → ((step c s e).1 ≡ Success) ↔ IsNewSender s e name

abbrev pub SendersAddedAlone : Type 0
SendersAddedAlone = (c : Settings) (s : State) (e : Envelope) (name : List ℕ) (role : Role) → e.message ≡ SenderAdd name role
    → (step c s e).1 ≡ Success → IsSenderAdded s (step c s e).0 name role

-- ---- owners

-- An operator sends the message, and no owner has the name.
pub record IsNewOwner (s : State) (e : Envelope) (name : List ℕ) : Type 0 where
  pub operator : IsTrue (is_operator (s.senders e.sender))
  pub new : s.owners name ≡ false

-- There is an owner with the name. Each other owner is as it was, and so is everything else.
pub record IsOwnerAdded (s after : State) (name : List ℕ) : Type 0 where
  pub owner : after.owners name ≡ true
  pub others : (other : List ℕ) → other ≢ name → after.owners other ≡ s.owners other
  pub senders : after.senders ≡ s.senders
  pub gateways : after.gateways ≡ s.gateways
  pub devices : after.devices ≡ s.devices
  pub traffic : SameTraffic s after

abbrev pub OwnersAddedExactly : Type 0
OwnersAddedExactly = (c : Settings) (s : State) (e : Envelope) (name : List ℕ) → e.message ≡ OwnerAdd name
    → ((step c s e).1 ≡ Success) ↔ IsNewOwner s e name

abbrev pub OwnersAddedAlone : Type 0
OwnersAddedAlone = (c : Settings) (s : State) (e : Envelope) (name : List ℕ) → e.message ≡ OwnerAdd name
    → (step c s e).1 ≡ Success → IsOwnerAdded s (step c s e).0 name

-- ---- gateways

-- An operator sends the message, and no gateway has the name.
pub record IsNewGateway (s : State) (e : Envelope) (name : List ℕ) : Type 0 where
  pub operator : IsTrue (is_operator (s.senders e.sender))
  pub new : s.gateways name ≡ false

-- There is a gateway with the name. Each other gateway is as it was, and so is everything else.
pub record IsGatewayAdded (s after : State) (name : List ℕ) : Type 0 where
  pub gateway : after.gateways name ≡ true
  pub others : (other : List ℕ) → other ≢ name → after.gateways other ≡ s.gateways other
  pub senders : after.senders ≡ s.senders
  pub owners : after.owners ≡ s.owners
  pub devices : after.devices ≡ s.devices
  pub traffic : SameTraffic s after

abbrev pub GatewaysAddedExactly : Type 0
GatewaysAddedExactly = (c : Settings) (s : State) (e : Envelope) (name : List ℕ) → e.message ≡ GatewayAdd name
    → ((step c s e).1 ≡ Success) ↔ IsNewGateway s e name

abbrev pub GatewaysAddedAlone : Type 0
GatewaysAddedAlone = (c : Settings) (s : State) (e : Envelope) (name : List ℕ) → e.message ≡ GatewayAdd name
    → (step c s e).1 ≡ Success → IsGatewayAdded s (step c s e).0 name

-- ---- devices

-- An operator sends the message, the owner is known, and no device has the DevEUI.
pub record IsNewDevice (s : State) (e : Envelope) (dev_eui : ℕ) (owner : List ℕ) : Type 0 where
  pub operator : IsTrue (is_operator (s.senders e.sender))
  pub owned : IsTrue (s.owners owner)
  pub new : s.devices dev_eui ≡ None

-- The device has this JoinEUI and this owner. Each other device is as it was, and so is everything else.
pub record IsDeviceAdded (s after : State) (dev_eui join_eui : ℕ) (owner : List ℕ) : Type 0 where
  pub device : after.devices dev_eui ≡ Some (record { join_eui = join_eui; owner = owner })
  pub others : (other : ℕ) → other ≢ dev_eui → after.devices other ≡ s.devices other
  pub senders : after.senders ≡ s.senders
  pub owners : after.owners ≡ s.owners
  pub gateways : after.gateways ≡ s.gateways
  pub traffic : SameTraffic s after

abbrev pub DevicesAddedExactly : Type 0
DevicesAddedExactly = (c : Settings) (s : State) (e : Envelope) (dev_eui join_eui : ℕ) (owner : List ℕ) → e.message ≡ DeviceAdd dev_eui join_eui owner
    → ((step c s e).1 ≡ Success) ↔ IsNewDevice s e dev_eui owner

abbrev pub DevicesAddedAlone : Type 0
DevicesAddedAlone = (c : Settings) (s : State) (e : Envelope) (dev_eui join_eui : ℕ) (owner : List ℕ) → e.message ≡ DeviceAdd dev_eui join_eui owner
    → (step c s e).1 ≡ Success → IsDeviceAdded s (step c s e).0 dev_eui join_eui owner

-- ---- moves

-- An operator sends the message, and both the device and the owner are known. The owner may be the one that the device has.
pub record IsMovable (s : State) (e : Envelope) (dev_eui : ℕ) (owner : List ℕ) : Type 0 where
  pub operator : IsTrue (is_operator (s.senders e.sender))
  pub device : Device
  pub there : s.devices dev_eui ≡ Some device
  pub owned : IsTrue (s.owners owner)

-- The device has this owner, and its JoinEUI as before. Its last nonce and the floor of its sessions are as they were. Each other device is
-- as it was, and so is everything else.
pub record IsDeviceMoved (s after : State) (dev_eui : ℕ) (owner : List ℕ) : Type 0 where
  pub device : (was : Device) → s.devices dev_eui ≡ Some was → after.devices dev_eui ≡ Some (record { join_eui = was.join_eui; owner = owner })
  pub nonce : last_nonce after.sessions dev_eui ≡ last_nonce s.sessions dev_eui
  pub floor : (session : ℕ) → is_below_floor after.uplinks after.sessions dev_eui session ≡ is_below_floor s.uplinks s.sessions dev_eui session
  pub others : (other : ℕ) → other ≢ dev_eui → after.devices other ≡ s.devices other
  pub senders : after.senders ≡ s.senders
  pub owners : after.owners ≡ s.owners
  pub gateways : after.gateways ≡ s.gateways
  pub traffic : SameTraffic s after

abbrev pub DevicesMovedExactly : Type 0
DevicesMovedExactly = (c : Settings) (s : State) (e : Envelope) (dev_eui : ℕ) (owner : List ℕ) → e.message ≡ DeviceMove dev_eui owner
    → ((step c s e).1 ≡ Success) ↔ IsMovable s e dev_eui owner

abbrev pub DevicesMovedAlone : Type 0
DevicesMovedAlone = (c : Settings) (s : State) (e : Envelope) (dev_eui : ℕ) (owner : List ℕ) → e.message ≡ DeviceMove dev_eui owner
    → (step c s e).1 ≡ Success → IsDeviceMoved s (step c s e).0 dev_eui owner

-- ---- the end of a booking

-- The booking is there, and was neither sent nor dropped.
pub record IsOpenBooking (s : State) (number : ℕ) : Type 0 where
  pub booking : Booking
  pub there : item_at s.bookings number ≡ Some booking
  pub standing : booking.standing ≡ Booked

-- The booking is sent or dropped, and its uplink, gateway, band and span are as before. Each other booking is as it was, and so is
-- everything else.
pub record IsBookingEnded (s after : State) (number : ℕ) (sent : Bool) : Type 0 where
  pub booking : (was : Booking) → item_at s.bookings number ≡ Some was
      → item_at after.bookings number ≡ Some (record { uplink = was.uplink; gateway = was.gateway; band = was.band; span = was.span; standing = if sent then Sent else Dropped })
  pub others : (other : ℕ) → other ≢ number → item_at after.bookings other ≡ item_at s.bookings other
  pub count : length after.bookings ≡ length s.bookings
  pub senders : after.senders ≡ s.senders
  pub owners : after.owners ≡ s.owners
  pub gateways : after.gateways ≡ s.gateways
  pub devices : after.devices ≡ s.devices
  pub sessions : after.sessions ≡ s.sessions
  pub uplinks : after.uplinks ≡ s.uplinks
  pub receptions : after.receptions ≡ s.receptions
  pub limits : after.limits ≡ s.limits

-- whoever sends the message
abbrev pub DownlinksEndedExactly : Type 0
DownlinksEndedExactly = (c : Settings) (s : State) (e : Envelope) (number : ℕ) (sent : Bool) → e.message ≡ DownDone number sent
    → ((step c s e).1 ≡ Success) ↔ IsOpenBooking s number

abbrev pub DownlinksEndedAlone : Type 0
DownlinksEndedAlone = (c : Settings) (s : State) (e : Envelope) (number : ℕ) (sent : Bool) → e.message ≡ DownDone number sent
    → (step c s e).1 ≡ Success → IsBookingEnded s (step c s e).0 number sent
