-- The registry's state, and the changes that messages make in it. What has a name or an EUI is looked up by it, so that nothing depends on
-- the order in which a store stores it. Sessions, uplinks and bookings are numbered by their place from 1, in the order in which they were
-- accepted.
use Rattle.std.specs.Prelude.{ℕ, ◌+◌, ◌==◌, Bool, true, false, List, [], ◌∷◌, ◌++◌, length, Option, Some, None, option_map, bytes_eq, if◌then◌else◌}
use Rattle.radio_core.specs.Bands.{band_number}
use Rattle.registry_core.specs.declared.facts.Booking.{Booking}
use Rattle.registry_core.specs.declared.facts.Device.{Device}
use Rattle.registry_core.specs.declared.facts.Reception.{Reception}
use Rattle.registry_core.specs.declared.facts.Session.{Session}
use Rattle.registry_core.specs.declared.facts.Standing.TheVariants.{Sent, Dropped}
use Rattle.registry_core.specs.declared.facts.Uplink.{Uplink}
use Rattle.registry_core.specs.declared.messages.Role.{Role}
use Rattle.registry_core.specs.declared.messages.Role.TheVariants.{Operator}
use Rattle.registry_core.specs.declared.effects.Effect.{Effect}
use Rattle.registry_core.specs.declared.effects.Effect.TheVariants.{Nothing, AddsSender, AddsOwner, AddsGateway, AddsDevice, MovesDevice, AddsSession, AddsUplink, AddsReception, AddsBooking, EndsBooking, SetsLimit}
use Rattle.registry_core.specs.Limits.{Limit}
use Rattle.registry_core.specs.Numbered.{item_changed}
use Rattle.registry_core.specs.Settings.{Settings}

-- ---- facts

pub record State : Type 0 where
  -- the role of a sender
  pub senders : List ℕ → Option Role
  -- whether an owner has the name
  pub owners : List ℕ → Bool
  -- whether a gateway has the name
  pub gateways : List ℕ → Bool
  -- a device by its DevEUI
  pub devices : ℕ → Option Device
  pub sessions : List Session
  pub uplinks : List Uplink
  -- the reception of an uplink, by its number, at a gateway
  pub receptions : ℕ → List ℕ → Option Reception
  pub bookings : List Booking
  -- the limit that was set for a gateway's band, by the band's number
  pub limits : List ℕ → ℕ → Option ℕ

-- the function f with x at the name
abbrev pub at_name : {X : Type 0} → (List ℕ → X) → List ℕ → X → List ℕ → X
at_name f name x = λ other. if bytes_eq other name then x else f other

-- the function f with x at the number
abbrev pub at_number : {X : Type 0} → (ℕ → X) → ℕ → X → ℕ → X
at_number f n x = λ other. if other == n then x else f other

-- the opening state: the configured operator is the only sender, and there is nothing else
abbrev pub opening : Settings → State
opening c = record {
  senders = at_name (λ _. None) c.operator (Some Operator);
  owners = λ _. false;
  gateways = λ _. false;
  devices = λ _. None;
  sessions = [];
  uplinks = [];
  receptions = λ _ _. None;
  bookings = [];
  limits = λ _ _. None;
}

-- ---- changes

abbrev pub with_sender : State → List ℕ → Role → State
with_sender s name role = record s { senders = at_name s.senders name (Some role) }

abbrev pub with_owner : State → List ℕ → State
with_owner s name = record s { owners = at_name s.owners name true }

abbrev pub with_gateway : State → List ℕ → State
with_gateway s name = record s { gateways = at_name s.gateways name true }

abbrev pub with_device : State → ℕ → Device → State
with_device s dev_eui device = record s { devices = at_number s.devices dev_eui (Some device) }

-- the device with this owner, and all else as it was
abbrev pub owned_by : List ℕ → Device → Device
owned_by owner device = record device { owner = owner }

-- the devices, the one with the DevEUI with this owner, if it is there
abbrev pub devices_with_move : (ℕ → Option Device) → ℕ → List ℕ → ℕ → Option Device
devices_with_move devices dev_eui owner = at_number devices dev_eui (option_map (owned_by owner) (devices dev_eui))

abbrev pub with_move : State → ℕ → List ℕ → State
with_move s dev_eui owner = record s { devices = devices_with_move s.devices dev_eui owner }

abbrev pub with_session : State → Session → State
with_session s session = record s { sessions = s.sessions ++ session ∷ [] }

abbrev pub with_uplink : State → Uplink → State
with_uplink s uplink = record s { uplinks = s.uplinks ++ uplink ∷ [] }

-- the receptions with one more: of the uplink with the number, at the gateway
abbrev pub receptions_with : (ℕ → List ℕ → Option Reception) → ℕ → List ℕ → Reception → ℕ → List ℕ → Option Reception
receptions_with receptions number gateway reception = at_number receptions number (at_name (receptions number) gateway (Some reception))

abbrev pub with_reception : State → ℕ → List ℕ → Reception → State
with_reception s number gateway reception = record s { receptions = receptions_with s.receptions number gateway reception }

abbrev pub with_booking : State → Booking → State
with_booking s booking = record s { bookings = s.bookings ++ booking ∷ [] }

-- the booking as one that was sent, or as one that is dropped
abbrev pub ended : Bool → Booking → Booking
ended sent booking = record booking { standing = if sent then Sent else Dropped }

abbrev pub with_end : State → ℕ → Bool → State
with_end s number sent = record s { bookings = item_changed (ended sent) s.bookings number }

-- the limits, with this one at the gateway
abbrev pub limits_with : (List ℕ → ℕ → Option ℕ) → List ℕ → Limit → List ℕ → ℕ → Option ℕ
limits_with limits gateway limit = at_name limits gateway (at_number (limits gateway) (band_number limit.band) (Some limit.most))

abbrev pub with_limit : State → List ℕ → Limit → State
with_limit s gateway limit = record s { limits = limits_with s.limits gateway limit }

-- the number that the next uplink gets
abbrev pub next_uplink : State → ℕ
next_uplink s = length s.uplinks + 1

-- the state with a message's change
abbrev pub state_with : State → Effect → State
state_with s Nothing = s
state_with s (AddsSender name role) = with_sender s name role
state_with s (AddsOwner name) = with_owner s name
state_with s (AddsGateway name) = with_gateway s name
state_with s (AddsDevice dev_eui device) = with_device s dev_eui device
state_with s (MovesDevice dev_eui owner) = with_move s dev_eui owner
state_with s (AddsSession session uplink gateway reception) = with_reception (with_uplink (with_session s session) uplink) (next_uplink s) gateway reception
state_with s (AddsUplink uplink gateway reception) = with_reception (with_uplink s uplink) (next_uplink s) gateway reception
state_with s (AddsReception number gateway reception) = with_reception s number gateway reception
state_with s (AddsBooking booking) = with_booking s booking
state_with s (EndsBooking number sent) = with_end s number sent
state_with s (SetsLimit gateway limit) = with_limit s gateway limit
