-- The view: the part of the state that one message needs. What the message doesn't need is false, 0, absent or empty.
use Rattle.std.specs.Prelude.{◌≡◌, ℕ, pos, Bool, false, List, [], length, Option, Some, None, is_some, option_map, option_and_then, IsPermutation}
use Rattle.std.specs.Option.{option_map_or}
use Rattle.radio_core.specs.declared.data_rates.Rate.{Rate}
use Rattle.radio_core.specs.Bands.{band_at}
use Rattle.radio_core.specs.Frames.{frame_of}
use Rattle.duty_core.specs.Near.{near_ones}
use Rattle.duty_core.specs.Use.{Interval}
use Rattle.registry_core.specs.declared.facts.Device.{Device}
use Rattle.registry_core.specs.declared.facts.Reception.{Reception}
use Rattle.registry_core.specs.declared.facts.Session.{Session}
use Rattle.registry_core.specs.declared.facts.Standing.{Standing}
use Rattle.registry_core.specs.declared.facts.Uplink.{Uplink}
use Rattle.registry_core.specs.declared.frames.JoinRequest.{JoinRequest}
use Rattle.registry_core.specs.declared.messages.Envelope.{Envelope}
use Rattle.registry_core.specs.declared.messages.Message.{Message}
use Rattle.registry_core.specs.declared.messages.Message.TheVariants.{SenderAdd, OwnerAdd, GatewayAdd, DeviceAdd, DeviceMove, JoinHeard, FrameHeard, DownBook, DownDone, LimitSet}
use Rattle.registry_core.specs.declared.views.SessionView.{SessionView}
use Rattle.registry_core.specs.declared.views.UplinkView.{UplinkView}
use Rattle.registry_core.specs.declared.views.View.{View}
use Rattle.registry_core.specs.Bookings.{downlinks, downlinks_in, is_answered, limit_standing, next_down}
use Rattle.registry_core.specs.Decision.{Decision}
use Rattle.registry_core.specs.Derived.{last_nonce, join_with, session_with_address, data_with, last_counter, is_below_floor}
use Rattle.registry_core.specs.Frames.{data_up, join_request}
use Rattle.registry_core.specs.Heard.{IsHeard, state_of}
use Rattle.registry_core.specs.Numbered.{item_at}
use Rattle.registry_core.specs.Settings.{Settings, IsBlock}
use Rattle.registry_core.specs.State.{State}
use Rattle.registry_core.specs.Step.{decision_of}
use Rattle.registry_core.specs.Windows.{window_of}

-- ---- what the message names

-- there is the sender
abbrev pub sender_known : State → Message → Bool
sender_known s (SenderAdd sender role) = is_some (s.senders sender)
sender_known s _ = false

-- there is the owner
abbrev pub owner_known : State → Message → Bool
owner_known s (OwnerAdd owner) = s.owners owner
owner_known s (DeviceAdd dev_eui join_eui owner) = s.owners owner
owner_known s (DeviceMove dev_eui owner) = s.owners owner
owner_known s _ = false

-- there is the gateway
abbrev pub gateway_known : State → Message → Bool
gateway_known s (GatewayAdd gateway) = s.gateways gateway
gateway_known s (JoinHeard report verdict) = s.gateways report.gateway
gateway_known s (FrameHeard report verdict) = s.gateways report.gateway
gateway_known s (DownBook uplink gateway window octets) = s.gateways gateway
gateway_known s (LimitSet gateway limit) = s.gateways gateway
gateway_known s _ = false

-- the join request that it reports
abbrev pub join_for : Message → Option JoinRequest
join_for (JoinHeard report verdict) = join_request (frame_of report.octets)
join_for _ = None

-- the device, or that of the join request, if it is there
abbrev pub device_named : State → Message → Option Device
device_named s (DeviceAdd dev_eui join_eui owner) = s.devices dev_eui
device_named s (DeviceMove dev_eui owner) = s.devices dev_eui
device_named s m = option_and_then (λ join. s.devices join.dev_eui) (join_for m)

-- the last nonce of the join request's device
abbrev pub last_nonce_for : State → Message → Option ℕ
last_nonce_for s m = option_and_then (λ join. last_nonce s.sessions join.dev_eui) (join_for m)

-- ---- the session whose data frame it reports

abbrev pub session_for : Settings → State → Message → Option (ℕ × Session)
session_for c s (FrameHeard report verdict) = option_and_then (λ frame. session_with_address s.sessions c.base frame.addr) (data_up (frame_of report.octets))
session_for c s _ = None

abbrev pub view_of_session : State → ℕ × Session → SessionView
view_of_session s found = record {
  number = found.0;
  device = found.1.device;
  last_counter = last_counter s.uplinks found.0;
  below_floor = is_below_floor s.uplinks s.sessions found.1.device found.0;
}

-- ---- the uplink that it names or that its frame may copy

-- the uplink with this number
abbrev pub uplink_numbered : State → ℕ → Option (ℕ × Uplink)
uplink_numbered s number = option_map (λ uplink. (number, uplink)) (item_at s.uplinks number)

-- the session's data uplink with the verdict's counter
abbrev pub data_for : State → Option (ℕ × Session) → Option ℕ → Option (ℕ × Uplink)
data_for s session verdict = option_and_then (λ found. option_and_then (data_with s.uplinks found.0) verdict) session

abbrev pub view_of_uplink : State → List ℕ → ℕ × Uplink → UplinkView
view_of_uplink s gateway found = record { number = found.0; uplink = found.1; at_gateway = s.receptions found.0 gateway }

abbrev pub uplink_for : Settings → State → Message → Option UplinkView
uplink_for c s (JoinHeard report verdict) = option_map (view_of_uplink s report.gateway) (option_and_then (λ join. join_with s.uplinks s.sessions join.dev_eui join.nonce) (join_request (frame_of report.octets)))
uplink_for c s (FrameHeard report verdict) = option_map (view_of_uplink s report.gateway) (data_for s (session_for c s (FrameHeard report verdict)) verdict)
uplink_for c s (DownBook uplink gateway window octets) = option_map (view_of_uplink s gateway) (uplink_numbered s uplink)
uplink_for c s _ = None

-- ---- the downlink

-- a booking that isn't dropped answers the uplink
abbrev pub answered_for : State → Message → Bool
answered_for s (DownBook uplink gateway window octets) = is_answered s.bookings uplink
answered_for s _ = false

-- the next downlink counter of the uplink's session
abbrev pub next_down_for : State → Message → ℕ
next_down_for s (DownBook uplink gateway window octets) = option_map_or (λ (found : Uplink). next_down s.bookings s.uplinks found.session) (item_at s.uplinks uplink) 0
next_down_for s _ = 0

-- the state of the booking that it names
abbrev pub booking_for : State → Message → Option Standing
booking_for s (DownDone booking sent) = option_map (λ found. found.standing) (item_at s.bookings booking)
booking_for s _ = None

-- when its receive window opens, and its frequency and data rate
abbrev pub window_for : State → Message → Option (ℕ × Rate)
window_for s (DownBook uplink gateway window octets) =
    option_and_then (λ (found : Uplink). option_map (λ (reception : Reception). window_of found.kind reception.end reception.rate window) (s.receptions uplink gateway)) (item_at s.uplinks uplink)
window_for s _ = None

-- the gateway that is to send it
abbrev pub gateway_for : Message → List ℕ
gateway_for (DownBook uplink gateway window octets) = gateway
gateway_for _ = []

-- the downlinks of its gateway that aren't dropped and begin near it, in all bands
abbrev pub near_for : State → Message → List Interval
near_for s m = option_map_or (λ (opens : ℕ × Rate). near_ones (pos opens.0) (downlinks s.bookings (gateway_for m))) (window_for s m) []

-- the same in its band
abbrev pub near_in : State → List ℕ → ℕ × Rate → List Interval
near_in s gateway opens = option_map_or (λ band. near_ones (pos opens.0) (downlinks_in s.bookings gateway band)) (band_at opens.1.freq opens.1.dr) []

-- in the band of a limit that is to be set, all of the gateway's downlinks that aren't dropped
abbrev pub in_band_for : State → Message → List Interval
in_band_for s (LimitSet gateway limit) = downlinks_in s.bookings gateway limit.band
in_band_for s m = option_map_or (near_in s (gateway_for m)) (window_for s m) []

-- the limit of its gateway's band
abbrev pub limit_in_window : State → List ℕ → ℕ × Rate → ℕ
limit_in_window s gateway opens = option_map_or (limit_standing s gateway) (band_at opens.1.freq opens.1.dr) 0

abbrev pub limit_for : State → Message → ℕ
limit_for s m = option_map_or (limit_in_window s (gateway_for m)) (window_for s m) 0

-- ---- the view

-- the view is what the state has for the envelope
pub record IsView (c : Settings) (s : State) (e : Envelope) (v : View) : Type 0 where
  pub role : s.senders e.sender ≡ Some v.role
  pub base : v.base ≡ c.base
  pub addresses : v.addresses ≡ c.addresses
  pub sessions : v.sessions ≡ length s.sessions
  pub uplinks : v.uplinks ≡ length s.uplinks
  pub sender : v.sender_known ≡ sender_known s e.message
  pub owner : v.owner_known ≡ owner_known s e.message
  pub gateway : v.gateway_known ≡ gateway_known s e.message
  pub device : v.device ≡ device_named s e.message
  pub last_nonce : v.last_nonce ≡ last_nonce_for s e.message
  pub session : v.session ≡ option_map (view_of_session s) (session_for c s e.message)
  pub uplink : v.uplink ≡ uplink_for c s e.message
  pub bookings : v.bookings ≡ length s.bookings
  pub answered : v.answered ≡ answered_for s e.message
  pub next_down : v.next_down ≡ next_down_for s e.message
  pub booking : v.booking ≡ booking_for s e.message
  pub limit : v.limit ≡ limit_for s e.message
  -- in any order
  pub near : IsPermutation (near_for s e.message) v.near.items
  pub in_band : IsPermutation (in_band_for s e.message) v.in_band.items

-- the decision is one step of the registry, for any such view
abbrev pub IsStep : Message → View → Decision → Type 0
IsStep message view decision = (c : Settings) (heard : List Envelope) (e : Envelope)
    → IsBlock c.base c.addresses → IsHeard c heard → e.message ≡ message → IsView c (state_of c heard) e view
    → decision ≡ decision_of c (state_of c heard) e
