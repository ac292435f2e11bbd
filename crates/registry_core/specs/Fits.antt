-- What a change needs of the facts to which it is applied.
use Rattle.std.specs.Prelude.{◌≡◌, ℕ, ◌+◌, false, List, length, Some, None, is_some, IsTrue}
use Rattle.registry_core.specs.declared.effects.Effect.{Effect}
use Rattle.registry_core.specs.declared.effects.Effect.TheVariants.{Nothing, AddsSender, AddsOwner, AddsGateway, AddsDevice, MovesDevice, AddsSession, AddsUplink, AddsReception, AddsBooking, EndsBooking, SetsLimit}
use Rattle.registry_core.specs.declared.facts.Booking.{Booking}
use Rattle.registry_core.specs.declared.facts.Kind.TheVariants.{Join, Data}
use Rattle.registry_core.specs.declared.facts.Session.{Session}
use Rattle.registry_core.specs.declared.facts.Standing.TheVariants.{Booked}
use Rattle.registry_core.specs.declared.facts.Uplink.{Uplink}
use Rattle.registry_core.specs.declared.messages.Envelope.{Envelope}
use Rattle.registry_core.specs.Derived.{is_above, last_counter, last_nonce}
use Rattle.registry_core.specs.Heard.{IsHeard, state_of}
use Rattle.registry_core.specs.Numbered.{item_at}
use Rattle.registry_core.specs.Settings.{Settings}
use Rattle.registry_core.specs.State.{State, next_uplink}
use Rattle.registry_core.specs.Step.{decision_of}

-- a new session of a device that is there, with a nonce above its last, and its join uplink
pub record SessionFits (session : Session) (uplink : Uplink) (at : List ℕ) (s : State) : Type 0 where
  pub device : IsTrue (is_some (s.devices session.device))
  pub nonce : IsTrue (is_above session.nonce (last_nonce s.sessions session.device))
  pub number : uplink.session ≡ length s.sessions + 1
  pub kind : uplink.kind ≡ Join
  pub counter : uplink.counter ≡ session.nonce
  pub gateway : IsTrue (s.gateways at)
  pub no_reception : s.receptions (next_uplink s) at ≡ None

-- a new data uplink of a session that is there, with a counter above its last
pub record UplinkFits (uplink : Uplink) (at : List ℕ) (s : State) : Type 0 where
  pub session : IsTrue (is_some (item_at s.sessions uplink.session))
  pub kind : uplink.kind ≡ Data
  pub counter : IsTrue (is_above uplink.counter (last_counter s.uplinks uplink.session))
  pub gateway : IsTrue (s.gateways at)
  pub no_reception : s.receptions (next_uplink s) at ≡ None

-- a new reception of an uplink that is there
pub record ReceptionFits (number : ℕ) (at : List ℕ) (s : State) : Type 0 where
  pub uplink : IsTrue (is_some (item_at s.uplinks number))
  pub gateway : IsTrue (s.gateways at)
  pub no_reception : s.receptions number at ≡ None

-- a new booking, for an uplink that the gateway received
pub record BookingFits (booking : Booking) (s : State) : Type 0 where
  pub uplink : IsTrue (is_some (item_at s.uplinks booking.uplink))
  pub gateway : IsTrue (s.gateways booking.gateway)
  pub reception : IsTrue (is_some (s.receptions booking.uplink booking.gateway))
  pub standing : booking.standing ≡ Booked

-- a booking that is there, neither sent nor dropped
pub record EndFits (number : ℕ) (s : State) : Type 0 where
  pub booking : Booking
  pub there : item_at s.bookings number ≡ Some booking
  pub standing : booking.standing ≡ Booked

-- the effect adds only what isn't there, and names only what is
abbrev pub Fits : Effect → State → Type 0
Fits Nothing s = Unit {0}
Fits (AddsSender name role) s = s.senders name ≡ None
Fits (AddsOwner name) s = s.owners name ≡ false
Fits (AddsGateway name) s = s.gateways name ≡ false
Fits (AddsDevice dev_eui device) s = (s.devices dev_eui ≡ None) × IsTrue (s.owners device.owner)
Fits (MovesDevice dev_eui owner) s = IsTrue (is_some (s.devices dev_eui)) × IsTrue (s.owners owner)
Fits (AddsSession session uplink gateway reception) s = SessionFits session uplink gateway s
Fits (AddsUplink uplink gateway reception) s = UplinkFits uplink gateway s
Fits (AddsReception number gateway reception) s = ReceptionFits number gateway s
Fits (AddsBooking booking) s = BookingFits booking s
Fits (EndsBooking number sent) s = EndFits number s
Fits (SetsLimit gateway limit) s = IsTrue (s.gateways gateway)

-- whatever was heard, what a step changes fits
abbrev pub DecisionsFit : Type 0
DecisionsFit = (c : Settings) (heard : List Envelope) (e : Envelope) → IsHeard c heard
    → Fits (decision_of c (state_of c heard) e).0 (state_of c heard)
