-- Laws of downlinks.
use Rattle.std.specs.Prelude.{◌≡◌, ◌≢◌, ◌↔◌, ℕ, ℤ, ◌+◌, ◌≤◌, Bool, true, false, List, [], ◌∷◌, ◌++◌, Some, is_some, IsTrue, All}
use Rattle.radio_core.specs.declared.bands.Band.{Band}
use Rattle.radio_core.specs.Bands.{band_at}
use Rattle.duty_core.specs.Near.{greatest_length}
use Rattle.duty_core.specs.Use.{EveryHourWithin, IsClear, is_in}
use Rattle.registry_core.specs.declared.answers.Answer.{Answer}
use Rattle.registry_core.specs.declared.answers.Answer.TheVariants.{DownSuccess, Refused}
use Rattle.registry_core.specs.declared.answers.Refusal.TheVariants.{OutOfBand}
use Rattle.registry_core.specs.declared.facts.Booking.{Booking}
use Rattle.registry_core.specs.declared.facts.Reception.{Reception}
use Rattle.registry_core.specs.declared.facts.Uplink.{Uplink}
use Rattle.registry_core.specs.declared.frames.Downlink.{Downlink}
use Rattle.registry_core.specs.declared.messages.Envelope.{Envelope}
use Rattle.registry_core.specs.declared.messages.Message.TheVariants.{DownBook}
use Rattle.registry_core.specs.declared.windows.Window.{Window}
use Rattle.registry_core.specs.Bookings.{downlinks, downlinks_in, is_answered, is_dropped, limit_standing, next_down, stands_at}
use Rattle.registry_core.specs.Derived.{address_of}
use Rattle.registry_core.specs.Downlinks.{on_air}
use Rattle.registry_core.specs.Frames.{counts_as, downlink_to, frame_at_rate, goes_to}
use Rattle.registry_core.specs.Heard.{state_of}
use Rattle.registry_core.specs.Numbered.{item_at}
use Rattle.registry_core.specs.Settings.{Settings}
use Rattle.registry_core.specs.State.{State}
use Rattle.registry_core.specs.Step.{step}
use Rattle.registry_core.specs.Windows.{delay, rate_in}

-- no downlink is longer than 3,000,000 microseconds, the length that makes another one near
abbrev pub DownlinksAreShort : Type 0
DownlinksAreShort = (c : Settings) (heard : List Envelope) → All (λ booking. booking.span.len ≤ greatest_length) (state_of c heard).bookings

-- no two downlinks of a gateway that aren't dropped are on the air at once, in any bands
abbrev pub GatewaysSendOneAtATime : Type 0
GatewaysSendOneAtATime = (c : Settings) (heard : List Envelope) (gateway : List ℕ) (m n : ℕ) (a b : Booking) → item_at (state_of c heard).bookings m ≡ Some a
    → item_at (state_of c heard).bookings n ≡ Some b → IsTrue (stands_at gateway a) → IsTrue (stands_at gateway b) → m ≢ n
    → (x : ℤ) → IsTrue (is_in b.span x) → is_in a.span x ≡ false

-- no two downlinks that aren't dropped answer one uplink
abbrev pub UplinksAreAnsweredOnce : Type 0
UplinksAreAnsweredOnce = (c : Settings) (heard : List Envelope) (m n : ℕ) (a b : Booking) → item_at (state_of c heard).bookings m ≡ Some a
    → item_at (state_of c heard).bookings n ≡ Some b → a.uplink ≡ b.uplink → is_dropped a.standing ≡ false → is_dropped b.standing ≡ false → m ≡ n

-- ---- which downlinks are booked

-- The gateway is known and has received the uplink. The octets are the frame that the uplink's kind asks for and that the window's data
-- rate can carry, to the session's address. The uplink has no booking but dropped ones, and FCnt is that of the next downlink counter. On
-- the air the downlink shares no microsecond with a downlink of the gateway that isn't dropped, and with it every sliding hour of the
-- gateway's band is within the limit.
pub record IsAccepted (c : Settings) (s : State) (number : ℕ) (gateway : List ℕ) (window : Window) (octets : List ℕ) : Type 0 where
  pub known : IsTrue (s.gateways gateway)
  pub uplink : Uplink
  pub there : item_at s.uplinks number ≡ Some uplink
  pub reception : Reception
  pub heard : s.receptions number gateway ≡ Some reception
  pub down : Downlink
  pub frame : downlink_to uplink.kind (frame_at_rate (rate_in window reception.rate).dr octets) ≡ Some down
  pub address : IsTrue (goes_to (address_of c uplink.session) down)
  pub unanswered : is_answered s.bookings number ≡ false
  pub counter : IsTrue (counts_as (next_down s.bookings s.uplinks uplink.session) down)
  pub band : Band
  pub lies_in_it : band_at (rate_in window reception.rate).freq (rate_in window reception.rate).dr ≡ Some band
  pub clear : IsClear (downlinks s.bookings gateway) (on_air (reception.end + delay uplink.kind window) (rate_in window reception.rate) octets)
  pub hours : EveryHourWithin (downlinks_in s.bookings gateway band ++ on_air (reception.end + delay uplink.kind window) (rate_in window reception.rate) octets ∷ []) (limit_standing s gateway band)

abbrev pub tells_booking : Answer → Bool
tells_booking (DownSuccess airtime band booking start) = true
tells_booking _ = false

-- a downlink is booked if and only if it is accepted
abbrev pub BookedExactly : Type 0
BookedExactly = (c : Settings) (s : State) (e : Envelope) (number : ℕ) (gateway : List ℕ) (window : Window) (octets : List ℕ) → e.message ≡ DownBook number gateway window octets
    → IsTrue (tells_booking (step c s e).1) ↔ IsAccepted c s number gateway window octets

-- ---- their bands

-- each reception of an uplink is in a band
abbrev pub ReceptionsLieInBands : Type 0
ReceptionsLieInBands = (c : Settings) (heard : List Envelope) (number : ℕ) (gateway : List ℕ) (reception : Reception) → (state_of c heard).receptions number gateway ≡ Some reception
    → IsTrue (is_some (band_at reception.rate.freq reception.rate.dr))

-- and so is the second window: no downlink is refused for its band
abbrev pub DownlinksHaveBands : Type 0
DownlinksHaveBands = (c : Settings) (heard : List Envelope) (e : Envelope) (number : ℕ) (gateway : List ℕ) (window : Window) (octets : List ℕ)
    → e.message ≡ DownBook number gateway window octets → (step c (state_of c heard) e).1 ≢ Refused OutOfBand
