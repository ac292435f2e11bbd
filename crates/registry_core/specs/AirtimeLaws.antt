-- What is booked of the air: when each downlink and each uplink is on the air, for how long, and in which band.
use Rattle.std.specs.Prelude.{◌≡◌, ◌⊎◌, ℕ, ◌+◌, ◌≤◌, true, false, List, length, Some, IsTrue, pos}
use Rattle.radio_core.specs.declared.data_rates.DataRate.{DataRate}
use Rattle.radio_core.specs.declared.data_rates.Rate.{Rate}
use Rattle.radio_core.specs.Bands.{lies_in}
use Rattle.radio_core.specs.DataRates.{max_length}
use Rattle.radio_core.specs.TimeOnAir.{IsAirtime}
use Rattle.registry_core.specs.declared.facts.Booking.{Booking}
use Rattle.registry_core.specs.declared.facts.Kind.{Kind}
use Rattle.registry_core.specs.declared.facts.Kind.TheVariants.{Join, Data}
use Rattle.registry_core.specs.declared.facts.Reception.{Reception}
use Rattle.registry_core.specs.declared.facts.Uplink.{Uplink}
use Rattle.registry_core.specs.declared.frames.Downlink.{Downlink}
use Rattle.registry_core.specs.declared.messages.Envelope.{Envelope}
use Rattle.registry_core.specs.declared.windows.Window.{Window}
use Rattle.registry_core.specs.Derived.{address_of}
use Rattle.registry_core.specs.Frames.{downlink_to, frame_at_rate, goes_to}
use Rattle.registry_core.specs.Heard.{state_of}
use Rattle.registry_core.specs.Numbered.{item_at}
use Rattle.registry_core.specs.Settings.{Settings}
use Rattle.registry_core.specs.State.{State}
use Rattle.registry_core.specs.Windows.{delay, rate_in}

-- the number of octets of the frame that answers an uplink of the kind: 17 or 33 for a join accept, and at least 12 for a data frame
abbrev pub HasDownlinkSize : Kind → ℕ → Type 0
HasDownlinkSize Join n = (n ≡ 17) ⊎ (n ≡ 33)
HasDownlinkSize Data n = 12 ≤ n

-- the frame has this number of octets, and the data rate can carry them
pub record IsDownlinkSize (kind : Kind) (dr : DataRate) (n : ℕ) : Type 0 where
  pub frame : HasDownlinkSize kind n
  pub carried : n ≤ max_length dr

-- The booking answers an uplink that its gateway received, in one of the two windows after that. Its octets are a frame that the uplink's
-- kind asks for and that the window's data rate can carry, to the session's address. It begins when the window opens. Its length is that of
-- a downlink with these octets, which has no payload CRC if it is of LoRa. The window is in its band.
pub record IsDownlink (c : Settings) (s : State) (booking : Booking) : Type 0 where
  pub uplink : Uplink
  pub there : item_at s.uplinks booking.uplink ≡ Some uplink
  pub reception : Reception
  pub heard : s.receptions booking.uplink booking.gateway ≡ Some reception
  pub window : Window
  pub rate : Rate
  pub sent_so : rate ≡ rate_in window reception.rate
  pub octets : List ℕ
  pub down : Downlink
  pub frame : downlink_to uplink.kind (frame_at_rate rate.dr octets) ≡ Some down
  pub size : IsDownlinkSize uplink.kind rate.dr (length octets)
  pub address : IsTrue (goes_to (address_of c uplink.session) down)
  pub start : booking.span.start ≡ pos (reception.end + delay uplink.kind window)
  pub airtime : IsAirtime rate.dr (length octets) false booking.span.len
  pub band : IsTrue (lies_in rate.freq rate.dr booking.band)

-- the same for each booking, whatever was heard
abbrev pub BookingsAreDownlinks : Type 0
BookingsAreDownlinks = (c : Settings) (heard : List Envelope) (n : ℕ) (booking : Booking)
    → item_at (state_of c heard).bookings n ≡ Some booking → IsDownlink c (state_of c heard) booking

-- A gateway has a reception of the uplink with this number whose data rate can carry its octets. Its length is that of an uplink with these
-- octets, which has a payload CRC if it is of LoRa. It ends when the reception ends, and the reception is in its band.
pub record IsReceived (s : State) (number : ℕ) (uplink : Uplink) : Type 0 where
  pub gateway : List ℕ
  pub reception : Reception
  pub heard : s.receptions number gateway ≡ Some reception
  pub carried : length uplink.octets ≤ max_length reception.rate.dr
  pub airtime : IsAirtime reception.rate.dr (length uplink.octets) true uplink.airtime
  pub ends : uplink.start + uplink.airtime ≡ reception.end
  pub band : IsTrue (lies_in reception.rate.freq reception.rate.dr uplink.band)

-- the same for each uplink, whatever was heard
abbrev pub UplinksAreReceived : Type 0
UplinksAreReceived = (c : Settings) (heard : List Envelope) (n : ℕ) (uplink : Uplink)
    → item_at (state_of c heard).uplinks n ≡ Some uplink → IsReceived (state_of c heard) n uplink
