-- A downlink that a gateway is to send, and the end of a booking (LoRaWAN L2 1.0.4, Class A). Checks and refusals are this project's,
-- unless a line names a source.
use Rattle.std.specs.Prelude.{ℕ, ◌+◌, Bool, false, not, List, [], ◌∷◌, ◌++◌, length, pos, Ok}
use Rattle.radio_core.specs.declared.bands.Band.{Band}
use Rattle.radio_core.specs.declared.data_rates.Rate.{Rate}
use Rattle.radio_core.specs.Bands.{band_at}
use Rattle.radio_core.specs.TimeOnAir.{airtime_of}
use Rattle.duty_core.specs.Computed.{is_clear, hours_within}
use Rattle.duty_core.specs.Use.{Interval}
use Rattle.registry_core.specs.declared.answers.Answer.TheVariants.{Success, DownSuccess}
use Rattle.registry_core.specs.declared.answers.Refusal.TheVariants.{UnknownGateway, UnknownDevAddr, BadFrame, OutOfBand, NoUplink, DownCounter, Collision, Duty, Answered, NoBooking, Done}
use Rattle.registry_core.specs.declared.effects.Effect.TheVariants.{AddsBooking, EndsBooking}
use Rattle.registry_core.specs.declared.facts.Standing.TheVariants.{Booked}
use Rattle.registry_core.specs.declared.windows.Window.{Window}
use Rattle.registry_core.specs.Bookings.{downlinks, downlinks_in, is_answered, is_booked, limit_standing, next_down}
use Rattle.registry_core.specs.Checks.{Checked, ◌>>=◌, ◌>>◌, wants, needs}
use Rattle.registry_core.specs.Decision.{Decision}
use Rattle.registry_core.specs.Derived.{address_of}
use Rattle.registry_core.specs.Frames.{frame_at_rate, downlink_to, goes_to, counts_as}
use Rattle.registry_core.specs.Numbered.{item_at}
use Rattle.registry_core.specs.Settings.{Settings}
use Rattle.registry_core.specs.State.{State}
use Rattle.registry_core.specs.Windows.{window_of}

-- When a downlink that begins at `start` is on the air. LoRa's have no payload CRC (RP002-1.0.4).
abbrev pub on_air : ℕ → Rate → List ℕ → Interval
on_air start rate octets = record { start = pos start; len = airtime_of rate.dr (length octets) false }

-- It shares no microsecond with a downlink of the gateway that isn't dropped, in any band; and with it every hour of the gateway's band is
-- within the limit (that duty cycle is time on air within an hour: ETSI EN 300 220-2).
unfoldable pub down_added : State → ℕ → List ℕ → Band → ℕ → Interval → Checked Decision
down_added s number gateway band start span = do
  wants (is_clear (downlinks s.bookings gateway) span) Collision
  wants (hours_within (downlinks_in s.bookings gateway band ++ span ∷ []) (limit_standing s gateway band)) Duty
  Ok (
    AddsBooking (record { uplink = number; gateway = gateway; band = band; span = span; standing = Booked }),
    DownSuccess span.len band (length s.bookings + 1) start,
  )

-- a gateway is to answer an uplink that it received, in a receive window
unfoldable pub down_book : Settings → State → ℕ → List ℕ → Window → List ℕ → Checked Decision
down_book c s number gateway window octets = do
  wants (s.gateways gateway) UnknownGateway
  uplink ← needs (item_at s.uplinks number) NoUplink
  reception ← needs (s.receptions number gateway) NoUplink
  let opens : ℕ × Rate = window_of uplink.kind reception.end reception.rate window
  down ← needs (downlink_to uplink.kind (frame_at_rate opens.1.dr octets)) BadFrame
  wants (goes_to (address_of c uplink.session) down) UnknownDevAddr
  wants (not (is_answered s.bookings number)) Answered
  wants (counts_as (next_down s.bookings s.uplinks uplink.session) down) DownCounter
  band ← needs (band_at opens.1.freq opens.1.dr) OutOfBand
  down_added s number gateway band opens.0 (on_air opens.0 opens.1 octets)

-- a booking's downlink was sent, or it is dropped
unfoldable pub down_done : State → ℕ → Bool → Checked Decision
down_done s number sent = do
  booking ← needs (item_at s.bookings number) NoBooking
  wants (is_booked booking.standing) Done
  Ok (EndsBooking number sent, Success)
