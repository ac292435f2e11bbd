-- The checks of downlinks, by a view.
use Rattle.std.specs.Prelude.{ℕ, ◌+◌, Bool, not, List, [], ◌∷◌, ◌++◌, Ok}
use Rattle.radio_core.specs.declared.bands.Band.{Band}
use Rattle.radio_core.specs.declared.data_rates.Rate.{Rate}
use Rattle.radio_core.specs.Bands.{band_at}
use Rattle.duty_core.specs.Computed.{is_clear, hours_within}
use Rattle.duty_core.specs.Use.{Interval}
use Rattle.registry_core.specs.declared.answers.Answer.TheVariants.{Success, DownSuccess}
use Rattle.registry_core.specs.declared.answers.Refusal.TheVariants.{UnknownGateway, UnknownDevAddr, BadFrame, OutOfBand, NoUplink, DownCounter, Collision, Duty, Answered, NoBooking, Done}
use Rattle.registry_core.specs.declared.effects.Effect.TheVariants.{AddsBooking, EndsBooking}
use Rattle.registry_core.specs.declared.facts.Standing.TheVariants.{Booked}
use Rattle.registry_core.specs.declared.views.View.{View}
use Rattle.registry_core.specs.declared.windows.Window.{Window}
use Rattle.registry_core.specs.Bookings.{is_booked}
use Rattle.registry_core.specs.steps.ByView.{address_by}
use Rattle.registry_core.specs.Checks.{Checked, ◌>>=◌, ◌>>◌, wants, needs}
use Rattle.registry_core.specs.Decision.{Decision}
use Rattle.registry_core.specs.Downlinks.{on_air}
use Rattle.registry_core.specs.Frames.{frame_at_rate, downlink_to, goes_to, counts_as}
use Rattle.registry_core.specs.Windows.{window_of}

unfoldable pub down_added_by : View → ℕ → List ℕ → Band → ℕ → Interval → Checked Decision
down_added_by v number gateway band start span = do
  wants (is_clear v.near.items span) Collision
  wants (hours_within (v.in_band.items ++ span ∷ []) v.limit) Duty
  Ok (
    AddsBooking (record { uplink = number; gateway = gateway; band = band; span = span; standing = Booked }),
    DownSuccess span.len band (v.bookings + 1) start,
  )

unfoldable pub down_book_by : View → List ℕ → Window → List ℕ → Checked Decision
down_book_by v gateway window octets = do
  wants v.gateway_known UnknownGateway
  seen ← needs v.uplink NoUplink
  reception ← needs seen.at_gateway NoUplink
  let opens : ℕ × Rate = window_of seen.uplink.kind reception.end reception.rate window
  down ← needs (downlink_to seen.uplink.kind (frame_at_rate opens.1.dr octets)) BadFrame
  wants (goes_to (address_by v seen.uplink.session) down) UnknownDevAddr
  wants (not v.answered) Answered
  wants (counts_as v.next_down down) DownCounter
  band ← needs (band_at opens.1.freq opens.1.dr) OutOfBand
  down_added_by v seen.number gateway band opens.0 (on_air opens.0 opens.1 octets)

unfoldable pub down_done_by : View → ℕ → Bool → Checked Decision
down_done_by v number sent = do
  standing ← needs v.booking NoBooking
  wants (is_booked standing) Done
  Ok (EndsBooking number sent, Success)
