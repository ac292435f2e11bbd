-- The same checks, by a view.
use Rattle.std.specs.Prelude.{ℕ, ◌+◌, ◌-◌, ◌^◌, ◌<◌, ◌≤◌, ◌==◌, true, false, not, List, Option, Some, None, option_and_then, is_none, IfSome, nat_lt, bytes_eq, Ok, if◌then◌else◌}
use Rattle.radio_core.specs.declared.bands.Band.{Band}
use Rattle.radio_core.specs.Bands.{band_at}
use Rattle.radio_core.specs.Counters.{is_candidate}
use Rattle.registry_core.specs.declared.answers.Answer.TheVariants.{JoinSuccess, FrameSuccess}
use Rattle.registry_core.specs.declared.answers.Refusal.TheVariants.{UnknownGateway, UnknownDevEui, UnknownDevAddr, BadFrame, OutOfBand, MicFailed, JoinEui, Nonce, Addresses, Replayed, Late, Gap, SessionEnded, Time}
use Rattle.registry_core.specs.declared.effects.Effect.TheVariants.{AddsSession, AddsUplink}
use Rattle.registry_core.specs.declared.facts.Kind.TheVariants.{Join, Data}
use Rattle.registry_core.specs.declared.frames.DataFrame.{DataFrame}
use Rattle.registry_core.specs.declared.frames.JoinRequest.{JoinRequest}
use Rattle.registry_core.specs.declared.messages.JoinVerdict.{JoinVerdict}
use Rattle.registry_core.specs.declared.messages.Report.{Report}
use Rattle.registry_core.specs.declared.views.SessionView.{SessionView}
use Rattle.registry_core.specs.declared.views.UplinkView.{UplinkView}
use Rattle.registry_core.specs.declared.views.View.{View}
use Rattle.registry_core.specs.Checks.{Checked, ◌>>=◌, ◌>>◌, wants, needs, unless}
use Rattle.registry_core.specs.Decision.{Decision}
use Rattle.registry_core.specs.Derived.{is_above, is_below}
use Rattle.registry_core.specs.Frames.{data_up, frame_at_rate, join_request}
use Rattle.registry_core.specs.Joins.{is_good}
use Rattle.registry_core.specs.Uplinks.{is_time, reception_of, time_up, uplink_of, reception_added}

-- the view's numbers have space for one more, and its uplink has an address
pub record HasRoom (v : View) : Type 0 where
  pub block : v.base + v.addresses ≤ 2 ^ 32
  pub uplinks : v.uplinks + 1 < 2 ^ 64
  pub bookings : v.bookings + 1 < 2 ^ 64
  pub session : IfSome v.uplink (λ seen. (1 ≤ seen.uplink.session) × (seen.uplink.session ≤ v.addresses))

-- ---- a join

-- the address of session n
abbrev pub address_by : View → ℕ → ℕ
address_by v n = v.base + n - 1

-- the uplink that the octets copy
abbrev pub original_by : Option UplinkView → List ℕ → Option UplinkView
original_by seen octets = option_and_then (λ (u : UplinkView). if bytes_eq u.uplink.octets octets then Some u else None) seen

abbrev pub join_copied_by : View → Report → UplinkView → Checked Decision
join_copied_by v report seen = Ok (
  reception_added seen.number seen.at_gateway report,
  JoinSuccess seen.uplink.airtime seen.uplink.band true (address_by v seen.uplink.session) seen.number,
)

unfoldable pub join_added_by : View → Report → JoinRequest → Band → Checked Decision
join_added_by v report join band = do
  wants (is_above join.nonce v.last_nonce) Nonce
  wants (nat_lt v.sessions v.addresses) Addresses
  Ok (
    AddsSession (record { device = join.dev_eui; nonce = join.nonce })
        (uplink_of report (v.sessions + 1) Join join.nonce band) report.gateway (reception_of report),
    JoinSuccess (time_up report) band false (address_by v (v.sessions + 1)) (v.uplinks + 1),
  )

unfoldable pub join_heard_by : View → Report → JoinVerdict → Checked Decision
join_heard_by v report verdict = do
  wants (is_time report.time) Time
  wants v.gateway_known UnknownGateway
  join ← needs (join_request (frame_at_rate report.rate.dr report.octets)) BadFrame
  band ← needs (band_at report.rate.freq report.rate.dr) OutOfBand
  device ← needs v.device UnknownDevEui
  wants (device.join_eui == join.join_eui) JoinEui
  wants (is_good verdict) MicFailed
  unless (original_by v.uplink report.octets) (join_copied_by v report) (join_added_by v report join band)

-- ---- a data frame

abbrev pub data_copied_by : Report → SessionView → ℕ → UplinkView → Checked Decision
data_copied_by report session counter seen = Ok (
  reception_added seen.number seen.at_gateway report,
  FrameSuccess seen.uplink.airtime seen.uplink.band true counter session.device seen.number,
)

unfoldable pub data_added_by : View → Report → DataFrame → SessionView → ℕ → Band → Checked Decision
data_added_by v report frame session counter band = do
  wants (not session.below_floor) SessionEnded
  wants (is_none v.uplink) Replayed
  wants (not (is_below counter session.last_counter)) Late
  wants (is_candidate session.last_counter frame.fcnt counter) Gap
  Ok (
    AddsUplink (uplink_of report session.number Data counter band) report.gateway (reception_of report),
    FrameSuccess (time_up report) band false counter session.device (v.uplinks + 1),
  )

unfoldable pub frame_heard_by : View → Report → Option ℕ → Checked Decision
frame_heard_by v report verdict = do
  wants (is_time report.time) Time
  wants v.gateway_known UnknownGateway
  frame ← needs (data_up (frame_at_rate report.rate.dr report.octets)) BadFrame
  band ← needs (band_at report.rate.freq report.rate.dr) OutOfBand
  session ← needs v.session UnknownDevAddr
  counter ← needs verdict MicFailed
  unless (original_by v.uplink report.octets) (data_copied_by report session counter) (data_added_by v report frame session counter band)
