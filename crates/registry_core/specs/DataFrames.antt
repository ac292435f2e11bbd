-- A data frame that a gateway reports (LoRaWAN L2 1.0.4, section 4.3). Checks and refusals are this project's, unless a line names a
-- source.
use Rattle.std.specs.Prelude.{ℕ, true, false, not, List, Option, Ok, option_and_then, is_none}
use Rattle.radio_core.specs.declared.bands.Band.{Band}
use Rattle.radio_core.specs.Bands.{band_at}
use Rattle.radio_core.specs.Counters.{is_candidate}
use Rattle.registry_core.specs.declared.answers.Answer.TheVariants.{FrameSuccess}
use Rattle.registry_core.specs.declared.answers.Refusal.TheVariants.{UnknownGateway, UnknownDevAddr, BadFrame, OutOfBand, MicFailed, Replayed, Late, Gap, SessionEnded, Time}
use Rattle.registry_core.specs.declared.effects.Effect.TheVariants.{AddsUplink}
use Rattle.registry_core.specs.declared.facts.Kind.TheVariants.{Data}
use Rattle.registry_core.specs.declared.facts.Uplink.{Uplink}
use Rattle.registry_core.specs.declared.frames.DataFrame.{DataFrame}
use Rattle.registry_core.specs.declared.messages.Report.{Report}
use Rattle.registry_core.specs.Checks.{Checked, ◌>>=◌, ◌>>◌, wants, needs, unless}
use Rattle.registry_core.specs.Decision.{Decision}
use Rattle.registry_core.specs.Derived.{session_with_address, data_with, last_counter, is_below, is_below_floor}
use Rattle.registry_core.specs.Frames.{frame_at_rate, data_up}
use Rattle.registry_core.specs.Settings.{Settings}
use Rattle.registry_core.specs.State.{State, next_uplink}
use Rattle.registry_core.specs.Uplinks.{is_time, reception_of, time_up, uplink_of, reception_added, same_octets}

-- the uplink that the frame copies: the session's data uplink with the verdict's counter, if it has the same octets
unfoldable pub original_data : State → ℕ → ℕ → List ℕ → Option (ℕ × Uplink)
original_data s session counter octets = option_and_then (same_octets octets) (data_with s.uplinks session counter)

-- a copy is answered with the booked uplink, and books none
abbrev pub data_copied : State → Report → ℕ → ℕ → ℕ × Uplink → Checked Decision
data_copied s report dev_eui counter found = Ok (
  reception_added found.0 (s.receptions found.0 report.gateway) report,
  FrameSuccess found.1.airtime found.1.band true counter dev_eui found.0,
)

-- A data frame that isn't a copy has the counter that follows (section 4.3.1.5).
unfoldable pub data_added : State → Report → DataFrame → ℕ → ℕ → ℕ → Band → Checked Decision
data_added s report frame session dev_eui counter band = do
  wants (not (is_below_floor s.uplinks s.sessions dev_eui session)) SessionEnded
  wants (is_none (data_with s.uplinks session counter)) Replayed
  wants (not (is_below counter (last_counter s.uplinks session))) Late
  wants (is_candidate (last_counter s.uplinks session) frame.fcnt counter) Gap
  Ok (
    AddsUplink (uplink_of report session Data counter band) report.gateway (reception_of report),
    FrameSuccess (time_up report) band false counter dev_eui (next_uplink s),
  )

-- a gateway reports a data frame
unfoldable pub frame_heard : Settings → State → Report → Option ℕ → Checked Decision
frame_heard c s report verdict = do
  wants (is_time report.time) Time
  wants (s.gateways report.gateway) UnknownGateway
  frame ← needs (data_up (frame_at_rate report.rate.dr report.octets)) BadFrame
  band ← needs (band_at report.rate.freq report.rate.dr) OutOfBand
  session ← needs (session_with_address s.sessions c.base frame.addr) UnknownDevAddr
  counter ← needs verdict MicFailed
  unless (original_data s session.0 counter report.octets) (data_copied s report session.1.device counter)
      (data_added s report frame session.0 session.1.device counter band)
