-- A join request that a gateway reports (LoRaWAN L2 1.0.4, section 6.2). Checks and refusals are this project's, unless a line names a
-- source.
use Rattle.std.specs.Prelude.{ℕ, ◌+◌, ◌==◌, Bool, true, false, List, length, Option, Ok, option_and_then, nat_lt}
use Rattle.radio_core.specs.declared.bands.Band.{Band}
use Rattle.radio_core.specs.Bands.{band_at}
use Rattle.registry_core.specs.declared.answers.Answer.TheVariants.{JoinSuccess}
use Rattle.registry_core.specs.declared.answers.Refusal.TheVariants.{UnknownGateway, UnknownDevEui, BadFrame, OutOfBand, MicFailed, JoinEui, Nonce, Addresses, Time}
use Rattle.registry_core.specs.declared.effects.Effect.TheVariants.{AddsSession}
use Rattle.registry_core.specs.declared.facts.Kind.TheVariants.{Join}
use Rattle.registry_core.specs.declared.facts.Uplink.{Uplink}
use Rattle.registry_core.specs.declared.frames.JoinRequest.{JoinRequest}
use Rattle.registry_core.specs.declared.messages.JoinVerdict.{JoinVerdict}
use Rattle.registry_core.specs.declared.messages.JoinVerdict.TheVariants.{Good, Bad}
use Rattle.registry_core.specs.declared.messages.Report.{Report}
use Rattle.registry_core.specs.Checks.{Checked, ◌>>=◌, ◌>>◌, wants, needs, unless}
use Rattle.registry_core.specs.Decision.{Decision}
use Rattle.registry_core.specs.Derived.{is_above, address_of, last_nonce, join_with}
use Rattle.registry_core.specs.Frames.{frame_at_rate, join_request}
use Rattle.registry_core.specs.Settings.{Settings}
use Rattle.registry_core.specs.State.{State, next_uplink}
use Rattle.registry_core.specs.Uplinks.{is_time, reception_of, time_up, uplink_of, reception_added, same_octets}

abbrev pub is_good : JoinVerdict → Bool
is_good Good = true
is_good Bad = false

-- the uplink that the frame copies: the join uplink of the device with this nonce, if it has the same octets
unfoldable pub original_join : State → JoinRequest → List ℕ → Option (ℕ × Uplink)
original_join s join octets = option_and_then (same_octets octets) (join_with s.uplinks s.sessions join.dev_eui join.nonce)

-- a copy is answered with the booked uplink, and books none
abbrev pub join_copied : Settings → State → Report → ℕ × Uplink → Checked Decision
join_copied c s report found = Ok (
  reception_added found.0 (s.receptions found.0 report.gateway) report,
  JoinSuccess found.1.airtime found.1.band true (address_of c found.1.session) found.0,
)

-- A join that isn't a copy makes a session with the next address. DevNonce rises with each (section 6.2).
unfoldable pub join_added : Settings → State → Report → JoinRequest → Band → Checked Decision
join_added c s report join band = do
  wants (is_above join.nonce (last_nonce s.sessions join.dev_eui)) Nonce
  wants (nat_lt (length s.sessions) c.addresses) Addresses
  Ok (
    AddsSession (record { device = join.dev_eui; nonce = join.nonce })
        (uplink_of report (length s.sessions + 1) Join join.nonce band) report.gateway (reception_of report),
    JoinSuccess (time_up report) band false (address_of c (length s.sessions + 1)) (next_uplink s),
  )

-- a gateway reports a join request
unfoldable pub join_heard : Settings → State → Report → JoinVerdict → Checked Decision
join_heard c s report verdict = do
  wants (is_time report.time) Time
  wants (s.gateways report.gateway) UnknownGateway
  join ← needs (join_request (frame_at_rate report.rate.dr report.octets)) BadFrame
  band ← needs (band_at report.rate.freq report.rate.dr) OutOfBand
  device ← needs (s.devices join.dev_eui) UnknownDevEui
  wants (device.join_eui == join.join_eui) JoinEui
  wants (is_good verdict) MicFailed
  unless (original_join s join report.octets) (join_copied c s report) (join_added c s report join band)
