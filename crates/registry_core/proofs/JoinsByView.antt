-- With the view that a state has for a join, the checks by the view are those of the state.
use Rattle.std.proofs.Common.{◌≡◌, ℕ, Bool, true, false, List, length, Option, Some, None, refl, ap, ◌∙◌, if◌then◌else◌}
use Rattle.std.specs.Prelude.{◌==◌, nat_le, bytes_eq, option_and_then, option_map}
use Rattle.radio_core.specs.declared.bands.Band.{Band}
use Rattle.radio_core.specs.Bands.{band_at}
use Rattle.radio_core.specs.DataRates.{max_length}
use Rattle.radio_core.specs.Frames.{frame_of}
use Rattle.registry_core.specs.declared.answers.Refusal.TheVariants.{UnknownGateway, UnknownDevEui, BadFrame, OutOfBand, MicFailed, JoinEui, Time}
use Rattle.registry_core.specs.declared.facts.Device.{Device}
use Rattle.registry_core.specs.declared.facts.Uplink.{Uplink}
use Rattle.registry_core.specs.declared.frames.JoinRequest.{JoinRequest}
use Rattle.registry_core.specs.declared.messages.Envelope.{Envelope}
use Rattle.registry_core.specs.declared.messages.JoinVerdict.{JoinVerdict}
use Rattle.registry_core.specs.declared.messages.Message.TheVariants.{JoinHeard}
use Rattle.registry_core.specs.declared.messages.Report.{Report}
use Rattle.registry_core.specs.declared.views.View.{View}
use Rattle.registry_core.specs.steps.ByView.{original_by, join_copied_by, join_added_by, join_heard_by}
use Rattle.registry_core.specs.Checks.{Checked, ◌>>=◌, ◌>>◌, wants, needs, unless}
use Rattle.registry_core.specs.Decision.{Decision}
use Rattle.registry_core.specs.Derived.{last_nonce, join_with}
use Rattle.registry_core.specs.Frames.{join_request}
use Rattle.registry_core.specs.Joins.{is_good, original_join, join_copied, join_added, join_heard}
use Rattle.registry_core.specs.Settings.{Settings}
use Rattle.registry_core.specs.State.{State}
use Rattle.registry_core.specs.Uplinks.{is_time, same_octets}
use Rattle.registry_core.specs.Viewed.{IsView, view_of_uplink, gateway_known, device_named, last_nonce_for, uplink_for}

-- the numbers of the view are those of the state
pub record Counts (c : Settings) (s : State) (v : View) : Type 0 where
  pub base : v.base ≡ c.base
  pub addresses : v.addresses ≡ c.addresses
  pub sessions : v.sessions ≡ length s.sessions
  pub uplinks : v.uplinks ≡ length s.uplinks

added_same : (c : Settings) (s : State) (v : View) (report : Report) (join : JoinRequest) (band : Band) → Counts c s v → v.last_nonce ≡ last_nonce s.sessions join.dev_eui
    → join_added_by v report join band ≡ join_added c s report join band
unfolding join_added_by join_added
added_same c s v report join band n last = rw (last, n.base, n.addresses, n.sessions, n.uplinks) refl

-- a copy by the view is a copy of the state
copies_same : (c : Settings) (s : State) (v : View) (report : Report) (found : ℕ × Uplink) (b : Bool) (rest : Checked Decision) → Counts c s v
    → unless (if b then Some (view_of_uplink s report.gateway found) else None) (join_copied_by v report) rest
    ≡ unless (if b then Some found else None) (join_copied c s report) rest
copies_same c s v report found true rest n = rw n.base refl
copies_same c s v report found false rest n = refl

found_same : (c : Settings) (s : State) (v : View) (report : Report) (found : Option (ℕ × Uplink)) (rest : Checked Decision) → Counts c s v
    → unless (original_by (option_map (view_of_uplink s report.gateway) found) report.octets) (join_copied_by v report) rest
    ≡ unless (option_and_then (same_octets report.octets) found) (join_copied c s report) rest
found_same c s v report None rest n = refl
found_same c s v report (Some found) rest n = copies_same c s v report found (bytes_eq found.1.octets report.octets) rest n

-- what follows if all checks before the copy pass
ended_same : (c : Settings) (s : State) (v : View) (report : Report) (join : JoinRequest) (band : Band) → Counts c s v → v.last_nonce ≡ last_nonce s.sessions join.dev_eui
    → v.uplink ≡ option_map (view_of_uplink s report.gateway) (join_with s.uplinks s.sessions join.dev_eui join.nonce)
    → unless (original_by v.uplink report.octets) (join_copied_by v report) (join_added_by v report join band)
    ≡ unless (original_join s join report.octets) (join_copied c s report) (join_added c s report join band)
unfolding original_join
ended_same c s v report join band n last up =
    ap (λ seen. unless (original_by seen report.octets) (join_copied_by v report) (join_added_by v report join band)) up
    ∙ found_same c s v report (join_with s.uplinks s.sessions join.dev_eui join.nonce) (join_added_by v report join band) n
    ∙ ap (λ rest. unless (original_join s join report.octets) (join_copied c s report) rest) (added_same c s v report join band n last)

-- what the view has of the join request that the octets are
pub record Sees (s : State) (v : View) (gateway : List ℕ) (told : Option JoinRequest) : Type 0 where
  pub device : v.device ≡ option_and_then (λ (join : JoinRequest). s.devices join.dev_eui) told
  pub last_nonce : v.last_nonce ≡ option_and_then (λ (join : JoinRequest). last_nonce s.sessions join.dev_eui) told
  pub uplink : v.uplink ≡ option_map (view_of_uplink s gateway) (option_and_then (λ (join : JoinRequest). join_with s.uplinks s.sessions join.dev_eui join.nonce) told)

-- the checks from the frame on
tail : (c : Settings) (s : State) (v : View) (report : Report) (verdict : JoinVerdict) (told : Option JoinRequest) → Counts c s v → Sees s v report.gateway told
    → (do
      join ← needs told BadFrame
      band ← needs (band_at report.rate.freq report.rate.dr) OutOfBand
      device ← needs v.device UnknownDevEui
      wants (device.join_eui == join.join_eui) JoinEui
      wants (is_good verdict) MicFailed
      unless (original_by v.uplink report.octets) (join_copied_by v report) (join_added_by v report join band))
    ≡ (do
      join ← needs told BadFrame
      band ← needs (band_at report.rate.freq report.rate.dr) OutOfBand
      device ← needs (s.devices join.dev_eui) UnknownDevEui
      wants (device.join_eui == join.join_eui) JoinEui
      wants (is_good verdict) MicFailed
      unless (original_join s join report.octets) (join_copied c s report) (join_added c s report join band))
tail c s v report verdict None n sees = refl
tail c s v report verdict (Some join) n sees =
    ap (λ (last : Band → Checked Decision). do
      band ← needs (band_at report.rate.freq report.rate.dr) OutOfBand
      device ← needs v.device UnknownDevEui
      wants (device.join_eui == join.join_eui) JoinEui
      wants (is_good verdict) MicFailed
      last band) (λ i band. ended_same c s v report join band n sees.last_nonce sees.uplink i)
    ∙ ap (λ (there : Option Device). do
      band ← needs (band_at report.rate.freq report.rate.dr) OutOfBand
      device ← needs there UnknownDevEui
      wants (device.join_eui == join.join_eui) JoinEui
      wants (is_good verdict) MicFailed
      unless (original_join s join report.octets) (join_copied c s report) (join_added c s report join band)) sees.device

-- if the data rate can carry this many octets, the frame is the one that they are
heard_same : (c : Settings) (s : State) (v : View) (report : Report) (verdict : JoinVerdict) (carried : Bool) → nat_le (length report.octets) (max_length report.rate.dr) ≡ carried
    → Counts c s v → v.gateway_known ≡ s.gateways report.gateway → Sees s v report.gateway (join_request (frame_of report.octets))
    → join_heard_by v report verdict ≡ join_heard c s report verdict
unfolding join_heard_by join_heard join_added_by
heard_same c s v report verdict true is n known sees =
    rw (is, known) (ap (λ rest. wants (is_time report.time) Time >> (wants (s.gateways report.gateway) UnknownGateway >> rest)) (tail c s v report verdict (join_request (frame_of report.octets)) n sees))
heard_same c s v report verdict false is n known sees = rw (is, known) refl

pub join_heard_same : (c : Settings) (s : State) (e : Envelope) (v : View) (report : Report) (verdict : JoinVerdict) → e.message ≡ JoinHeard report verdict → IsView c s e v
    → join_heard_by v report verdict ≡ join_heard c s report verdict
join_heard_same c s e v report verdict same sees = heard_same c s v report verdict _ refl
    (record { base = sees.base; addresses = sees.addresses; sessions = sees.sessions; uplinks = sees.uplinks })
    (sees.gateway ∙ ap (gateway_known s) same)
    (record {
      device = sees.device ∙ ap (device_named s) same;
      last_nonce = sees.last_nonce ∙ ap (last_nonce_for s) same;
      uplink = sees.uplink ∙ ap (uplink_for c s) same;
    })
