-- With the view that a state has for a data frame, the checks by the view are those of the state.
use Rattle.std.proofs.Common.{◌≡◌, ℕ, ◌+◌, Bool, true, false, not, length, Option, Some, None, Ok, refl, ap, ◌∙◌, if◌then◌else◌}
use Rattle.std.specs.Prelude.{nat_le, is_none, bytes_eq, option_and_then, option_map}
use Rattle.radio_core.specs.declared.bands.Band.{Band}
use Rattle.radio_core.specs.Bands.{band_at}
use Rattle.radio_core.specs.Counters.{is_candidate}
use Rattle.radio_core.specs.DataRates.{max_length}
use Rattle.radio_core.specs.Frames.{frame_of}
use Rattle.registry_core.specs.declared.answers.Answer.TheVariants.{FrameSuccess}
use Rattle.registry_core.specs.declared.answers.Refusal.TheVariants.{UnknownGateway, UnknownDevAddr, BadFrame, OutOfBand, MicFailed, Replayed, Late, Gap, SessionEnded, Time}
use Rattle.registry_core.specs.declared.effects.Effect.TheVariants.{AddsUplink}
use Rattle.registry_core.specs.declared.facts.Kind.TheVariants.{Data}
use Rattle.registry_core.specs.declared.facts.Session.{Session}
use Rattle.registry_core.specs.declared.facts.Uplink.{Uplink}
use Rattle.registry_core.specs.declared.frames.DataFrame.{DataFrame}
use Rattle.registry_core.specs.declared.messages.Envelope.{Envelope}
use Rattle.registry_core.specs.declared.messages.Message.TheVariants.{FrameHeard}
use Rattle.registry_core.specs.declared.messages.Report.{Report}
use Rattle.registry_core.specs.declared.views.SessionView.{SessionView}
use Rattle.registry_core.specs.declared.views.View.{View}
use Rattle.registry_core.specs.steps.ByView.{original_by, data_copied_by, data_added_by, frame_heard_by}
use Rattle.registry_core.specs.Checks.{Checked, ◌>>=◌, ◌>>◌, wants, needs, unless}
use Rattle.registry_core.specs.DataFrames.{original_data, data_copied, data_added, frame_heard}
use Rattle.registry_core.specs.Decision.{Decision}
use Rattle.registry_core.specs.Derived.{data_with, is_below, is_below_floor, last_counter, session_with_address}
use Rattle.registry_core.specs.Frames.{data_up}
use Rattle.registry_core.specs.Settings.{Settings}
use Rattle.registry_core.specs.State.{State}
use Rattle.registry_core.specs.Uplinks.{is_time, reception_of, same_octets, time_up, uplink_of}
use Rattle.registry_core.specs.Viewed.{IsView, data_for, gateway_known, session_for, uplink_for, view_of_session, view_of_uplink}

absent_too : {X Y : Type 0} (f : X → Y) (x : Option X) → is_none (option_map f x) ≡ is_none x
absent_too f None = refl
absent_too f (Some x) = refl

added_same : (s : State) (v : View) (report : Report) (frame : DataFrame) (found : ℕ × Session) (counter : ℕ) (band : Band) → v.uplinks ≡ length s.uplinks
    → v.uplink ≡ option_map (view_of_uplink s report.gateway) (data_with s.uplinks found.0 counter)
    → data_added_by v report frame (view_of_session s found) counter band ≡ data_added s report frame found.0 found.1.device counter band
unfolding data_added_by data_added
added_same s v report frame found counter band n up =
    ap (λ (absent : Bool). do
      wants (not (is_below_floor s.uplinks s.sessions found.1.device found.0)) SessionEnded
      wants absent Replayed
      wants (not (is_below counter (last_counter s.uplinks found.0))) Late
      wants (is_candidate (last_counter s.uplinks found.0) frame.fcnt counter) Gap
      Ok (
        AddsUplink (uplink_of report found.0 Data counter band) report.gateway (reception_of report),
        FrameSuccess (time_up report) band false counter found.1.device (v.uplinks + 1),
      )) (ap is_none up ∙ absent_too (view_of_uplink s report.gateway) (data_with s.uplinks found.0 counter))
    ∙ ap (λ (uplinks : ℕ). do
      wants (not (is_below_floor s.uplinks s.sessions found.1.device found.0)) SessionEnded
      wants (is_none (data_with s.uplinks found.0 counter)) Replayed
      wants (not (is_below counter (last_counter s.uplinks found.0))) Late
      wants (is_candidate (last_counter s.uplinks found.0) frame.fcnt counter) Gap
      Ok (
        AddsUplink (uplink_of report found.0 Data counter band) report.gateway (reception_of report),
        FrameSuccess (time_up report) band false counter found.1.device (uplinks + 1),
      )) n

-- a copy by the view is a copy of the state
copies_same : (s : State) (report : Report) (session : ℕ × Session) (counter : ℕ) (found : ℕ × Uplink) (b : Bool) (rest : Checked Decision)
    → unless (if b then Some (view_of_uplink s report.gateway found) else None) (data_copied_by report (view_of_session s session) counter) rest
    ≡ unless (if b then Some found else None) (data_copied s report session.1.device counter) rest
copies_same s report session counter found true rest = refl
copies_same s report session counter found false rest = refl

found_same : (s : State) (report : Report) (session : ℕ × Session) (counter : ℕ) (found : Option (ℕ × Uplink)) (rest : Checked Decision)
    → unless (original_by (option_map (view_of_uplink s report.gateway) found) report.octets) (data_copied_by report (view_of_session s session) counter) rest
    ≡ unless (option_and_then (same_octets report.octets) found) (data_copied s report session.1.device counter) rest
found_same s report session counter None rest = refl
found_same s report session counter (Some found) rest = copies_same s report session counter found (bytes_eq found.1.octets report.octets) rest

-- what follows if all checks before the copy pass
ended_same : (s : State) (v : View) (report : Report) (frame : DataFrame) (session : ℕ × Session) (counter : ℕ) (band : Band) → v.uplinks ≡ length s.uplinks
    → v.uplink ≡ option_map (view_of_uplink s report.gateway) (data_with s.uplinks session.0 counter)
    → unless (original_by v.uplink report.octets) (data_copied_by report (view_of_session s session) counter) (data_added_by v report frame (view_of_session s session) counter band)
    ≡ unless (original_data s session.0 counter report.octets) (data_copied s report session.1.device counter) (data_added s report frame session.0 session.1.device counter band)
unfolding original_data
ended_same s v report frame session counter band n up =
    ap (λ seen. unless (original_by seen report.octets) (data_copied_by report (view_of_session s session) counter) (data_added_by v report frame (view_of_session s session) counter band)) up
    ∙ found_same s report session counter (data_with s.uplinks session.0 counter) (data_added_by v report frame (view_of_session s session) counter band)
    ∙ ap (λ rest. unless (original_data s session.0 counter report.octets) (data_copied s report session.1.device counter) rest) (added_same s v report frame session counter band n up)

-- the checks from the session on
last_same : (s : State) (v : View) (report : Report) (frame : DataFrame) (session : Option (ℕ × Session)) (verdict : Option ℕ) (band : Band) → v.uplinks ≡ length s.uplinks
    → v.uplink ≡ option_map (view_of_uplink s report.gateway) (data_for s session verdict)
    → (do
      found ← needs (option_map (view_of_session s) session) UnknownDevAddr
      counter ← needs verdict MicFailed
      unless (original_by v.uplink report.octets) (data_copied_by report found counter) (data_added_by v report frame found counter band))
    ≡ (do
      found ← needs session UnknownDevAddr
      counter ← needs verdict MicFailed
      unless (original_data s found.0 counter report.octets) (data_copied s report found.1.device counter) (data_added s report frame found.0 found.1.device counter band))
last_same s v report frame None verdict band n up = refl
last_same s v report frame (Some session) None band n up = refl
last_same s v report frame (Some session) (Some counter) band n up = ended_same s v report frame session counter band n up

-- the session of a frame's fields
session_of : Settings → State → Option DataFrame → Option (ℕ × Session)
session_of c s told = option_and_then (λ (frame : DataFrame). session_with_address s.sessions c.base frame.addr) told

-- the checks from the frame on
tail : (c : Settings) (s : State) (v : View) (report : Report) (verdict : Option ℕ) (told : Option DataFrame) → v.uplinks ≡ length s.uplinks
    → v.session ≡ option_map (view_of_session s) (session_of c s told) → v.uplink ≡ option_map (view_of_uplink s report.gateway) (data_for s (session_of c s told) verdict)
    → (do
      frame ← needs told BadFrame
      band ← needs (band_at report.rate.freq report.rate.dr) OutOfBand
      session ← needs v.session UnknownDevAddr
      counter ← needs verdict MicFailed
      unless (original_by v.uplink report.octets) (data_copied_by report session counter) (data_added_by v report frame session counter band))
    ≡ (do
      frame ← needs told BadFrame
      band ← needs (band_at report.rate.freq report.rate.dr) OutOfBand
      session ← needs (session_with_address s.sessions c.base frame.addr) UnknownDevAddr
      counter ← needs verdict MicFailed
      unless (original_data s session.0 counter report.octets) (data_copied s report session.1.device counter) (data_added s report frame session.0 session.1.device counter band))
unfolding session_of
tail c s v report verdict None n at up = refl
tail c s v report verdict (Some frame) n at up =
    ap (λ (session : Option SessionView). do
      band ← needs (band_at report.rate.freq report.rate.dr) OutOfBand
      found ← needs session UnknownDevAddr
      counter ← needs verdict MicFailed
      unless (original_by v.uplink report.octets) (data_copied_by report found counter) (data_added_by v report frame found counter band)) at
    ∙ ap (λ (last : Band → Checked Decision). do
      band ← needs (band_at report.rate.freq report.rate.dr) OutOfBand
      last band) (λ i band. last_same s v report frame (session_with_address s.sessions c.base frame.addr) verdict band n up i)

-- if the data rate can carry this many octets, the frame is the one that they are
heard_same : (c : Settings) (s : State) (v : View) (report : Report) (verdict : Option ℕ) (carried : Bool) → nat_le (length report.octets) (max_length report.rate.dr) ≡ carried
    → v.uplinks ≡ length s.uplinks → v.gateway_known ≡ s.gateways report.gateway → v.session ≡ option_map (view_of_session s) (session_of c s (data_up (frame_of report.octets)))
    → v.uplink ≡ option_map (view_of_uplink s report.gateway) (data_for s (session_of c s (data_up (frame_of report.octets))) verdict)
    → frame_heard_by v report verdict ≡ frame_heard c s report verdict
unfolding frame_heard_by frame_heard data_added_by
heard_same c s v report verdict true is n known at up =
    rw (is, known) (ap (λ rest. wants (is_time report.time) Time >> (wants (s.gateways report.gateway) UnknownGateway >> rest)) (tail c s v report verdict (data_up (frame_of report.octets)) n at up))
heard_same c s v report verdict false is n known at up = rw (is, known) refl

pub frame_heard_same : (c : Settings) (s : State) (e : Envelope) (v : View) (report : Report) (verdict : Option ℕ) → e.message ≡ FrameHeard report verdict → IsView c s e v
    → frame_heard_by v report verdict ≡ frame_heard c s report verdict
unfolding session_of
frame_heard_same c s e v report verdict same sees = heard_same c s v report verdict _ refl sees.uplinks
    (sees.gateway ∙ ap (gateway_known s) same)
    (sees.session ∙ ap (λ m. option_map (view_of_session s) (session_for c s m)) same)
    (sees.uplink ∙ ap (uplink_for c s) same)
