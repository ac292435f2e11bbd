-- In which order two gateways report one data frame.
use Rattle.std.proofs.Common.{◌≡◌, ◌≢◌, ℕ, List, Bool, true, not, Option, Some, None, refl, sym, ap, subst, ◌∙◌}
use Rattle.std.specs.Prelude.{is_none}
use Rattle.std.proofs.lemmas.Bool.{eq-eqb}
use Rattle.std.proofs.lemmas.Option.{same_Some}
use Rattle.radio_core.specs.declared.bands.Band.{Band}
use Rattle.radio_core.specs.Bands.{band_at}
use Rattle.radio_core.specs.Counters.{is_candidate}
use Rattle.radio_core.specs.Frames.{frame_of}
use Rattle.registry_core.specs.declared.answers.Refusal.TheVariants.{UnknownGateway, UnknownDevAddr, BadFrame, OutOfBand, MicFailed, Replayed, Late, Gap, SessionEnded, Time}
use Rattle.registry_core.specs.declared.facts.Kind.TheVariants.{Data}
use Rattle.registry_core.specs.declared.facts.Session.{Session}
use Rattle.registry_core.specs.declared.facts.Uplink.{Uplink}
use Rattle.registry_core.specs.declared.frames.DataFrame.{DataFrame}
use Rattle.registry_core.specs.declared.messages.Message.TheVariants.{FrameHeard}
use Rattle.registry_core.specs.declared.messages.Report.{Report}
use Rattle.registry_core.specs.Checks.{Checked, unless}
use Rattle.registry_core.specs.DataFrames.{data_added, data_copied, frame_heard, original_data}
use Rattle.registry_core.specs.Decision.{Decision}
use Rattle.registry_core.specs.Derived.{data_with, is_below, is_below_floor, is_data_with, last_counter, session_with_address}
use Rattle.registry_core.specs.Frames.{data_up, frame_at_rate}
use Rattle.registry_core.specs.Heard.{state_of}
use Rattle.registry_core.specs.ReportOrder.{DataInAnyOrder, SameButFirst, is_success}
use Rattle.registry_core.specs.Settings.{Settings}
use Rattle.registry_core.specs.State.{State, next_uplink, state_with, with_uplink}
use Rattle.registry_core.specs.Uplinks.{is_time, uplink_of}
use Rattle.registry_core.proofs.ReceptionLaws.{data_once}
use Rattle.registry_core.proofs.Decisions.{carried, sound_of}
use Rattle.registry_core.proofs.HeardStates.{IsSound}
use Rattle.registry_core.proofs.ReportOrder.{Books, Hearing, IsCopy, Succeeds, after_report, booked_in_any_order, by_reports, effect_of, found_new, new_in_any_order, no_refusal, put}
use Rattle.registry_core.proofs.Telling.{from_needs, from_wants}

abbrev hearing : Settings → Option ℕ → Hearing
hearing c verdict s report = frame_heard c s report verdict

-- what follows the checks before the copy
abbrev rest_of : State → Report → DataFrame → ℕ × Session → ℕ → Band → Checked Decision
rest_of s report frame session counter band = unless (original_data s session.0 counter report.octets) (data_copied s report session.1.device counter)
    (data_added s report frame session.0 session.1.device counter band)

-- what those checks find; they pass in a state with the same gateways and sessions too
record Passes (c : Settings) (s : State) (verdict : Option ℕ) (report : Report) (session : ℕ × Session) (counter : ℕ) : Type 0 where
  frame : DataFrame
  told : data_up (frame_at_rate report.rate.dr report.octets) ≡ Some frame
  band : Band
  at : session_with_address s.sessions c.base frame.addr ≡ Some session
  counted : verdict ≡ Some counter
  success : Succeeds (rest_of s report frame session counter band)
  rest : (t : State) → t.gateways ≡ s.gateways → t.sessions ≡ s.sessions → frame_heard c t report verdict ≡ rest_of t report frame session counter band

decided : (c : Settings) (t : State) (verdict : Option ℕ) (report : Report) (frame : DataFrame) (band : Band) (session : ℕ × Session) (counter : ℕ) → is_time report.time ≡ true
    → t.gateways report.gateway ≡ true → data_up (frame_at_rate report.rate.dr report.octets) ≡ Some frame → band_at report.rate.freq report.rate.dr ≡ Some band
    → session_with_address t.sessions c.base frame.addr ≡ Some session → verdict ≡ Some counter → frame_heard c t report verdict ≡ rest_of t report frame session counter band
unfolding frame_heard
decided c t verdict report frame band session counter time known told lies at counted = rw (time, known, told, lies, at, counted) refl

passed : (c : Settings) (s : State) (verdict : Option ℕ) (report : Report) → Succeeds (frame_heard c s report verdict)
    → (session : ℕ × Session) × (counter : ℕ) × Passes c s verdict report session counter
unfolding frame_heard
passed c s verdict report h =
    let time = from_wants is_success no_refusal (is_time report.time) Time _ h in
    let known = from_wants is_success no_refusal (s.gateways report.gateway) UnknownGateway _ time.1 in
    let frame = from_needs is_success no_refusal (data_up (frame_at_rate report.rate.dr report.octets)) BadFrame _ known.1 in
    let band = from_needs is_success no_refusal (band_at report.rate.freq report.rate.dr) OutOfBand _ frame.2 in
    let session = from_needs is_success no_refusal (session_with_address s.sessions c.base frame.0.addr) UnknownDevAddr _ band.2 in
    let counter = from_needs is_success no_refusal verdict MicFailed _ session.2 in (
      session.0,
      counter.0,
      record {
        frame = frame.0;
        told = frame.1;
        band = band.0;
        at = session.1;
        counted = counter.1;
        success = counter.2;
        rest = λ t gateways sessions. decided c t verdict report frame.0 band.0 session.0 counter.0 time.0 (ap (λ (g : List ℕ → Bool). g report.gateway) gateways ∙ known.0)
            frame.1 band.1 (ap (λ (all : List Session). session_with_address all c.base frame.0.addr) sessions ∙ session.1) counter.1;
      },
    )

-- a report of a frame that is booked
is_copy : (c : Settings) (s base : State) (verdict : Option ℕ) (report : Report) (session : ℕ × Session) (counter : ℕ) (found : ℕ × Uplink) → Passes c s verdict report session counter
    → base.gateways ≡ s.gateways → base.sessions ≡ s.sessions → original_data base session.0 counter report.octets ≡ Some found → IsCopy (hearing c verdict) base found.0 report
unfolding original_data
is_copy c s base verdict report session counter found p gateways sessions is receptions =
    let t : State = record base { receptions = receptions } in
    ap effect_of (p.rest t gateways sessions
    ∙ ap (λ original. unless original (data_copied t report session.1.device counter) (data_added t report p.frame session.0 session.1.device counter p.band)) is)

-- a report of a new frame makes the uplink that the second report copies
books : (c : Settings) (s : State) (verdict : Option ℕ) (a b : Report) (session : ℕ × Session) (counter : ℕ) (pa : Passes c s verdict a session counter) → Passes c s verdict b session counter
    → IsSound c (after_report (hearing c verdict) s a) → a.octets ≡ b.octets → original_data s session.0 counter a.octets ≡ None
    → Books (hearing c verdict) s s (uplink_of a session.0 Data counter pa.band) a b
unfolding data_added original_data
books c s verdict a b session counter pa pb sound same none = record {
  first = first;
  second = is_copy c s base verdict b session counter (next_uplink s, new) pb refl refl (found_new (is_data_with session.0 counter) s.uplinks new b.octets passes same
      (λ m n u v at_m at_n. data_once c (put base (next_uplink s) None a) session.0 counter m n u v (subst (IsSound c) first sound) at_m at_n));
}
  where
    new : Uplink
    new = uplink_of a session.0 Data counter pa.band

    base : State
    base = with_uplink s new

    first : after_report (hearing c verdict) s a ≡ put base (next_uplink s) None a
    first =
        let copied : ℕ × Uplink → Checked Decision = data_copied s a session.1.device counter in
        let added : Checked Decision = data_added s a pa.frame session.0 session.1.device counter pa.band in
        let floor = from_wants is_success no_refusal (not (is_below_floor s.uplinks s.sessions session.1.device session.0)) SessionEnded _
        (subst (λ original. Succeeds (unless original copied added)) none pa.success) in
        let fresh = from_wants is_success no_refusal (is_none (data_with s.uplinks session.0 counter)) Replayed _ floor.1 in
        let late = from_wants is_success no_refusal (not (is_below counter (last_counter s.uplinks session.0))) Late _ fresh.1 in
        let gap = from_wants is_success no_refusal (is_candidate (last_counter s.uplinks session.0) pa.frame.fcnt counter) Gap _ late.1 in
        ap (λ checked. state_with s (effect_of checked)) (pa.rest s refl refl ∙ ap (λ original. unless original copied added) none) ∙ rw (floor.0, fresh.0, late.0, gap.0) refl

    passes : is_data_with session.0 counter new ≡ true
    passes = rw (eq-eqb session.0 session.0 refl, eq-eqb counter counter refl) refl

-- ---- both

-- one frame has one session and one counter
both_reports : (c : Settings) (s : State) (verdict : Option ℕ) (a b : Report) → IsSound c s → a.octets ≡ b.octets → a.gateway ≢ b.gateway
    → Succeeds (frame_heard c s a verdict) → Succeeds (frame_heard c s b verdict) → let after : State → Report → State = after_report (hearing c verdict) in
    IsSound c (after s a) → IsSound c (after s b) → SameButFirst (after (after s a) b) (after (after s b) a)
both_reports c s verdict a b sound same apart first second sound_a sound_b = by_found (original_data s session.0 counter a.octets) refl
  where
    session : ℕ × Session
    session = (passed c s verdict a first).0

    counter : ℕ
    counter = (passed c s verdict a first).1

    pa : Passes c s verdict a session counter
    pa = (passed c s verdict a first).2

    pb : Passes c s verdict b session counter
    pb =
        let found = passed c s verdict b second in
        let q = found.2 in
        let told_a : data_up (frame_of a.octets) ≡ Some pa.frame = carried data_up a.rate.dr a.octets pa.frame refl pa.told in
        let told_b : data_up (frame_of b.octets) ≡ Some q.frame = carried data_up b.rate.dr b.octets q.frame refl q.told in
        let frame : q.frame ≡ pa.frame = same_Some q.frame pa.frame (sym told_b ∙ ap (λ octets. data_up (frame_of octets)) (sym same) ∙ told_a) in
        let at : found.0 ≡ session = same_Some found.0 session (sym q.at ∙ ap (λ (f : DataFrame). session_with_address s.sessions c.base f.addr) frame ∙ pa.at) in
        let counted : found.1 ≡ counter = same_Some found.1 counter (sym q.counted ∙ pa.counted) in
        subst (Passes c s verdict b session) counted (subst (λ x. Passes c s verdict b x found.1) at q)

    there : (found : Option (ℕ × Uplink)) → original_data s session.0 counter a.octets ≡ found → original_data s session.0 counter b.octets ≡ found
    there found is = ap (original_data s session.0 counter) (sym same) ∙ is

    by_found : (found : Option (ℕ × Uplink)) → original_data s session.0 counter a.octets ≡ found → let after : State → Report → State = after_report (hearing c verdict) in
        SameButFirst (after (after s a) b) (after (after s b) a)
    by_found (Some found) is = booked_in_any_order (hearing c verdict) s found.0 a b apart
        (is_copy c s s verdict a session counter found pa refl refl is) (is_copy c s s verdict b session counter found pb refl refl (there (Some found) is))
    by_found None is = new_in_any_order c (hearing c verdict) s s (uplink_of a session.0 Data counter pa.band) (uplink_of b session.0 Data counter pb.band) a b sound refl apart
        (record { session = refl; kind = refl; counter = refl; octets = same })
        (books c s verdict a b session counter pa pb sound_a same is) (books c s verdict b a session counter pb pa sound_b (sym same) (there None is))

pub data_in_any_order : DataInAnyOrder
data_in_any_order c heard x y a b verdict is_x is_y same apart =
    let s : State = state_of c heard in
    by_reports c (hearing c verdict) (λ report. FrameHeard report verdict) s x y a b (λ t e report. refl) is_x is_y (sound_of c heard)
    (both_reports c s verdict a b (sound_of c heard) same apart)
