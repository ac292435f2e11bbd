-- In which order two gateways report one join request.
use Rattle.std.proofs.Common.{◌≡◌, ◌≢◌, ℕ, ◌+◌, List, length, Bool, true, Option, Some, None, refl, sym, ap, subst, ◌∙◌}
use Rattle.std.specs.Prelude.{◌==◌, nat_lt}
use Rattle.std.proofs.lemmas.Bool.{eq-eqb}
use Rattle.std.proofs.lemmas.Option.{same_Some}
use Rattle.radio_core.specs.declared.bands.Band.{Band}
use Rattle.radio_core.specs.Bands.{band_at}
use Rattle.radio_core.specs.Frames.{frame_of}
use Rattle.registry_core.specs.declared.answers.Refusal.TheVariants.{UnknownGateway, UnknownDevEui, BadFrame, OutOfBand, MicFailed, JoinEui, Nonce, Addresses, Time}
use Rattle.registry_core.specs.declared.facts.Device.{Device}
use Rattle.registry_core.specs.declared.facts.Kind.TheVariants.{Join}
use Rattle.registry_core.specs.declared.facts.Session.{Session}
use Rattle.registry_core.specs.declared.facts.Uplink.{Uplink}
use Rattle.registry_core.specs.declared.frames.JoinRequest.{JoinRequest}
use Rattle.registry_core.specs.declared.messages.JoinVerdict.{JoinVerdict}
use Rattle.registry_core.specs.declared.messages.Message.TheVariants.{JoinHeard}
use Rattle.registry_core.specs.declared.messages.Report.{Report}
use Rattle.registry_core.specs.Checks.{Checked, unless}
use Rattle.registry_core.specs.Decision.{Decision}
use Rattle.registry_core.specs.Derived.{is_above, is_join_with, last_nonce}
use Rattle.registry_core.specs.Frames.{frame_at_rate, join_request}
use Rattle.registry_core.specs.Heard.{state_of}
use Rattle.registry_core.specs.Joins.{is_good, join_added, join_copied, join_heard, original_join}
use Rattle.registry_core.specs.ReportOrder.{JoinsInAnyOrder, SameButFirst, is_success}
use Rattle.registry_core.specs.Settings.{Settings}
use Rattle.registry_core.specs.State.{State, next_uplink, state_with, with_session, with_uplink}
use Rattle.registry_core.specs.Uplinks.{is_time, uplink_of}
use Rattle.registry_core.proofs.ReceptionLaws.{join_once}
use Rattle.registry_core.proofs.Decisions.{carried, sound_of}
use Rattle.registry_core.proofs.HeardStates.{IsSound}
use Rattle.registry_core.proofs.Items.{item_new}
use Rattle.registry_core.proofs.ReportOrder.{Books, Hearing, IsCopy, Succeeds, after_report, booked_in_any_order, by_reports, effect_of, found_new, new_in_any_order, no_refusal, put}
use Rattle.registry_core.proofs.Telling.{from_needs, from_wants}

abbrev hearing : Settings → JoinVerdict → Hearing
hearing c verdict s report = join_heard c s report verdict

-- what follows the checks before the copy
abbrev rest_of : Settings → State → Report → JoinRequest → Band → Checked Decision
rest_of c s report join band = unless (original_join s join report.octets) (join_copied c s report) (join_added c s report join band)

-- what those checks find; they pass in a state with the same gateways and devices too
record Passes (c : Settings) (s : State) (verdict : JoinVerdict) (report : Report) (join : JoinRequest) : Type 0 where
  told : join_request (frame_at_rate report.rate.dr report.octets) ≡ Some join
  band : Band
  success : Succeeds (rest_of c s report join band)
  rest : (t : State) → t.gateways ≡ s.gateways → t.devices ≡ s.devices → join_heard c t report verdict ≡ rest_of c t report join band

decided : (c : Settings) (t : State) (verdict : JoinVerdict) (report : Report) (join : JoinRequest) (band : Band) (device : Device) → is_time report.time ≡ true
    → t.gateways report.gateway ≡ true → join_request (frame_at_rate report.rate.dr report.octets) ≡ Some join → band_at report.rate.freq report.rate.dr ≡ Some band
    → t.devices join.dev_eui ≡ Some device → (device.join_eui == join.join_eui) ≡ true → is_good verdict ≡ true → join_heard c t report verdict ≡ rest_of c t report join band
unfolding join_heard
decided c t verdict report join band device time known told lies there eui good = rw (time, known, told, lies, there, eui, good) refl

passed : (c : Settings) (s : State) (verdict : JoinVerdict) (report : Report) → Succeeds (join_heard c s report verdict)
    → (join : JoinRequest) × Passes c s verdict report join
unfolding join_heard
passed c s verdict report h =
    let time = from_wants is_success no_refusal (is_time report.time) Time _ h in
    let known = from_wants is_success no_refusal (s.gateways report.gateway) UnknownGateway _ time.1 in
    let join = from_needs is_success no_refusal (join_request (frame_at_rate report.rate.dr report.octets)) BadFrame _ known.1 in
    let band = from_needs is_success no_refusal (band_at report.rate.freq report.rate.dr) OutOfBand _ join.2 in
    let device = from_needs is_success no_refusal (s.devices join.0.dev_eui) UnknownDevEui _ band.2 in
    let eui = from_wants is_success no_refusal (device.0.join_eui == join.0.join_eui) JoinEui _ device.2 in
    let good = from_wants is_success no_refusal (is_good verdict) MicFailed _ eui.1 in (
      join.0,
      record {
        told = join.1;
        band = band.0;
        success = good.1;
        rest = λ t gateways devices. decided c t verdict report join.0 band.0 device.0 time.0 (ap (λ (g : List ℕ → Bool). g report.gateway) gateways ∙ known.0)
            join.1 band.1 (ap (λ (d : ℕ → Option Device). d join.0.dev_eui) devices ∙ device.1) eui.0 good.0;
      },
    )

-- a report of a join that is booked
is_copy : (c : Settings) (s base : State) (verdict : JoinVerdict) (report : Report) (join : JoinRequest) (found : ℕ × Uplink) → Passes c s verdict report join
    → base.gateways ≡ s.gateways → base.devices ≡ s.devices → original_join base join report.octets ≡ Some found → IsCopy (hearing c verdict) base found.0 report
unfolding original_join
is_copy c s base verdict report join found p gateways devices is receptions =
    let t : State = record base { receptions = receptions } in
    ap effect_of (p.rest t gateways devices ∙ ap (λ original. unless original (join_copied c t report) (join_added c t report join p.band)) is)

-- ---- a report of a new join

new_session : JoinRequest → Session
new_session join = record { device = join.dev_eui; nonce = join.nonce }

abbrev new_uplink : State → Report → JoinRequest → Band → Uplink
new_uplink s report join band = uplink_of report (length s.sessions + 1) Join join.nonce band

-- it makes the session and the uplink that the second report copies
books : (c : Settings) (s : State) (verdict : JoinVerdict) (a b : Report) (join : JoinRequest) (pa : Passes c s verdict a join) → Passes c s verdict b join
    → IsSound c (after_report (hearing c verdict) s a) → a.octets ≡ b.octets → original_join s join a.octets ≡ None
    → Books (hearing c verdict) s (with_session s (new_session join)) (new_uplink s a join pa.band) a b
unfolding join_added original_join new_session
books c s verdict a b join pa pb sound same none = record {
  first = first;
  second = is_copy c s base verdict b join (next_uplink s, new) pb refl refl (found_new test s.uplinks new b.octets passes same
      (λ m n u v at_m at_n. join_once c (put base (next_uplink s) None a) join.dev_eui join.nonce m n u v (subst (IsSound c) first sound) at_m at_n));
}
  where
    new : Uplink
    new = uplink_of a (length s.sessions + 1) Join join.nonce pa.band

    base : State
    base = with_uplink (with_session s (record { device = join.dev_eui; nonce = join.nonce })) new

    first : after_report (hearing c verdict) s a ≡ put base (next_uplink s) None a
    first =
        let copied : ℕ × Uplink → Checked Decision = join_copied c s a in
        let added : Checked Decision = join_added c s a join pa.band in
        let room = from_wants is_success no_refusal (is_above join.nonce (last_nonce s.sessions join.dev_eui)) Nonce _
        (subst (λ original. Succeeds (unless original copied added)) none pa.success) in
        let fits = from_wants is_success no_refusal (nat_lt (length s.sessions) c.addresses) Addresses _ room.1 in
        ap (λ checked. state_with s (effect_of checked)) (pa.rest s refl refl ∙ ap (λ original. unless original copied added) none) ∙ rw (room.0, fits.0) refl

    test : Uplink → Bool
    test = is_join_with base.sessions join.dev_eui join.nonce

    passes : test new ≡ true
    passes =
        let session : Session = record { device = join.dev_eui; nonce = join.nonce } in
        rw (item_new s.sessions session (length s.sessions + 1) refl, eq-eqb join.dev_eui join.dev_eui refl, eq-eqb join.nonce join.nonce refl) refl

-- ---- both

-- octets are one join request
both_reports : (c : Settings) (s : State) (verdict : JoinVerdict) (a b : Report) → IsSound c s → a.octets ≡ b.octets → a.gateway ≢ b.gateway
    → Succeeds (join_heard c s a verdict) → Succeeds (join_heard c s b verdict) → let after : State → Report → State = after_report (hearing c verdict) in
    IsSound c (after s a) → IsSound c (after s b) → SameButFirst (after (after s a) b) (after (after s b) a)
both_reports c s verdict a b sound same apart first second sound_a sound_b = by_found (original_join s join a.octets) refl
  where
    join : JoinRequest
    join = (passed c s verdict a first).0

    pa : Passes c s verdict a join
    pa = (passed c s verdict a first).1

    pb : Passes c s verdict b join
    pb =
        let found = passed c s verdict b second in
        let told_a : join_request (frame_of a.octets) ≡ Some join = carried join_request a.rate.dr a.octets join refl pa.told in
        let told_b : join_request (frame_of b.octets) ≡ Some found.0 = carried join_request b.rate.dr b.octets found.0 refl found.1.told in
        subst (Passes c s verdict b) (same_Some found.0 join (sym told_b ∙ ap (λ octets. join_request (frame_of octets)) (sym same) ∙ told_a)) found.1

    there : (found : Option (ℕ × Uplink)) → original_join s join a.octets ≡ found → original_join s join b.octets ≡ found
    there found is = ap (original_join s join) (sym same) ∙ is

    by_found : (found : Option (ℕ × Uplink)) → original_join s join a.octets ≡ found → let after : State → Report → State = after_report (hearing c verdict) in
        SameButFirst (after (after s a) b) (after (after s b) a)
    by_found (Some found) is = booked_in_any_order (hearing c verdict) s found.0 a b apart
        (is_copy c s s verdict a join found pa refl refl is) (is_copy c s s verdict b join found pb refl refl (there (Some found) is))
    by_found None is = new_in_any_order c (hearing c verdict) s (with_session s (new_session join)) (new_uplink s a join pa.band) (new_uplink s b join pb.band) a b sound refl apart
        (record { session = refl; kind = refl; counter = refl; octets = same })
        (books c s verdict a b join pa pb sound_a same is) (books c s verdict b a join pb pa sound_b (sym same) (there None is))

pub joins_in_any_order : JoinsInAnyOrder
joins_in_any_order c heard x y a b verdict is_x is_y same apart =
    let s : State = state_of c heard in
    by_reports c (hearing c verdict) (λ report. JoinHeard report verdict) s x y a b (λ t e report. refl) is_x is_y (sound_of c heard)
    (both_reports c s verdict a b (sound_of c heard) same apart)
