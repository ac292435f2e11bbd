-- Which frames are booked as new uplinks: the checks of a join and of a data frame, against what is asked of one that is accepted.
use Rattle.std.proofs.Common.{◌≡◌, ◌≢◌, ℕ, zero, suc, ◌<◌, List, [], ◌∷◌, length, map, filter, Bool, true, false, cond, not, Option, Some, None, refl, sym, ap, ◌∙◌, subst, arith, inl, inr}
use Rattle.std.specs.Prelude.{◌==◌, ◌&&◌, max, nat_lt, is_some, is_none, option_and_then}
use Rattle.std.specs.List.{list_any}
use Rattle.std.specs.Option.{option_map_or}
use Rattle.std.proofs.lemmas.Bool.{and_parts, both_ways, cases_Bool, eq-eqb, eqb-true, lt-ltb, ltb-true, not-true, or_parts}
use Rattle.std.proofs.lemmas.Bool.Decides.{nat_tests}
use Rattle.radio_core.specs.declared.bands.Band.{Band}
use Rattle.radio_core.specs.Bands.{band_at}
use Rattle.radio_core.specs.Counters.{is_candidate}
use Rattle.registry_core.specs.declared.answers.Answer.{Answer}
use Rattle.registry_core.specs.declared.answers.Refusal.TheVariants.{UnknownGateway, UnknownDevEui, UnknownDevAddr, BadFrame, OutOfBand, MicFailed, JoinEui, Nonce, Addresses, Replayed, Late, Gap, SessionEnded, Time}
use Rattle.registry_core.specs.declared.facts.Kind.{Kind}
use Rattle.registry_core.specs.declared.facts.Kind.TheVariants.{Join, Data}
use Rattle.registry_core.specs.declared.facts.Session.{Session}
use Rattle.registry_core.specs.declared.facts.Uplink.{Uplink}
use Rattle.registry_core.specs.declared.frames.DataFrame.{DataFrame}
use Rattle.registry_core.specs.declared.frames.JoinRequest.{JoinRequest}
use Rattle.registry_core.specs.declared.messages.JoinVerdict.{JoinVerdict}
use Rattle.registry_core.specs.declared.messages.JoinVerdict.TheVariants.{Good, Bad}
use Rattle.registry_core.specs.declared.messages.Report.{Report}
use Rattle.registry_core.specs.Checks.{Checked, unless}
use Rattle.registry_core.specs.DataFrames.{data_added, data_copied, frame_heard, original_data}
use Rattle.registry_core.specs.Decision.{Decision, decision_or_refusal}
use Rattle.registry_core.specs.Derived.{data_with, is_above, is_below, is_below_floor, is_data, is_data_of, is_data_with, is_join_with, is_of_device, is_session_of, join_with, last_counter, last_nonce, session_with_address}
use Rattle.registry_core.specs.Frames.{data_up, frame_at_rate, join_request}
use Rattle.registry_core.specs.Heard.{state_of}
use Rattle.registry_core.specs.Joins.{is_good, join_added, join_copied, join_heard, original_join}
use Rattle.registry_core.specs.Numbered.{first_that, greatest, item_at}
use Rattle.registry_core.specs.Settings.{Settings}
use Rattle.registry_core.specs.State.{State}
use Rattle.registry_core.specs.Step.{checked_decision}
use Rattle.registry_core.specs.UplinkLaws.{FramesBookedExactly, IsAcceptedFrame, IsAcceptedJoin, JoinedExactly, tells_frame, tells_join}
use Rattle.registry_core.specs.Uplinks.{is_time, same_octets}
use Rattle.registry_core.proofs.ReceptionLaws.{data_parts, is_data_kind, join_parts, of_device}
use Rattle.registry_core.proofs.SessionLaws.{sessions_are_found}
use Rattle.registry_core.proofs.Decisions.{candidate_is, sound_of}
use Rattle.registry_core.proofs.HeardStates.{IsSound}
use Rattle.std.proofs.lemmas.Option.{same_Some}
use Rattle.registry_core.proofs.Items.{above_each, first_is}
use Rattle.registry_core.proofs.Telling.{NoRefusal, AnswerPasses, from_needs, from_wants, to_needs, to_wants}

-- ---- what is found, or else what follows

-- where what is found doesn't pass the test, nothing was found
from_unless : {X : Type 0} (test : Answer → Bool) (x : Option X) (found : X → Checked Decision) (rest : Checked Decision)
    → ((y : X) → test (decision_or_refusal (found y)).1 ≡ false) → AnswerPasses test (unless x found rest) → AnswerPasses test rest
from_unless test (Some y) found rest none h = absurd (both_ways (test (decision_or_refusal (found y)).1) (none y) h)
from_unless test None found rest none h = h

to_unless : {X : Type 0} (test : Answer → Bool) (x : Option X) (found : X → Checked Decision) (rest : Checked Decision) → x ≡ None → AnswerPasses test rest → AnswerPasses test (unless x found rest)
to_unless test x found rest none h = subst (λ y. AnswerPasses test (unless y found rest)) (sym none) h

-- ---- items that all pass, or that all don't

item_later : {X : Type 0} (x : X) (xs : List X) (n : ℕ) (a : X) → item_at xs n ≡ Some a → item_at (x ∷ xs) (suc n) ≡ Some a
item_later x xs zero a e = cc
item_later x xs (suc i) a e = e

-- where no item passes, each doesn't
pub none_passes : {X : Type 0} (test : X → Bool) (xs : List X) (n : ℕ) (a : X) → list_any test xs ≡ false → item_at xs n ≡ Some a → test a ≡ false
none_passes test xs zero a none e = cc
none_passes test [] (suc i) a none e = cc
none_passes test (x ∷ xs) (suc zero) a none e = ap test (sym (same_Some x a e)) ∙ (or_parts (test x) (list_any test xs) none).0
none_passes test (x ∷ xs) (suc (suc i)) a none e = none_passes test xs (suc i) a (or_parts (test x) (list_any test xs) none).1 e

each_fails : {X : Type 0} (test : X → Bool) (xs : List X) → ((n : ℕ) (a : X) → item_at xs n ≡ Some a → test a ≡ false) → list_any test xs ≡ false
each_fails test [] each = refl
each_fails test (x ∷ xs) each = rw (each 1 x refl) (each_fails test xs (λ n a e. each (suc n) a (item_later x xs n a e)))

-- where no item passes, none is found
found_none : {X : Type 0} (test : X → Bool) (xs : List X) (found : Option (ℕ × X)) → first_that test xs ≡ found → ((n : ℕ) (a : X) → item_at xs n ≡ Some a → test a ≡ true → ⊥) → found ≡ None
found_none test xs None is none = refl
found_none test xs (Some p) is none = let at = first_is test xs p is in absurd (none p.0 p.1 at.0 at.1)

above_both : (n x : ℕ) (rest : Option ℕ) → x < n → is_above n rest ≡ true → is_above n (Some (option_map_or (max x) rest x)) ≡ true
above_both n x None lt h = grind (arith, nat_tests)
above_both n x (Some y) lt h = grind (arith, nat_tests)

above_by : {X : Type 0} (number : X → ℕ) (test : X → Bool) (x : X) (xs : List X) (n : ℕ) (b : Bool) → test x ≡ b → (test x ≡ true → number x < n)
    → is_above n (greatest (map number (filter test xs))) ≡ true → is_above n (greatest (map number (cond b (x ∷ filter test xs) (filter test xs)))) ≡ true
above_by number test x xs n true is first rest = above_both n (number x) (greatest (map number (filter test xs))) (first is) rest
above_by number test x xs n false is first rest = rest

-- what is above each of those that pass is above the greatest of them
above_greatest : {X : Type 0} (number : X → ℕ) (test : X → Bool) (xs : List X) (n : ℕ) → ((m : ℕ) (a : X) → item_at xs m ≡ Some a → test a ≡ true → number a < n)
    → is_above n (greatest (map number (filter test xs))) ≡ true
above_greatest number test [] n each = refl
above_greatest number test (x ∷ xs) n each =
    above_by number test x xs n (test x) refl (each 1 x refl) (above_greatest number test xs n (λ m a e passes. each (suc m) a (item_later x xs m a e) passes))

-- ---- joins

no_join : NoRefusal tells_join
no_join r = refl

good_verdict : (verdict : JoinVerdict) → is_good verdict ≡ true → verdict ≡ Good
good_verdict Good h = refl
good_verdict Bad h = cc

joined_of : (c : Settings) (s : State) (report : Report) (verdict : JoinVerdict) → AnswerPasses tells_join (join_heard c s report verdict) → IsAcceptedJoin c s report verdict
unfolding join_heard join_added
joined_of c s report verdict h =
    let time = from_wants tells_join no_join (is_time report.time) Time _ h in
    let gateway = from_wants tells_join no_join (s.gateways report.gateway) UnknownGateway _ time.1 in
    let frame = from_needs tells_join no_join (join_request (frame_at_rate report.rate.dr report.octets)) BadFrame _ gateway.1 in
    let join : JoinRequest = frame.0 in
    let band = from_needs tells_join no_join (band_at report.rate.freq report.rate.dr) OutOfBand _ frame.2 in
    let device = from_needs tells_join no_join (s.devices join.dev_eui) UnknownDevEui _ band.2 in
    let eui = from_wants tells_join no_join (device.0.join_eui == join.join_eui) JoinEui _ device.2 in
    let good = from_wants tells_join no_join (is_good verdict) MicFailed _ eui.1 in
    let added = from_unless tells_join (original_join s join report.octets) (join_copied c s report) (join_added c s report join band.0) (λ found. refl) good.1 in
    let above = from_wants tells_join no_join (is_above join.nonce (last_nonce s.sessions join.dev_eui)) Nonce _ added in
    let room = from_wants tells_join no_join (nat_lt (length s.sessions) c.addresses) Addresses _ above.1 in
    record {
      reported = record { time = time.0; gateway = gateway.0; band = ap is_some band.1 };
      join = join;
      frame = frame.1;
      device = device.0;
      there = device.1;
      join_eui = eqb-true device.0.join_eui join.join_eui eui.0;
      good = good_verdict verdict good.0;
      nonce = λ n session there of_it. above_each (λ (z : Session). z.nonce) (is_session_of join.dev_eui) s.sessions join.nonce n session there (eq-eqb session.device join.dev_eui of_it) above.0;
      room = ltb-true (length s.sessions) c.addresses room.0;
    }

-- no join uplink of the device has the nonce
no_original : (c : Settings) (s : State) (report : Report) (verdict : JoinVerdict) → IsSound c s → (a : IsAcceptedJoin c s report verdict) → original_join s a.join report.octets ≡ None
unfolding original_join
no_original c s report verdict sound a =
    ap (option_and_then (same_octets report.octets))
    (found_none (is_join_with s.sessions a.join.dev_eui a.join.nonce) s.uplinks (join_with s.uplinks s.sessions a.join.dev_eui a.join.nonce) refl (λ n u there passes.
    let parts = join_parts s a.join.dev_eui a.join.nonce u passes in
    let was = sound.join_nonces n u there parts.kind in
    let same : was.0 ≡ parts.session.0 = same_Some was.0 parts.session.0 (sym was.1 ∙ parts.session.1) in
    let below : parts.session.0.nonce < a.join.nonce = a.nonce u.session parts.session.0 parts.session.1 parts.session.2 in
    let equal : parts.session.0.nonce ≡ a.join.nonce = ap (λ (z : Session). z.nonce) (sym same) ∙ was.2 ∙ parts.counter in
    omega (arith, below, equal)))

band_there : (found : Option Band) → is_some found ≡ true → (band : Band) × (found ≡ Some band)
band_there (Some band) h = (band, refl)
band_there None h = cc

accepted_joins : (c : Settings) (s : State) (report : Report) (verdict : JoinVerdict) → IsSound c s → IsAcceptedJoin c s report verdict → AnswerPasses tells_join (join_heard c s report verdict)
unfolding join_heard join_added
accepted_joins c s report verdict sound a =
    let band = band_there (band_at report.rate.freq report.rate.dr) a.reported.band in
    to_wants tells_join (is_time report.time) Time _ a.reported.time
    (to_wants tells_join (s.gateways report.gateway) UnknownGateway _ a.reported.gateway
    (to_needs tells_join (join_request (frame_at_rate report.rate.dr report.octets)) BadFrame _ a.join a.frame
    (to_needs tells_join (band_at report.rate.freq report.rate.dr) OutOfBand _ band.0 band.1
    (to_needs tells_join (s.devices a.join.dev_eui) UnknownDevEui _ a.device a.there
    (to_wants tells_join (a.device.join_eui == a.join.join_eui) JoinEui _ (eq-eqb a.device.join_eui a.join.join_eui a.join_eui)
    (to_wants tells_join (is_good verdict) MicFailed _ (ap is_good a.good)
    (to_unless tells_join (original_join s a.join report.octets) (join_copied c s report) (join_added c s report a.join band.0) (no_original c s report verdict sound a)
    (to_wants tells_join (is_above a.join.nonce (last_nonce s.sessions a.join.dev_eui)) Nonce _
    (above_greatest (λ (z : Session). z.nonce) (is_session_of a.join.dev_eui) s.sessions a.join.nonce (λ n session there of_it. a.nonce n session there (eqb-true session.device a.join.dev_eui of_it)))
    (to_wants tells_join (nat_lt (length s.sessions) c.addresses) Addresses _ (lt-ltb (length s.sessions) c.addresses a.room) refl)))))))))

pub joined_exactly : JoinedExactly
joined_exactly c heard e report verdict same =
    let s : State = state_of c heard in (
      λ h. joined_of c s report verdict (subst (AnswerPasses tells_join) (ap (checked_decision c s e) same) h),
      λ a. subst (AnswerPasses tells_join) (sym (ap (checked_decision c s e) same)) (accepted_joins c s report verdict (sound_of c heard) a),
    )

-- ---- data frames

no_frame : NoRefusal tells_frame
no_frame r = refl

data_tells : (k : Kind) → k ≡ Data → is_data k ≡ true
data_tells Data h = refl
data_tells Join h = cc

device_tells : (s : State) (dev_eui n : ℕ) (later : Session) → item_at s.sessions n ≡ Some later → later.device ≡ dev_eui → is_of_device s.sessions dev_eui n ≡ true
device_tells s dev_eui n later there of_it = rw there (eq-eqb later.device dev_eui of_it)

-- no uplink that ends the session
abbrev ends_it : State → ℕ → ℕ → Uplink → Bool
ends_it s dev_eui number u = is_data u.kind && nat_lt number u.session && is_of_device s.sessions dev_eui u.session

latest_of : (s : State) (dev_eui number : ℕ) → is_below_floor s.uplinks s.sessions dev_eui number ≡ false → (n m : ℕ) (later : Session) (u : Uplink) → item_at s.sessions n ≡ Some later → later.device ≡ dev_eui
    → number < n → item_at s.uplinks m ≡ Some u → u.kind ≡ Data → u.session ≢ n
latest_of s dev_eui number none n m later u there of_it after at is_it same =
    both_ways (ends_it s dev_eui number u)
    (none_passes (ends_it s dev_eui number) s.uplinks m u none at)
    (rw (data_tells u.kind is_it, same, lt-ltb number n after) (device_tells s dev_eui n later there of_it))

floor_of : (c : Settings) (s : State) (report : Report) (verdict : Option ℕ) → (a : IsAcceptedFrame c s report verdict) → is_below_floor s.uplinks s.sessions a.session.device a.number ≡ false
floor_of c s report verdict a = each_fails (ends_it s a.session.device a.number) s.uplinks (λ m u at. elim (cases_Bool (ends_it s a.session.device a.number u)) [
  | inr fails ↦ fails
  | inl passes ↦
      let parts = and_parts _ _ passes in
      let front = and_parts _ _ parts.0 in
      let of_it = of_device s a.session.device u.session (item_at s.sessions u.session) refl parts.1 in
      absurd (a.latest u.session m of_it.0 u of_it.1 of_it.2 (ltb-true a.number u.session front.1) at (is_data_kind u.kind front.0) refl)
])

framed_of : (c : Settings) (s : State) (report : Report) (verdict : Option ℕ) → AnswerPasses tells_frame (frame_heard c s report verdict) → IsAcceptedFrame c s report verdict
unfolding frame_heard data_added
framed_of c s report verdict h =
    let time = from_wants tells_frame no_frame (is_time report.time) Time _ h in
    let gateway = from_wants tells_frame no_frame (s.gateways report.gateway) UnknownGateway _ time.1 in
    let is_frame = from_needs tells_frame no_frame (data_up (frame_at_rate report.rate.dr report.octets)) BadFrame _ gateway.1 in
    let frame : DataFrame = is_frame.0 in
    let band = from_needs tells_frame no_frame (band_at report.rate.freq report.rate.dr) OutOfBand _ is_frame.2 in
    let found = from_needs tells_frame no_frame (session_with_address s.sessions c.base frame.addr) UnknownDevAddr _ band.2 in
    let number : ℕ = found.0.0 in
    let session : Session = found.0.1 in
    let at = (sessions_are_found c s frame.addr number session).0 found.1 in
    let right = from_needs tells_frame no_frame verdict MicFailed _ found.2 in
    let counter : ℕ = right.0 in
    let added = from_unless tells_frame (original_data s number counter report.octets) (data_copied s report session.device counter)
    (data_added s report frame number session.device counter band.0) (λ copy. refl) right.2 in
    let floor = from_wants tells_frame no_frame (not (is_below_floor s.uplinks s.sessions session.device number)) SessionEnded _ added in
    let replayed = from_wants tells_frame no_frame (is_none (data_with s.uplinks number counter)) Replayed _ floor.1 in
    let late = from_wants tells_frame no_frame (not (is_below counter (last_counter s.uplinks number))) Late _ replayed.1 in
    let gap = from_wants tells_frame no_frame (is_candidate (last_counter s.uplinks number) frame.fcnt counter) Gap _ late.1 in
    record {
      reported = record { time = time.0; gateway = gateway.0; band = ap is_some band.1 };
      frame = frame;
      is_frame = is_frame.1;
      number = number;
      session = session;
      there = at.0;
      address = at.1;
      latest = latest_of s session.device number (not-true (is_below_floor s.uplinks s.sessions session.device number) floor.0);
      counter = counter;
      right = right.1;
      follows = gap.0;
    }

-- the counter is above the session's last, and so no data uplink of the session has it
no_data : (c : Settings) (s : State) (report : Report) (verdict : Option ℕ) → (a : IsAcceptedFrame c s report verdict) → data_with s.uplinks a.number a.counter ≡ None
no_data c s report verdict a =
    found_none (is_data_with a.number a.counter) s.uplinks (first_that (is_data_with a.number a.counter) s.uplinks) refl (λ n u there passes.
    let parts = data_parts a.number a.counter u passes in
    let below : u.counter < a.counter = above_each (λ (z : Uplink). z.counter) (is_data_of a.number) s.uplinks a.counter n u there (and_parts _ _ passes).0
    (candidate_is (last_counter s.uplinks a.number) a.frame.fcnt a.counter a.follows).0 in
    let equal : u.counter ≡ a.counter = parts.counter in
    omega (arith, below, equal))

not_below : (counter : ℕ) (last : Option ℕ) → is_above counter last ≡ true → not (is_below counter last) ≡ true
not_below counter None h = refl
not_below counter (Some last) h = grind (arith, nat_tests)

accepted_frames : (c : Settings) (s : State) (report : Report) (verdict : Option ℕ) → IsAcceptedFrame c s report verdict → AnswerPasses tells_frame (frame_heard c s report verdict)
unfolding frame_heard data_added original_data
accepted_frames c s report verdict a =
    let band = band_there (band_at report.rate.freq report.rate.dr) a.reported.band in
    let none = no_data c s report verdict a in
    to_wants tells_frame (is_time report.time) Time _ a.reported.time
    (to_wants tells_frame (s.gateways report.gateway) UnknownGateway _ a.reported.gateway
    (to_needs tells_frame (data_up (frame_at_rate report.rate.dr report.octets)) BadFrame _ a.frame a.is_frame
    (to_needs tells_frame (band_at report.rate.freq report.rate.dr) OutOfBand _ band.0 band.1
    (to_needs tells_frame (session_with_address s.sessions c.base a.frame.addr) UnknownDevAddr _ (a.number, a.session) ((sessions_are_found c s a.frame.addr a.number a.session).1 (a.there, a.address))
    (to_needs tells_frame verdict MicFailed _ a.counter a.right
    (to_unless tells_frame (original_data s a.number a.counter report.octets) (data_copied s report a.session.device a.counter)
    (data_added s report a.frame a.number a.session.device a.counter band.0) (ap (option_and_then (same_octets report.octets)) none)
    (to_wants tells_frame (not (is_below_floor s.uplinks s.sessions a.session.device a.number)) SessionEnded _ (ap not (floor_of c s report verdict a))
    (to_wants tells_frame (is_none (data_with s.uplinks a.number a.counter)) Replayed _ (ap is_none none)
    (to_wants tells_frame (not (is_below a.counter (last_counter s.uplinks a.number))) Late _
    (not_below a.counter (last_counter s.uplinks a.number) (candidate_is (last_counter s.uplinks a.number) a.frame.fcnt a.counter a.follows).0)
    (to_wants tells_frame (is_candidate (last_counter s.uplinks a.number) a.frame.fcnt a.counter) Gap _ a.follows refl))))))))))

pub frames_booked_exactly : FramesBookedExactly
frames_booked_exactly c s e report verdict same = (
  λ h. framed_of c s report verdict (subst (AnswerPasses tells_frame) (ap (checked_decision c s e) same) h),
  λ a. subst (AnswerPasses tells_frame) (sym (ap (checked_decision c s e) same)) (accepted_frames c s report verdict a),
)
