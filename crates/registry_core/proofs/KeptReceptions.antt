-- A reception that is stored stays, and a report of a frame that is booked adds at most one.
use Rattle.std.proofs.Common.{◌≡◌, ◌≢◌, ℕ, Bool, true, false, List, Option, Some, None, refl, sym, subst, ◌∙◌, ap, rules, inl, inr}
use Rattle.std.specs.Prelude.{◌⊎◌, ◌==◌, bytes_eq, unwrap_or}
use Rattle.std.proofs.lemmas.Bool.{eq-eqb, eqb-true}
use Rattle.std.proofs.lemmas.Option.{same_Some}
use Rattle.std.proofs.lemmas.Slice.Eq.{bytes_eq-Decides}
use Rattle.radio_core.specs.declared.bands.Band.{Band}
use Rattle.radio_core.specs.Bands.{band_at}
use Rattle.registry_core.specs.declared.answers.Refusal.{Refusal}
use Rattle.registry_core.specs.declared.answers.Refusal.TheVariants.{UnknownGateway, UnknownDevEui, UnknownDevAddr, BadFrame, OutOfBand, MicFailed, JoinEui, Time}
use Rattle.registry_core.specs.declared.effects.Effect.{Effect}
use Rattle.registry_core.specs.declared.effects.Effect.TheVariants.{AddsSession, AddsUplink, AddsReception}
use Rattle.registry_core.specs.declared.facts.Reception.{Reception}
use Rattle.registry_core.specs.declared.facts.Uplink.{Uplink}
use Rattle.registry_core.specs.declared.frames.DataFrame.{DataFrame}
use Rattle.registry_core.specs.declared.frames.JoinRequest.{JoinRequest}
use Rattle.registry_core.specs.declared.messages.Envelope.{Envelope}
use Rattle.registry_core.specs.declared.messages.JoinVerdict.{JoinVerdict}
use Rattle.registry_core.specs.declared.messages.Message.{Message}
use Rattle.registry_core.specs.declared.messages.Message.TheVariants.{SenderAdd, OwnerAdd, GatewayAdd, DeviceAdd, DeviceMove, JoinHeard, FrameHeard, DownBook, DownDone, LimitSet}
use Rattle.registry_core.specs.declared.messages.Report.{Report}
use Rattle.registry_core.specs.declared.messages.Role.{Role}
use Rattle.registry_core.specs.declared.windows.Window.{Window}
use Rattle.registry_core.specs.Administration.{sender_add, owner_add, gateway_add, device_add, device_move, limit_set}
use Rattle.registry_core.specs.Checks.{Checked, ◌>>=◌, ◌>>◌, wants, needs, unless}
use Rattle.registry_core.specs.ReceptionLaws.{CopiesAddOneAtMost, KeepsReception, ReceptionsStay, copied_uplink, report_heard}
use Rattle.registry_core.specs.DataFrames.{data_added, data_copied, frame_heard, original_data}
use Rattle.registry_core.specs.Decision.{Decision, decision_or_refusal}
use Rattle.registry_core.specs.Derived.{is_data_with, is_join_with, session_with_address}
use Rattle.registry_core.specs.Downlinks.{down_added, down_book, down_done}
use Rattle.registry_core.specs.Frames.{data_up, frame_at_rate, join_request}
use Rattle.registry_core.specs.Heard.{state_of}
use Rattle.registry_core.specs.Joins.{is_good, join_added, join_copied, join_heard, original_join}
use Rattle.registry_core.specs.Limits.{Limit}
use Rattle.registry_core.specs.Numbered.{item_at}
use Rattle.registry_core.specs.Settings.{Settings}
use Rattle.registry_core.specs.State.{State, next_uplink, receptions_with, state_with}
use Rattle.registry_core.specs.Step.{checked_decision, decision_of}
use Rattle.registry_core.specs.Uplinks.{is_time, reception_added, reception_of}
use Rattle.registry_core.proofs.Decisions.{is_decision, sound_of}
use Rattle.registry_core.proofs.HeardStates.{IsAllowed}
use Rattle.registry_core.proofs.Items.{first_is, with_octets}

-- ---- a reception stays

-- if the gateway had no reception of the uplink, adding one leaves each that is stored
old_stays : (receptions : ℕ → List ℕ → Option Reception) (number : ℕ) (gateway : List ℕ) (new : Reception) (n : ℕ) (at : List ℕ) (old : Reception) (same named : Bool)
    → (n == number) ≡ same → bytes_eq at gateway ≡ named → receptions number gateway ≡ None → receptions n at ≡ Some old → receptions_with receptions number gateway new n at ≡ Some old
old_stays receptions number gateway new n at old false named is by none there = rw is there
old_stays receptions number gateway new n at old true false is by none there = rw (is, by) (ap (λ m. receptions m at) (sym (eqb-true n number is)) ∙ there)
old_stays receptions number gateway new n at old true true is by none there =
    let never : None ≡ Some old = sym none ∙ ap (receptions number) (sym ((bytes_eq-Decides at gateway).0 by)) ∙ ap (λ m. receptions m at) (sym (eqb-true n number is)) ∙ there in cc

stays : (s : State) (number : ℕ) (gateway : List ℕ) (new : Reception) (n : ℕ) (at : List ℕ) (old : Reception) → s.receptions number gateway ≡ None → s.receptions n at ≡ Some old
    → receptions_with s.receptions number gateway new n at ≡ Some old
stays s number gateway new n at old none there = old_stays s.receptions number gateway new n at old (n == number) (bytes_eq at gateway) refl refl none there

pub reception_stays_with : (c : Settings) (s : State) (effect : Effect) → IsAllowed c s effect → (n : ℕ) (at : List ℕ) (old : Reception) → s.receptions n at ≡ Some old → (state_with s effect).receptions n at ≡ Some old
reception_stays_with c s (AddsSession session uplink gateway new) k n at old there = stays s (next_uplink s) gateway new n at old k.0.no_reception there
reception_stays_with c s (AddsUplink uplink gateway new) k n at old there = stays s (next_uplink s) gateway new n at old k.0.no_reception there
reception_stays_with c s (AddsReception number gateway new) k n at old there = stays s number gateway new n at old k.0.no_reception there
reception_stays_with c s effect k n at old there = there

pub receptions_stay : ReceptionsStay
receptions_stay c heard e number gateway reception there =
    reception_stays_with c (state_of c heard) (decision_of c (state_of c heard) e).0 (is_decision c (state_of c heard) e (sound_of c heard)).allowed number gateway reception there

-- ---- one reception at most

-- a reception at another gateway, or of another uplink, is the one that was there
other_stays : (receptions : ℕ → List ℕ → Option Reception) (number : ℕ) (gateway : List ℕ) (new : Reception) (n : ℕ) (at : List ℕ) (same named : Bool) → (n == number) ≡ same → bytes_eq at gateway ≡ named
    → (n ≢ number) ⊎ (at ≢ gateway) → receptions_with receptions number gateway new n at ≡ receptions n at
other_stays receptions number gateway new n at false named is by apart = rw is refl
other_stays receptions number gateway new n at true false is by apart = rw (is, by) (ap (λ m. receptions m at) (sym (eqb-true n number is)))
other_stays receptions number gateway new n at true true is by (inl apart) = absurd (apart (eqb-true n number is))
other_stays receptions number gateway new n at true true is by (inr apart) = absurd (apart ((bytes_eq-Decides at gateway).0 by))

-- a state that differs in the copies alone, and there in this one
keeps_with : (s : State) (report : Report) (number : ℕ) (uplink : Uplink) (receptions : ℕ → List ℕ → Option Reception) → item_at s.uplinks number ≡ Some uplink → uplink.octets ≡ report.octets
    → receptions number report.gateway ≡ Some (unwrap_or (s.receptions number report.gateway) (reception_of report))
    → ((n : ℕ) (gateway : List ℕ) → (n ≢ number) ⊎ (gateway ≢ report.gateway) → receptions n gateway ≡ s.receptions n gateway) → KeepsReception report number s (record s { receptions = receptions })
keeps_with s report number uplink receptions there octets own others = record {
  uplink = uplink;
  there = there;
  octets = octets;
  own = own;
  others = others;
  senders = refl;
  owners = refl;
  gateways = refl;
  devices = refl;
  sessions = refl;
  uplinks = refl;
  bookings = refl;
  limits = refl;
}

copy_keeps : (s : State) (report : Report) (number : ℕ) (uplink : Uplink) (at : Option Reception) → item_at s.uplinks number ≡ Some uplink → uplink.octets ≡ report.octets
    → s.receptions number report.gateway ≡ at → KeepsReception report number s (state_with s (reception_added number at report))
copy_keeps s report number uplink (Some old) there octets is = keeps_with s report number uplink s.receptions there octets (rw is refl) (λ n gateway apart. refl)
copy_keeps s report number uplink None there octets is =
    keeps_with s report number uplink (receptions_with s.receptions number report.gateway (reception_of report)) there octets
    (rw (is, eq-eqb number number refl, (bytes_eq-Decides report.gateway report.gateway).1 refl) refl)
    (λ n gateway apart. other_stays s.receptions number report.gateway (reception_of report) n gateway (n == number) (bytes_eq gateway report.gateway) refl refl apart)

-- what the checks decide, where it is answered as a copy
abbrev Keeps : State → Report → Checked Decision → Type 0
Keeps s report checked = (number : ℕ) → copied_uplink (decision_or_refusal checked).1 ≡ Some number → KeepsReception report number s (state_with s (decision_or_refusal checked).0)

after_wants : (s : State) (report : Report) (b : Bool) (r : Refusal) (rest : Checked Decision) → Keeps s report rest → Keeps s report (wants b r >> rest)
after_wants s report true r rest h = h
after_wants s report false r rest h = λ number e. cc

after_needs : {X : Type 0} (s : State) (report : Report) (x : Option X) (r : Refusal) (rest : X → Checked Decision) → ((y : X) → Keeps s report (rest y)) → Keeps s report (needs x r >>= rest)
after_needs s report (Some x) r rest h = h x
after_needs s report None r rest h = λ number e. cc

-- what is new is no copy
abbrev TellsNone : Checked Decision → Type 0
TellsNone checked = copied_uplink (decision_or_refusal checked).1 ≡ None

none_keeps : (s : State) (report : Report) (checked : Checked Decision) → TellsNone checked → Keeps s report checked
none_keeps s report checked none = λ number e. let both : None ≡ Some number = sym none ∙ e in cc

join_added_tells_none : (c : Settings) (s : State) (report : Report) (join : JoinRequest) (band : Band) → TellsNone (join_added c s report join band)
unfolding join_added
join_added_tells_none c s report join band = search rules

join_found_keeps : (c : Settings) (s : State) (report : Report) (join : JoinRequest) (band : Band) (found : Option (ℕ × Uplink)) → original_join s join report.octets ≡ found
    → Keeps s report (unless found (join_copied c s report) (join_added c s report join band))
unfolding original_join
join_found_keeps c s report join band None is = none_keeps s report (join_added c s report join band) (join_added_tells_none c s report join band)
join_found_keeps c s report join band (Some found) is = λ number e.
    let first = with_octets report.octets _ found is in
    subst (λ n. KeepsReception report n s (state_with s (reception_added found.0 (s.receptions found.0 report.gateway) report))) (same_Some found.0 number e)
    (copy_keeps s report found.0 found.1 (s.receptions found.0 report.gateway) (first_is (is_join_with s.sessions join.dev_eui join.nonce) s.uplinks found first.0).0 first.1 refl)

join_keeps : (c : Settings) (s : State) (report : Report) (verdict : JoinVerdict) → Keeps s report (join_heard c s report verdict)
unfolding join_heard
join_keeps c s report verdict =
    after_wants s report (is_time report.time) Time _ (
    after_wants s report (s.gateways report.gateway) UnknownGateway _ (
    after_needs s report (join_request (frame_at_rate report.rate.dr report.octets)) BadFrame _ (λ join.
    after_needs s report (band_at report.rate.freq report.rate.dr) OutOfBand _ (λ band.
    after_needs s report (s.devices join.dev_eui) UnknownDevEui _ (λ device.
    after_wants s report (device.join_eui == join.join_eui) JoinEui _ (
    after_wants s report (is_good verdict) MicFailed _ (
    join_found_keeps c s report join band (original_join s join report.octets) refl)))))))

data_added_tells_none : (s : State) (report : Report) (frame : DataFrame) (session dev_eui counter : ℕ) (band : Band) → TellsNone (data_added s report frame session dev_eui counter band)
unfolding data_added
data_added_tells_none s report frame session dev_eui counter band = search rules

data_found_keeps : (s : State) (report : Report) (frame : DataFrame) (session dev_eui counter : ℕ) (band : Band) (found : Option (ℕ × Uplink)) → original_data s session counter report.octets ≡ found
    → Keeps s report (unless found (data_copied s report dev_eui counter) (data_added s report frame session dev_eui counter band))
unfolding original_data
data_found_keeps s report frame session dev_eui counter band None is = none_keeps s report (data_added s report frame session dev_eui counter band) (data_added_tells_none s report frame session dev_eui counter band)
data_found_keeps s report frame session dev_eui counter band (Some found) is = λ number e.
    let first = with_octets report.octets _ found is in
    subst (λ n. KeepsReception report n s (state_with s (reception_added found.0 (s.receptions found.0 report.gateway) report))) (same_Some found.0 number e)
    (copy_keeps s report found.0 found.1 (s.receptions found.0 report.gateway) (first_is (is_data_with session counter) s.uplinks found first.0).0 first.1 refl)

frame_keeps : (c : Settings) (s : State) (report : Report) (verdict : Option ℕ) → Keeps s report (frame_heard c s report verdict)
unfolding frame_heard
frame_keeps c s report verdict =
    after_wants s report (is_time report.time) Time _ (
    after_wants s report (s.gateways report.gateway) UnknownGateway _ (
    after_needs s report (data_up (frame_at_rate report.rate.dr report.octets)) BadFrame _ (λ frame.
    after_needs s report (band_at report.rate.freq report.rate.dr) OutOfBand _ (λ band.
    after_needs s report (session_with_address s.sessions c.base frame.addr) UnknownDevAddr _ (λ session.
    after_needs s report verdict MicFailed _ (λ counter.
    data_found_keeps s report frame session.0 session.1.device counter band (original_data s session.0 counter report.octets) refl))))))

-- no other message is answered as a copy

sender_tells_none : (s : State) (e : Envelope) (sender : List ℕ) (role : Role) → TellsNone (sender_add s e sender role)
unfolding sender_add
sender_tells_none s e sender role = search rules

owner_tells_none : (s : State) (e : Envelope) (owner : List ℕ) → TellsNone (owner_add s e owner)
unfolding owner_add
owner_tells_none s e owner = search rules

gateway_tells_none : (s : State) (e : Envelope) (gateway : List ℕ) → TellsNone (gateway_add s e gateway)
unfolding gateway_add
gateway_tells_none s e gateway = search rules

device_tells_none : (s : State) (e : Envelope) (dev_eui join_eui : ℕ) (owner : List ℕ) → TellsNone (device_add s e dev_eui join_eui owner)
unfolding device_add
device_tells_none s e dev_eui join_eui owner = search rules

move_tells_none : (s : State) (e : Envelope) (dev_eui : ℕ) (owner : List ℕ) → TellsNone (device_move s e dev_eui owner)
unfolding device_move
move_tells_none s e dev_eui owner = search rules

book_tells_none : (c : Settings) (s : State) (number : ℕ) (gateway : List ℕ) (window : Window) (octets : List ℕ) → TellsNone (down_book c s number gateway window octets)
unfolding down_book down_added
book_tells_none c s number gateway window octets = search rules

done_tells_none : (s : State) (number : ℕ) (sent : Bool) → TellsNone (down_done s number sent)
unfolding down_done
done_tells_none s number sent = search rules

limit_tells_none : (s : State) (e : Envelope) (gateway : List ℕ) (limit : Limit) → TellsNone (limit_set s e gateway limit)
unfolding limit_set
limit_tells_none s e gateway limit = search rules

-- ---- each message

abbrev KeepsOne : State → Message → Checked Decision → Type 0
KeepsOne s m checked = (number : ℕ) → copied_uplink (decision_or_refusal checked).1 ≡ Some number
    → (report : Report) × (report_heard m ≡ Some report) × KeepsReception report number s (state_with s (decision_or_refusal checked).0)

never : (s : State) (m : Message) (checked : Checked Decision) → TellsNone checked → KeepsOne s m checked
never s m checked none = λ number e. let both : None ≡ Some number = sym none ∙ e in cc

keeps : (c : Settings) (s : State) (e : Envelope) (m : Message) → KeepsOne s m (checked_decision c s e m)
keeps c s e (SenderAdd sender role) = never s (SenderAdd sender role) (sender_add s e sender role) (sender_tells_none s e sender role)
keeps c s e (OwnerAdd owner) = never s (OwnerAdd owner) (owner_add s e owner) (owner_tells_none s e owner)
keeps c s e (GatewayAdd gateway) = never s (GatewayAdd gateway) (gateway_add s e gateway) (gateway_tells_none s e gateway)
keeps c s e (DeviceAdd dev_eui join_eui owner) = never s (DeviceAdd dev_eui join_eui owner) (device_add s e dev_eui join_eui owner) (device_tells_none s e dev_eui join_eui owner)
keeps c s e (DeviceMove dev_eui owner) = never s (DeviceMove dev_eui owner) (device_move s e dev_eui owner) (move_tells_none s e dev_eui owner)
keeps c s e (JoinHeard report verdict) = λ number told. (report, refl, join_keeps c s report verdict number told)
keeps c s e (FrameHeard report verdict) = λ number told. (report, refl, frame_keeps c s report verdict number told)
keeps c s e (DownBook uplink gateway window octets) = never s (DownBook uplink gateway window octets) (down_book c s uplink gateway window octets) (book_tells_none c s uplink gateway window octets)
keeps c s e (DownDone booking sent) = never s (DownDone booking sent) (down_done s booking sent) (done_tells_none s booking sent)
keeps c s e (LimitSet gateway limit) = never s (LimitSet gateway limit) (limit_set s e gateway limit) (limit_tells_none s e gateway limit)

pub copies_add_one_at_most : CopiesAddOneAtMost
copies_add_one_at_most c s e number told = keeps c s e e.message number told
