-- What a step decides: it adds only what isn't there and names only what is, and a copy books nothing.
use Rattle.std.proofs.Common.{◌≡◌, Bool, true, false, List, [], ◌∷◌, ◌++◌, length, ℕ, ◌+◌, ◌≤◌, ◌-◌, ◌%◌, Option, Some, None, refl, ap, sym, ◌∙◌, arith, if◌then◌else◌}
use Rattle.std.specs.Prelude.{not, ◌==◌, ◌&&◌, IsTrue, Ok, Err, is_some, is_none, nat_le, nat_lt, option_map}
use Rattle.std.proofs.lemmas.Bool.{and_parts, eqb-true, leb-true, ltb-true, not-true}
use Rattle.std.proofs.lemmas.Bool.Decides.{nat_tests}
use Rattle.std.proofs.lemmas.Option.{same_Some}
use Rattle.radio_core.specs.declared.bands.Band.{Band}
use Rattle.radio_core.specs.declared.data_rates.DataRate.{DataRate}
use Rattle.radio_core.specs.declared.frames.Phy.{Phy}
use Rattle.radio_core.specs.Bands.{band_at}
use Rattle.radio_core.specs.Counters.{is_candidate}
use Rattle.radio_core.specs.DataRates.{max_length}
use Rattle.radio_core.specs.Frames.{frame_of}
use Rattle.duty_core.specs.Computed.{is_clear, hours_within}
use Rattle.duty_core.specs.Use.{Interval}
use Rattle.registry_core.specs.declared.answers.Answer.TheVariants.{Success, Refused}
use Rattle.registry_core.specs.declared.answers.Refusal.{Refusal}
use Rattle.registry_core.specs.declared.answers.Refusal.TheVariants.{WrongRole, Exists, UnknownOwner, UnknownGateway, UnknownDevEui, UnknownDevAddr, BadFrame, OutOfBand, MicFailed, JoinEui, Nonce, Addresses, Replayed, Late, Gap, SessionEnded, NoUplink, DownCounter, Collision, Duty, Answered, NoBooking, Done, Time}
use Rattle.registry_core.specs.declared.effects.Effect.{Effect}
use Rattle.registry_core.specs.declared.effects.Effect.TheVariants.{Nothing, AddsSender, AddsOwner, AddsGateway, AddsDevice, MovesDevice, AddsSession, AddsUplink, AddsReception, AddsBooking, EndsBooking, SetsLimit}
use Rattle.registry_core.specs.declared.facts.Device.{Device}
use Rattle.registry_core.specs.declared.facts.Kind.{Kind}
use Rattle.registry_core.specs.declared.facts.Kind.TheVariants.{Join, Data}
use Rattle.registry_core.specs.declared.facts.Reception.{Reception}
use Rattle.registry_core.specs.declared.facts.Session.{Session}
use Rattle.registry_core.specs.declared.facts.Standing.{Standing}
use Rattle.registry_core.specs.declared.facts.Standing.TheVariants.{Booked, Sent, Dropped}
use Rattle.registry_core.specs.declared.facts.Uplink.{Uplink}
use Rattle.registry_core.specs.declared.frames.DataFrame.{DataFrame}
use Rattle.registry_core.specs.declared.frames.Downlink.{Downlink}
use Rattle.registry_core.specs.declared.frames.JoinRequest.{JoinRequest}
use Rattle.registry_core.specs.declared.messages.Envelope.{Envelope}
use Rattle.registry_core.specs.declared.messages.JoinVerdict.{JoinVerdict}
use Rattle.registry_core.specs.declared.messages.Message.{Message}
use Rattle.registry_core.specs.declared.messages.Message.TheVariants.{SenderAdd, OwnerAdd, GatewayAdd, DeviceAdd, DeviceMove, JoinHeard, FrameHeard, DownBook, DownDone, LimitSet}
use Rattle.registry_core.specs.declared.messages.Report.{Report}
use Rattle.registry_core.specs.declared.messages.Role.{Role}
use Rattle.registry_core.specs.declared.windows.Window.{Window}
use Rattle.registry_core.specs.Bookings.{downlinks, downlinks_in, is_answered, is_booked, limit_standing, next_down}
use Rattle.registry_core.specs.Checks.{Checked, ◌>>=◌, ◌>>◌, wants, needs, unless}
use Rattle.registry_core.specs.Administration.{is_operator, sender_add, owner_add, gateway_add, device_add, device_move, limit_set}
use Rattle.registry_core.specs.Decision.{Decision, decision_or_refusal}
use Rattle.registry_core.specs.Derived.{address_of, data_with, is_above, is_below, is_below_floor, is_data_with, is_join_with, last_counter, last_nonce, session_with_address}
use Rattle.registry_core.specs.DataFrames.{original_data, data_copied, data_added, frame_heard}
use Rattle.registry_core.specs.Frames.{counts_as, data_up, downlink_to, frame_at_rate, goes_to, join_request}
use Rattle.registry_core.specs.Fits.{Fits, BookingFits, SessionFits, UplinkFits, DecisionsFit}
use Rattle.registry_core.specs.Downlinks.{down_added, down_book, down_done, on_air}
use Rattle.registry_core.specs.Heard.{state_after, state_of}
use Rattle.registry_core.specs.Laws.{tells_copy}
use Rattle.registry_core.specs.Joins.{is_good, original_join, join_copied, join_added, join_heard}
use Rattle.registry_core.specs.Limits.{Limit}
use Rattle.registry_core.specs.Numbered.{item_at}
use Rattle.registry_core.specs.Settings.{Settings}
use Rattle.registry_core.specs.State.{State, next_uplink, opening}
use Rattle.registry_core.specs.Step.{checked_decision, decision_of, step}
use Rattle.registry_core.specs.Uplinks.{is_time, reception_added, reception_of, uplink_of}
use Rattle.registry_core.specs.Windows.{delay, rate_in}
use Rattle.registry_core.proofs.HeardStates.{IsSound, IsAllowed, IsInBand, IsTimeDown, opening_sound, change_sound}
use Rattle.registry_core.proofs.Items.{first_is, item_within, with_octets}

-- ---- what every decision is

-- it adds no session, no uplink and no booking, and ends none
abbrev pub BooksNothing : Effect → Type 0
BooksNothing (AddsSession session u gateway reception) = ⊥
BooksNothing (AddsUplink u gateway reception) = ⊥
BooksNothing (AddsBooking booking) = ⊥
BooksNothing (EndsBooking number sent) = ⊥
BooksNothing effect = Unit {0}

pub record IsDecision (c : Settings) (s : State) (d : Decision) : Type 0 where
  pub allowed : IsAllowed c s d.0
  pub copy : IsTrue (tells_copy d.1) → BooksNothing d.0
  pub refusal : (r : Refusal) → d.1 ≡ Refused r → d.0 ≡ Nothing

unfoldable pub Decides : Settings → State → Checked Decision → Type 0
Decides c s checked = IsDecision c s (decision_or_refusal checked)

-- ---- checks in a row

refused : (c : Settings) (s : State) (r : Refusal) → Decides c s (Err r)
unfolding Decides
refused c s r = record { allowed = tt; copy = λ h. cc; refusal = λ x h. refl }

after_wants : (c : Settings) (s : State) (b : Bool) (r : Refusal) (rest : Checked Decision) → (b ≡ true → Decides c s rest) → Decides c s (wants b r >> rest)
after_wants c s true r rest h = h refl
after_wants c s false r rest h = refused c s r

after_needs : {X : Type 0} (c : Settings) (s : State) (x : Option X) (r : Refusal) (rest : X → Checked Decision) → ((y : X) → x ≡ Some y → Decides c s (rest y)) → Decides c s (needs x r >>= rest)
after_needs c s (Some x) r rest h = h x refl
after_needs c s None r rest h = refused c s r

-- ---- the messages of an operator

succeeds : (c : Settings) (s : State) (effect : Effect) → IsAllowed c s effect → Decides c s (Ok (effect, Success))
unfolding Decides
succeeds c s effect k = record { allowed = k; copy = λ h. cc; refusal = λ x h. cc }

pub is_absent : {X : Type 0} (x : Option X) → is_none x ≡ true → x ≡ None
is_absent None h = refl
is_absent (Some x) h = cc

sender_decides : (c : Settings) (s : State) (e : Envelope) (sender : List ℕ) (role : Role) → Decides c s (sender_add s e sender role)
unfolding sender_add
sender_decides c s e sender role =
    after_wants c s (is_operator (s.senders e.sender)) WrongRole _ (λ _.
    after_wants c s (is_none (s.senders sender)) Exists _ (λ new.
    succeeds c s (AddsSender sender role) (is_absent (s.senders sender) new)))

owner_decides : (c : Settings) (s : State) (e : Envelope) (owner : List ℕ) → Decides c s (owner_add s e owner)
unfolding owner_add
owner_decides c s e owner =
    after_wants c s (is_operator (s.senders e.sender)) WrongRole _ (λ _.
    after_wants c s (not (s.owners owner)) Exists _ (λ new.
    succeeds c s (AddsOwner owner) (not-true (s.owners owner) new)))

gateway_decides : (c : Settings) (s : State) (e : Envelope) (gateway : List ℕ) → Decides c s (gateway_add s e gateway)
unfolding gateway_add
gateway_decides c s e gateway =
    after_wants c s (is_operator (s.senders e.sender)) WrongRole _ (λ _.
    after_wants c s (not (s.gateways gateway)) Exists _ (λ new.
    succeeds c s (AddsGateway gateway) (not-true (s.gateways gateway) new)))

device_decides : (c : Settings) (s : State) (e : Envelope) (dev_eui join_eui : ℕ) (owner : List ℕ) → Decides c s (device_add s e dev_eui join_eui owner)
unfolding device_add
device_decides c s e dev_eui join_eui owner =
    after_wants c s (is_operator (s.senders e.sender)) WrongRole _ (λ _.
    after_wants c s (s.owners owner) UnknownOwner _ (λ known.
    after_wants c s (is_none (s.devices dev_eui)) Exists _ (λ new.
    succeeds c s (AddsDevice dev_eui (record { join_eui = join_eui; owner = owner })) (is_absent (s.devices dev_eui) new, known))))

move_decides : (c : Settings) (s : State) (e : Envelope) (dev_eui : ℕ) (owner : List ℕ) → Decides c s (device_move s e dev_eui owner)
unfolding device_move
move_decides c s e dev_eui owner =
    after_wants c s (is_operator (s.senders e.sender)) WrongRole _ (λ _.
    after_wants c s (is_some (s.devices dev_eui)) UnknownDevEui _ (λ there.
    after_wants c s (s.owners owner) UnknownOwner _ (λ known.
    succeeds c s (MovesDevice dev_eui owner) (there, known))))

limit_decides : (c : Settings) (s : State) (e : Envelope) (gateway : List ℕ) (limit : Limit) → Decides c s (limit_set s e gateway limit)
unfolding limit_set
limit_decides c s e gateway limit =
    after_wants c s (is_operator (s.senders e.sender)) WrongRole _ (λ _.
    after_wants c s (s.gateways gateway) UnknownGateway _ (λ known.
    after_wants c s (hours_within (downlinks_in s.bookings gateway limit.band) limit.most) Duty _ (λ within.
    succeeds c s (SetsLimit gateway limit) (known, within))))

-- ---- a join

-- the next uplink has no reception
pub no_reception : (c : Settings) (s : State) (gateway : List ℕ) (found : Option Reception) → IsSound c s → s.receptions (next_uplink s) gateway ≡ found → found ≡ None
no_reception c s gateway None h e = refl
no_reception c s gateway (Some r) h e = absurd (omega (arith, h.of_uplinks (next_uplink s) gateway r e))

added_decides : (c : Settings) (s : State) (report : Report) (join : JoinRequest) (device : Device) (band : Band) → IsSound c s → s.gateways report.gateway ≡ true → s.devices join.dev_eui ≡ Some device
    → IsInBand (reception_of report) → Decides c s (join_added c s report join band)
unfolding join_added Decides
added_decides c s report join device band h gateway there lies =
    after_wants c s (is_above join.nonce (last_nonce s.sessions join.dev_eui)) Nonce _ (λ above.
    after_wants c s (nat_lt (length s.sessions) c.addresses) Addresses _ (λ room. record { allowed = (fits above, ltb-true (length s.sessions) c.addresses room, lies); copy = λ k. cc; refusal = λ x h. cc }))
  where
    fits : is_above join.nonce (last_nonce s.sessions join.dev_eui) ≡ true
        → SessionFits (record { device = join.dev_eui; nonce = join.nonce }) (uplink_of report (length s.sessions + 1) Join join.nonce band) report.gateway s
    fits above = record {
      device = ap is_some there;
      nonce = above;
      number = refl;
      kind = refl;
      counter = refl;
      gateway = gateway;
      no_reception = no_reception c s report.gateway (s.receptions (next_uplink s) report.gateway) h refl;
    }

copied_fits : (c : Settings) (s : State) (report : Report) (found : ℕ × Uplink) (at : Option Reception) → s.gateways report.gateway ≡ true → item_at s.uplinks found.0 ≡ Some found.1
    → IsInBand (reception_of report) → s.receptions found.0 report.gateway ≡ at → IsAllowed c s (reception_added found.0 at report)
copied_fits c s report found (Some r) gateway there lies is = tt
copied_fits c s report found None gateway there lies is = (record { uplink = ap is_some there; gateway = gateway; no_reception = is }, lies)

-- a copy is one of an uplink that is there
uplink_there : (s : State) (join : JoinRequest) (octets : List ℕ) (found : ℕ × Uplink) → original_join s join octets ≡ Some found → item_at s.uplinks found.0 ≡ Some found.1
unfolding original_join
uplink_there s join octets found e = (first_is (is_join_with s.sessions join.dev_eui join.nonce) s.uplinks found (with_octets octets _ found e).0).0

copy_books : (number : ℕ) (at : Option Reception) (report : Report) → BooksNothing (reception_added number at report)
copy_books number (Some r) report = tt
copy_books number None report = tt

ended_decides : (c : Settings) (s : State) (report : Report) (join : JoinRequest) (device : Device) (band : Band) (found : Option (ℕ × Uplink)) → IsSound c s → s.gateways report.gateway ≡ true
    → s.devices join.dev_eui ≡ Some device → IsInBand (reception_of report) → original_join s join report.octets ≡ found
    → Decides c s (unless found (join_copied c s report) (join_added c s report join band))
unfolding Decides
ended_decides c s report join device band None h gateway there lies is = added_decides c s report join device band h gateway there lies
ended_decides c s report join device band (Some found) h gateway there lies is =
    record {
      allowed = copied_fits c s report found (s.receptions found.0 report.gateway) gateway (uplink_there s join report.octets found is) lies refl;
      copy = λ k. copy_books found.0 (s.receptions found.0 report.gateway) report;
      refusal = λ x h. cc;
    }

pub join_decides : (c : Settings) (s : State) (report : Report) (verdict : JoinVerdict) → IsSound c s → Decides c s (join_heard c s report verdict)
unfolding join_heard
join_decides c s report verdict h =
    after_wants c s (is_time report.time) Time _ (λ _.
    after_wants c s (s.gateways report.gateway) UnknownGateway _ (λ gateway.
    after_needs c s (join_request (frame_at_rate report.rate.dr report.octets)) BadFrame _ (λ join _.
    after_needs c s (band_at report.rate.freq report.rate.dr) OutOfBand _ (λ band lies.
    after_needs c s (s.devices join.dev_eui) UnknownDevEui _ (λ device there.
    after_wants c s (device.join_eui == join.join_eui) JoinEui _ (λ _.
    after_wants c s (is_good verdict) MicFailed _ (λ _.
    ended_decides c s report join device band (original_join s join report.octets) h gateway there
    (ap is_some lies) refl)))))))

-- ---- a data frame

pub session_there : (c : Settings) (s : State) (addr : ℕ) (found : ℕ × Session) → session_with_address s.sessions c.base addr ≡ Some found → (item_at s.sessions found.0 ≡ Some found.1) × (addr ≡ address_of c found.0)
session_there c s addr found e = by_session (item_at s.sessions (addr + 1 - c.base)) refl e
  where
    by_session : (session : Option Session) → item_at s.sessions (addr + 1 - c.base) ≡ session → option_map (λ (x : Session). (addr + 1 - c.base, x)) session ≡ Some found
        → (item_at s.sessions found.0 ≡ Some found.1) × (addr ≡ address_of c found.0)
    by_session None is e = cc
    by_session (Some x) is e =
        let same : (addr + 1 - c.base, x) ≡ found = same_Some (addr + 1 - c.base, x) found e in
        let number : addr + 1 - c.base ≡ found.0 = ap (λ q. q.0) same in
        let there = is ∙ ap (λ q. Some q.1) same in
        (ap (item_at s.sessions) (sym number) ∙ there, omega (arith, number, (item_within s.sessions (addr + 1 - c.base) x is).0))

low_bits : (counter low : ℕ) → counter % 65536 ≡ low → low % 65536 ≡ counter % 65536
low_bits counter low same = omega (arith, same)

-- the candidate counter is above the last, and has the frame's low bits
pub candidate_is : (last : Option ℕ) (low counter : ℕ) → is_candidate last low counter ≡ true → (is_above counter last ≡ true) × (low % 65536 ≡ counter % 65536)
candidate_is None low counter h = (refl, let same : counter ≡ low = grind (arith, nat_tests) in ap (λ n. n % 65536) (sym same))
candidate_is (Some n) low counter h =
    let front : (nat_lt n counter && nat_le counter (n + 65536) && counter % 65536 == low) ≡ true = (and_parts _ _ h).0 in
    let edges : (nat_lt n counter && nat_le counter (n + 65536)) ≡ true = (and_parts _ _ front).0 in
    ((and_parts _ _ edges).0, low_bits counter low (eqb-true (counter % 65536) low (and_parts _ _ front).1))

data_added_decides : (c : Settings) (s : State) (report : Report) (frame : DataFrame) (session : ℕ × Session) (counter : ℕ) (band : Band) → IsSound c s → s.gateways report.gateway ≡ true
    → data_up (frame_of report.octets) ≡ Some frame → session_with_address s.sessions c.base frame.addr ≡ Some session → IsInBand (reception_of report)
    → Decides c s (data_added s report frame session.0 session.1.device counter band)
unfolding data_added Decides
data_added_decides c s report frame session counter band h gateway is at lies =
    after_wants c s (not (is_below_floor s.uplinks s.sessions session.1.device session.0)) SessionEnded _ (λ _.
    after_wants c s (is_none (data_with s.uplinks session.0 counter)) Replayed _ (λ _.
    after_wants c s (not (is_below counter (last_counter s.uplinks session.0))) Late _ (λ _.
    after_wants c s (is_candidate (last_counter s.uplinks session.0) frame.fcnt counter) Gap _ (λ follows.
    record { allowed = (fits_new follows, (frame, is, there.1, (candidate_is (last_counter s.uplinks session.0) frame.fcnt counter follows).1), lies); copy = λ k. cc; refusal = λ x h. cc }))))
  where
    there : (item_at s.sessions session.0 ≡ Some session.1) × (frame.addr ≡ address_of c session.0)
    there = session_there c s frame.addr session at

    fits_new : is_candidate (last_counter s.uplinks session.0) frame.fcnt counter ≡ true → UplinkFits (uplink_of report session.0 Data counter band) report.gateway s
    fits_new follows = record {
      session = ap is_some there.0;
      kind = refl;
      counter = (candidate_is (last_counter s.uplinks session.0) frame.fcnt counter follows).0;
      gateway = gateway;
      no_reception = no_reception c s report.gateway (s.receptions (next_uplink s) report.gateway) h refl;
    }

data_there : (s : State) (session counter : ℕ) (octets : List ℕ) (found : ℕ × Uplink) → original_data s session counter octets ≡ Some found → item_at s.uplinks found.0 ≡ Some found.1
unfolding original_data
data_there s session counter octets found e = (first_is (is_data_with session counter) s.uplinks found (with_octets octets _ found e).0).0

frame_ended : (c : Settings) (s : State) (report : Report) (frame : DataFrame) (session : ℕ × Session) (counter : ℕ) (band : Band) (found : Option (ℕ × Uplink)) → IsSound c s → s.gateways report.gateway ≡ true
    → data_up (frame_of report.octets) ≡ Some frame → session_with_address s.sessions c.base frame.addr ≡ Some session → IsInBand (reception_of report) → original_data s session.0 counter report.octets ≡ found
    → Decides c s (unless found (data_copied s report session.1.device counter) (data_added s report frame session.0 session.1.device counter band))
unfolding Decides
frame_ended c s report frame session counter band None h gateway told at lies is = data_added_decides c s report frame session counter band h gateway told at lies
frame_ended c s report frame session counter band (Some found) h gateway told at lies is = record {
  allowed = copied_fits c s report found (s.receptions found.0 report.gateway) gateway (data_there s session.0 counter report.octets found is) lies refl;
  copy = λ k. copy_books found.0 (s.receptions found.0 report.gateway) report;
  refusal = λ x h. cc;
}

-- what is read of a frame that its data rate can carry is read of its octets
pub carried : {X : Type 0} (says : Option Phy → Option X) (dr : DataRate) (octets : List ℕ) (x : X) → says None ≡ None → says (frame_at_rate dr octets) ≡ Some x → says (frame_of octets) ≡ Some x
carried says dr octets x none e = by_length (nat_le (length octets) (max_length dr)) e
  where
    by_length : (b : Bool) → says (if b then frame_of octets else None) ≡ Some x → says (frame_of octets) ≡ Some x
    by_length true told = told
    by_length false told = cc

frame_decides : (c : Settings) (s : State) (report : Report) (verdict : Option ℕ) → IsSound c s → Decides c s (frame_heard c s report verdict)
unfolding frame_heard
frame_decides c s report verdict h =
    after_wants c s (is_time report.time) Time _ (λ _.
    after_wants c s (s.gateways report.gateway) UnknownGateway _ (λ gateway.
    after_needs c s (data_up (frame_at_rate report.rate.dr report.octets)) BadFrame _ (λ frame told.
    after_needs c s (band_at report.rate.freq report.rate.dr) OutOfBand _ (λ band lies.
    after_needs c s (session_with_address s.sessions c.base frame.addr) UnknownDevAddr _ (λ session at.
    after_needs c s verdict MicFailed _ (λ counter _.
    frame_ended c s report frame session counter band (original_data s session.0 counter report.octets) h gateway
    (carried data_up report.rate.dr report.octets frame refl told) at
    (ap is_some lies) refl))))))

-- ---- a downlink

-- a downlink that its data rate carries isn't longer than that allows
pub carried_down : (kind : Kind) (dr : DataRate) (octets : List ℕ) (down : Downlink) (b : Bool) → nat_le (length octets) (max_length dr) ≡ b
    → downlink_to kind (if b then frame_of octets else None) ≡ Some down → length octets ≤ max_length dr
carried_down kind dr octets down true is e = leb-true (length octets) (max_length dr) is
carried_down Join dr octets down false is e = cc
carried_down Data dr octets down false is e = cc

down_added_decides : (c : Settings) (s : State) (number : ℕ) (gateway : List ℕ) (band : Band) (start : ℕ) (span : Interval) (uplink : Uplink) (reception : Reception) → s.gateways gateway ≡ true
    → item_at s.uplinks number ≡ Some uplink → s.receptions number gateway ≡ Some reception → IsTimeDown span.len → Decides c s (down_added s number gateway band start span)
unfolding down_added Decides
down_added_decides c s number gateway band start span uplink reception known there heard time =
    after_wants c s (is_clear (downlinks s.bookings gateway) span) Collision _ (λ _.
    after_wants c s (hours_within (downlinks_in s.bookings gateway band ++ span ∷ []) (limit_standing s gateway band)) Duty _ (λ within. record { allowed = (fits_new, time, within); copy = λ k. cc; refusal = λ x h. cc }))
  where
    fits_new : BookingFits (record { uplink = number; gateway = gateway; band = band; span = span; standing = Booked }) s
    fits_new = record {
      uplink = ap is_some there;
      gateway = known;
      reception = ap is_some heard;
      standing = refl;
    }

book_decides : (c : Settings) (s : State) (number : ℕ) (gateway : List ℕ) (window : Window) (octets : List ℕ) → Decides c s (down_book c s number gateway window octets)
unfolding down_book
book_decides c s number gateway window octets =
    after_wants c s (s.gateways gateway) UnknownGateway _ (λ known.
    after_needs c s (item_at s.uplinks number) NoUplink _ (λ uplink there.
    after_needs c s (s.receptions number gateway) NoUplink _ (λ reception heard.
    after_needs c s (downlink_to uplink.kind (frame_at_rate (rate_in window reception.rate).dr octets)) BadFrame _ (λ down told.
    after_wants c s (goes_to (address_of c uplink.session) down) UnknownDevAddr _ (λ _.
    after_wants c s (not (is_answered s.bookings number)) Answered _ (λ _.
    after_wants c s (counts_as (next_down s.bookings s.uplinks uplink.session) down) DownCounter _ (λ _.
    after_needs c s (band_at (rate_in window reception.rate).freq (rate_in window reception.rate).dr) OutOfBand _ (λ band _.
    down_added_decides c s number gateway band (reception.end + delay uplink.kind window) (on_air (reception.end + delay uplink.kind window) (rate_in window reception.rate) octets) uplink reception known there heard
    ((rate_in window reception.rate).dr, length octets, carried_down uplink.kind (rate_in window reception.rate).dr octets down _ refl told, refl)))))))))

booked_standing : (standing : Standing) → is_booked standing ≡ true → standing ≡ Booked
booked_standing Booked h = refl
booked_standing Sent h = cc
booked_standing Dropped h = cc

done_decides : (c : Settings) (s : State) (number : ℕ) (sent : Bool) → Decides c s (down_done s number sent)
unfolding down_done
done_decides c s number sent =
    after_needs c s (item_at s.bookings number) NoBooking _ (λ booking there.
    after_wants c s (is_booked booking.standing) Done _ (λ booked.
    succeeds c s (EndsBooking number sent) (record { booking = booking; there = there; standing = booked_standing booking.standing booked })))

-- ---- each message

decides : (c : Settings) (s : State) (e : Envelope) (m : Message) → IsSound c s → Decides c s (checked_decision c s e m)
decides c s e (SenderAdd sender role) h = sender_decides c s e sender role
decides c s e (OwnerAdd owner) h = owner_decides c s e owner
decides c s e (GatewayAdd gateway) h = gateway_decides c s e gateway
decides c s e (DeviceAdd dev_eui join_eui owner) h = device_decides c s e dev_eui join_eui owner
decides c s e (DeviceMove dev_eui owner) h = move_decides c s e dev_eui owner
decides c s e (JoinHeard report verdict) h = join_decides c s report verdict h
decides c s e (FrameHeard report verdict) h = frame_decides c s report verdict h
decides c s e (DownBook uplink gateway window octets) h = book_decides c s uplink gateway window octets
decides c s e (DownDone booking sent) h = done_decides c s booking sent
decides c s e (LimitSet gateway limit) h = limit_decides c s e gateway limit

pub is_decision : (c : Settings) (s : State) (e : Envelope) → IsSound c s → IsDecision c s (decision_of c s e)
unfolding Decides
is_decision c s e h = decides c s e e.message h

-- every state that messages leave is sound
pub sound_after : (c : Settings) (s : State) (es : List Envelope) → IsSound c s → IsSound c (state_after c s es)
sound_after c s [] h = h
sound_after c s (e ∷ es) h = sound_after c (step c s e).0 es (change_sound c s (decision_of c s e).0 h (is_decision c s e h).allowed)

pub sound_of : (c : Settings) (heard : List Envelope) → IsSound c (state_of c heard)
sound_of c heard = sound_after c (opening c) heard (opening_sound c)

-- what is true at first, and stays true with each allowed change, is true whatever was heard
pub whatever_heard : (c : Settings) (P : State → Type 0) → P (opening c) → ((s : State) (e : Envelope) → IsAllowed c s (decision_of c s e).0 → P s → P (step c s e).0)
    → (heard : List Envelope) → P (state_of c heard)
whatever_heard c P first kept heard = after (opening c) heard (opening_sound c) first
  where
    after : (s : State) (es : List Envelope) → IsSound c s → P s → P (state_after c s es)
    after s [] sound h = h
    after s (e ∷ es) sound h = after (step c s e).0 es (sound_after c s (e ∷ []) sound) (kept s e (is_decision c s e sound).allowed h)

-- what is allowed fits
fits : (c : Settings) (s : State) (effect : Effect) → IsAllowed c s effect → Fits effect s
fits c s (AddsSession session u gateway reception) k = k.0
fits c s (AddsUplink u gateway reception) k = k.0
fits c s (AddsReception number gateway reception) k = k.0
fits c s (AddsBooking booking) k = k.0
fits c s (SetsLimit gateway limit) k = k.0
fits c s effect k = k

pub decisions_fit : DecisionsFit
decisions_fit c heard e list = fits c (state_of c heard) (decision_of c (state_of c heard) e).0 (is_decision c (state_of c heard) e (sound_of c heard)).allowed

-- what the checks of a message's type decide is what its step decides
pub checked_decides : (c : Settings) (s : State) (e : Envelope) (m : Message) (checked : Checked Decision) → checked ≡ checked_decision c s e m → e.message ≡ m
    → decision_or_refusal checked ≡ decision_of c s e
checked_decides c s e m checked decided same = ap decision_or_refusal (decided ∙ sym (ap (checked_decision c s e) same))
