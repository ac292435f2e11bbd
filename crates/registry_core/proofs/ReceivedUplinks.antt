-- Each uplink is as one of its gateways received it, whatever was heard.
use Rattle.std.proofs.Common.{◌≡◌, ℕ, ◌+◌, ◌≤◌, List, [], ◌∷◌, ◌++◌, length, Bool, true, false, not, Option, Some, None, refl, arith, subst, sym, ◌∙◌, inl, inr, if◌then◌else◌, rules}
use Rattle.std.specs.Prelude.{◌⊎◌, ◌==◌, is_none, nat_le, nat_lt}
use Rattle.std.proofs.lemmas.Bool.{and_parts, eq-eqb, leb-true}
use Rattle.std.proofs.lemmas.Slice.Eq.{bytes_eq-Decides}
use Rattle.radio_core.specs.declared.bands.Band.{Band}
use Rattle.radio_core.specs.declared.data_rates.DataRate.{DataRate}
use Rattle.radio_core.specs.declared.frames.Phy.{Phy}
use Rattle.radio_core.specs.Bands.{BandIsFound, band_at, lies_in}
use Rattle.radio_core.specs.Counters.{is_candidate}
use Rattle.radio_core.specs.DataRates.{max_length}
use Rattle.radio_core.specs.Frames.{frame_of}
use Rattle.radio_core.specs.TimeOnAir.{AirtimeIsBounded, AirtimeIsComputed, IsAirtime, airtime_of}
use Rattle.registry_core.specs.declared.answers.Refusal.TheVariants.{UnknownGateway, UnknownDevEui, UnknownDevAddr, BadFrame, OutOfBand, MicFailed, JoinEui, Nonce, Addresses, Replayed, Late, Gap, SessionEnded, Time}
use Rattle.registry_core.specs.declared.effects.Effect.{Effect}
use Rattle.registry_core.specs.declared.effects.Effect.TheVariants.{Nothing, AddsSession, AddsUplink}
use Rattle.registry_core.specs.declared.facts.Kind.{Kind}
use Rattle.registry_core.specs.declared.facts.Kind.TheVariants.{Join, Data}
use Rattle.registry_core.specs.declared.facts.Reception.{Reception}
use Rattle.registry_core.specs.declared.facts.Uplink.{Uplink}
use Rattle.registry_core.specs.declared.frames.DataFrame.{DataFrame}
use Rattle.registry_core.specs.declared.frames.JoinRequest.{JoinRequest}
use Rattle.registry_core.specs.declared.messages.JoinVerdict.{JoinVerdict}
use Rattle.registry_core.specs.declared.messages.Report.{Report}
use Rattle.registry_core.specs.AirtimeLaws.{IsReceived, UplinksAreReceived}
use Rattle.registry_core.specs.Checks.{unless}
use Rattle.registry_core.specs.DataFrames.{data_added, data_copied, frame_heard, original_data}
use Rattle.registry_core.specs.Derived.{data_with, is_above, is_below, is_below_floor, last_counter, last_nonce, session_with_address}
use Rattle.registry_core.specs.Frames.{data_up, frame_at_rate, join_request}
use Rattle.registry_core.specs.Joins.{is_good, join_added, join_copied, join_heard, original_join}
use Rattle.registry_core.specs.Numbered.{item_at}
use Rattle.registry_core.specs.Settings.{Settings}
use Rattle.registry_core.specs.State.{State, next_uplink, receptions_with, state_with}
use Rattle.registry_core.specs.Step.{decision_of}
use Rattle.registry_core.specs.Uplinks.{is_time, reception_added, reception_of, uplink_of}
use Rattle.registry_core.proofs.Decisions.{whatever_heard}
use Rattle.registry_core.proofs.HeardStates.{IsAllowed}
use Rattle.registry_core.proofs.Items.{item_last, item_within}
use Rattle.registry_core.proofs.KeptReceptions.{reception_stays_with}
use Rattle.registry_core.proofs.NewItems.{Lets, OfUplink, lets_needs, lets_wants, new_uplink}

-- ---- a new uplink

-- the uplink is as the gateway received it
pub record IsAsHeard (uplink : Uplink) (reception : Reception) : Type 0 where
  pub carried : length uplink.octets ≤ max_length reception.rate.dr
  pub airtime : IsAirtime reception.rate.dr (length uplink.octets) true uplink.airtime
  pub ends : uplink.start + uplink.airtime ≡ reception.end
  pub band : lies_in reception.rate.freq reception.rate.dr uplink.band ≡ true

-- what is a frame at a data rate isn't longer than that allows
carried_by : {X : Type 0} (says : Option Phy → Option X) (dr : DataRate) (octets : List ℕ) (x : X) (b : Bool) → nat_le (length octets) (max_length dr) ≡ b → says None ≡ None
    → says (if b then frame_of octets else None) ≡ Some x → length octets ≤ max_length dr
carried_by says dr octets x true is none e = leb-true (length octets) (max_length dr) is
carried_by says dr octets x false is none e = let never : None ≡ Some x = sym none ∙ e in cc

-- the laws of time on air and of bands
record RadioLaws : Type 0 where
  computed : AirtimeIsComputed
  bounded : AirtimeIsBounded
  found : BandIsFound

as_heard : RadioLaws → (report : Report) (session : ℕ) (kind : Kind) (counter : ℕ) (band : Band) → is_time report.time ≡ true → length report.octets ≤ max_length report.rate.dr
    → band_at report.rate.freq report.rate.dr ≡ Some band → IsAsHeard (uplink_of report session kind counter band) (reception_of report)
as_heard laws report session kind counter band time carried lies =
    let least : 946684800000000 ≤ report.time = leb-true 946684800000000 report.time (and_parts _ _ time).0 in
    let most : airtime_of report.rate.dr (length report.octets) true ≤ 2793472 = laws.bounded report.rate.dr (length report.octets) true carried in
    record {
      carried = carried;
      airtime = laws.computed report.rate.dr (length report.octets) true;
      ends = omega (arith, least, most);
      band = (laws.found report.rate.freq report.rate.dr band).0 lies;
    }

abbrev New : Effect → Type 0
New = OfUplink IsAsHeard

reception_new : (number : ℕ) (at : Option Reception) (report : Report) → New (reception_added number at report)
reception_new number at report = search rules

join_new : RadioLaws → (c : Settings) (s : State) (report : Report) (verdict : JoinVerdict) → Lets New (join_heard c s report verdict)
unfolding join_heard join_added
join_new laws c s report verdict =
    lets_wants New tt (is_time report.time) Time _ (λ time.
    lets_wants New tt (s.gateways report.gateway) UnknownGateway _ (λ _.
    lets_needs New tt (join_request (frame_at_rate report.rate.dr report.octets)) BadFrame _ (λ join told.
    lets_needs New tt (band_at report.rate.freq report.rate.dr) OutOfBand _ (λ band lies.
    lets_needs New tt (s.devices join.dev_eui) UnknownDevEui _ (λ device _.
    lets_wants New tt (device.join_eui == join.join_eui) JoinEui _ (λ _.
    lets_wants New tt (is_good verdict) MicFailed _ (λ _.
    ended join band (as_heard laws report (length s.sessions + 1) Join join.nonce band time (carried_by join_request report.rate.dr report.octets join _ refl refl told) lies)
    (original_join s join report.octets))))))))
  where
    ended : (join : JoinRequest) (band : Band) → IsAsHeard (uplink_of report (length s.sessions + 1) Join join.nonce band) (reception_of report) → (found : Option (ℕ × Uplink))
        → Lets New (unless found (join_copied c s report) (join_added c s report join band))
    ended join band is (Some found) = reception_new found.0 (s.receptions found.0 report.gateway) report
    ended join band is None =
        lets_wants New tt (is_above join.nonce (last_nonce s.sessions join.dev_eui)) Nonce _ (λ _. lets_wants New tt (nat_lt (length s.sessions) c.addresses) Addresses _ (λ _. is))

frame_new : RadioLaws → (c : Settings) (s : State) (report : Report) (verdict : Option ℕ) → Lets New (frame_heard c s report verdict)
unfolding frame_heard data_added
frame_new laws c s report verdict =
    lets_wants New tt (is_time report.time) Time _ (λ time.
    lets_wants New tt (s.gateways report.gateway) UnknownGateway _ (λ _.
    lets_needs New tt (data_up (frame_at_rate report.rate.dr report.octets)) BadFrame _ (λ frame told.
    lets_needs New tt (band_at report.rate.freq report.rate.dr) OutOfBand _ (λ band lies.
    lets_needs New tt (session_with_address s.sessions c.base frame.addr) UnknownDevAddr _ (λ session _.
    lets_needs New tt verdict MicFailed _ (λ counter _.
    ended frame session.0 session.1.device counter band
    (as_heard laws report session.0 Data counter band time (carried_by data_up report.rate.dr report.octets frame _ refl refl told) lies)
    (original_data s session.0 counter report.octets)))))))
  where
    ended : (frame : DataFrame) (session dev_eui counter : ℕ) (band : Band) → IsAsHeard (uplink_of report session Data counter band) (reception_of report) → (found : Option (ℕ × Uplink))
        → Lets New (unless found (data_copied s report dev_eui counter) (data_added s report frame session dev_eui counter band))
    ended frame session dev_eui counter band is (Some found) = reception_new found.0 (s.receptions found.0 report.gateway) report
    ended frame session dev_eui counter band is None =
        lets_wants New tt (not (is_below_floor s.uplinks s.sessions dev_eui session)) SessionEnded _ (λ _.
        lets_wants New tt (is_none (data_with s.uplinks session counter)) Replayed _ (λ _.
        lets_wants New tt (not (is_below counter (last_counter s.uplinks session))) Late _ (λ _.
        lets_wants New tt (is_candidate (last_counter s.uplinks session) frame.fcnt counter) Gap _ (λ _. is))))

-- ---- it stays so

received_stays : (c : Settings) (s : State) (effect : Effect) → IsAllowed c s effect → (n : ℕ) (u : Uplink) → IsReceived s n u → IsReceived (state_with s effect) n u
received_stays c s effect k n u h = record {
  gateway = h.gateway;
  reception = h.reception;
  heard = reception_stays_with c s effect k n h.gateway h.reception h.heard;
  carried = h.carried;
  airtime = h.airtime;
  ends = h.ends;
  band = h.band;
}

abbrev AreReceived : State → Type 0
AreReceived s = (n : ℕ) (u : Uplink) → item_at s.uplinks n ≡ Some u → IsReceived s n u

-- where no uplink comes
uplinks_stay : (c : Settings) (s : State) (effect : Effect) → IsAllowed c s effect → AreReceived s → (n : ℕ) (u : Uplink) → item_at s.uplinks n ≡ Some u → IsReceived (state_with s effect) n u
uplinks_stay c s effect k h n u e = received_stays c s effect k n u (h n u e)

-- where one comes, with its first reception
uplinks_with : (c : Settings) (s : State) (effect : Effect) → IsAllowed c s effect → AreReceived s → (new : Uplink) (gateway : List ℕ) (reception : Reception)
    → (state_with s effect).receptions ≡ receptions_with s.receptions (next_uplink s) gateway reception → IsAsHeard new reception → (n : ℕ) (u : Uplink) → item_at (s.uplinks ++ new ∷ []) n ≡ Some u → IsReceived (state_with s effect) n u
uplinks_with c s effect k h new gateway reception same is n u e = by (item_last s.uplinks new n u e)
  where
    first : IsReceived (state_with s effect) (next_uplink s) new
    first = record {
      gateway = gateway;
      reception = reception;
      heard = rw (same, eq-eqb (next_uplink s) (next_uplink s) refl, (bytes_eq-Decides gateway gateway).1 refl) refl;
      carried = is.carried;
      airtime = is.airtime;
      ends = is.ends;
      band = is.band;
    }

    by : (item_at s.uplinks n ≡ Some u) ⊎ ((n ≡ length s.uplinks + 1) × (new ≡ u)) → IsReceived (state_with s effect) n u
    by (inl old) = uplinks_stay c s effect k h n u old
    by (inr last) = subst (λ m. IsReceived (state_with s effect) m u) (sym last.0) (subst (IsReceived (state_with s effect) (next_uplink s)) last.1 first)

change_received : (c : Settings) (s : State) (effect : Effect) → IsAllowed c s effect → New effect → AreReceived s → AreReceived (state_with s effect)
change_received c s Nothing k new h = h
change_received c s (AddsSession session uplink gateway reception) k new h = uplinks_with c s (AddsSession session uplink gateway reception) k h uplink gateway reception refl new
change_received c s (AddsUplink uplink gateway reception) k new h = uplinks_with c s (AddsUplink uplink gateway reception) k h uplink gateway reception refl new
change_received c s effect k new h = uplinks_stay c s effect k h

pub uplinks_are_received : AirtimeIsComputed → AirtimeIsBounded → BandIsFound → UplinksAreReceived
uplinks_are_received computed bounded found c =
    let laws : RadioLaws = record { computed = computed; bounded = bounded; found = found } in
    whatever_heard c AreReceived (λ n u e. absurd (omega (arith, item_within [] n u e)))
    (λ s e allowed h. change_received c s (decision_of c s e).0 allowed (new_uplink IsAsHeard c s (join_new laws c s) (frame_new laws c s) e e.message) h)
