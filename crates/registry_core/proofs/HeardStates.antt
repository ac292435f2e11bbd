-- What is true of the registry after every list of messages.
use Rattle.std.proofs.Common.{◌≡◌, ℕ, ◌+◌, ◌%◌, ◌<◌, ◌≤◌, List, [], ◌∷◌, ◌++◌, length, true, false, Option, Some, None, refl, sym, ◌∙◌, ap, subst, arith, inl, inr}
use Rattle.std.specs.Prelude.{◌⊎◌, ◌==◌, is_some, IsTrue}
use Rattle.std.proofs.lemmas.Bool.{eq-eqb}
use Rattle.std.proofs.lemmas.List.{length_push}
use Rattle.radio_core.specs.declared.data_rates.DataRate.{DataRate}
use Rattle.radio_core.specs.Bands.{band_at}
use Rattle.radio_core.specs.DataRates.{max_length}
use Rattle.radio_core.specs.Frames.{frame_of}
use Rattle.radio_core.specs.TimeOnAir.{airtime_of}
use Rattle.duty_core.specs.Computed.{hours_within}
use Rattle.registry_core.specs.declared.effects.Effect.{Effect}
use Rattle.registry_core.specs.declared.effects.Effect.TheVariants.{AddsSession, AddsUplink, AddsReception, AddsBooking, SetsLimit}
use Rattle.registry_core.specs.declared.facts.Kind.{Kind}
use Rattle.registry_core.specs.declared.facts.Kind.TheVariants.{Join, Data}
use Rattle.registry_core.specs.declared.facts.Reception.{Reception}
use Rattle.registry_core.specs.declared.facts.Session.{Session}
use Rattle.registry_core.specs.declared.facts.Uplink.{Uplink}
use Rattle.registry_core.specs.declared.frames.DataFrame.{DataFrame}
use Rattle.registry_core.specs.Bookings.{downlinks_in, limit_standing}
use Rattle.registry_core.specs.Derived.{address_of, is_above, is_data_of, is_session_of, last_nonce}
use Rattle.registry_core.specs.Frames.{data_up}
use Rattle.registry_core.specs.Fits.{Fits}
use Rattle.registry_core.specs.Numbered.{item_at}
use Rattle.registry_core.specs.Settings.{Settings}
use Rattle.registry_core.specs.State.{State, next_uplink, opening, receptions_with, state_with}
use Rattle.registry_core.proofs.Receptions.{HasReception, each_reception, reception_stays, reception_was}
use Rattle.registry_core.proofs.Items.{above_each, item_last, item_new, item_stays, item_within, rise_with}

-- ---- nonces rise

abbrev pub NoncesRiseIn : List Session → Type 0
NoncesRiseIn sessions = (m n : ℕ) (a b : Session) → item_at sessions m ≡ Some a → item_at sessions n ≡ Some b → a.device ≡ b.device → m < n → a.nonce < b.nonce

nonces_rise_with : (sessions : List Session) (new : Session) → NoncesRiseIn sessions → is_above new.nonce (last_nonce sessions new.device) ≡ true → NoncesRiseIn (sessions ++ new ∷ [])
nonces_rise_with sessions new rise above = rise_with (λ (a : Session). a.nonce) (λ (a b : Session). a.device ≡ b.device) sessions new rise
    (λ m a there same. above_each (λ (z : Session). z.nonce) (is_session_of new.device) sessions new.nonce m a there (eq-eqb a.device new.device same) above)

-- ---- a session has one join, and its counters rise

abbrev pub JoinsAreApartIn : List Uplink → Type 0
JoinsAreApartIn uplinks = (m n : ℕ) (u v : Uplink) → item_at uplinks m ≡ Some u → item_at uplinks n ≡ Some v → u.kind ≡ Join → v.kind ≡ Join → u.session ≡ v.session → m ≡ n

abbrev pub CountersRiseIn : List Uplink → Type 0
CountersRiseIn uplinks = (m n : ℕ) (u v : Uplink) → item_at uplinks m ≡ Some u → item_at uplinks n ≡ Some v → u.kind ≡ Data → v.kind ≡ Data → u.session ≡ v.session → m < n → u.counter < v.counter

joins_apart_with : (uplinks : List Uplink) (new : Uplink) → JoinsAreApartIn uplinks
    → ((n : ℕ) (u : Uplink) → item_at uplinks n ≡ Some u → new.kind ≡ Join → u.session ≡ new.session → ⊥) → JoinsAreApartIn (uplinks ++ new ∷ [])
joins_apart_with uplinks new apart fresh m n u v em en ju jv same = both (item_last uplinks new m u em) (item_last uplinks new n v en)
  where
    both : (item_at uplinks m ≡ Some u) ⊎ ((m ≡ length uplinks + 1) × (new ≡ u)) → (item_at uplinks n ≡ Some v) ⊎ ((n ≡ length uplinks + 1) × (new ≡ v)) → m ≡ n
    both (inl x) (inl y) = apart m n u v x y ju jv same
    both (inl x) (inr y) = absurd (fresh m u x (ap (λ (z : Uplink). z.kind) y.1 ∙ jv) (same ∙ sym (ap (λ (z : Uplink). z.session) y.1)))
    both (inr x) (inl y) = absurd (fresh n v y (ap (λ (z : Uplink). z.kind) x.1 ∙ ju) (sym same ∙ sym (ap (λ (z : Uplink). z.session) x.1)))
    both (inr x) (inr y) = x.0 ∙ sym y.0

counters_rise_with : (uplinks : List Uplink) (new : Uplink) → CountersRiseIn uplinks
    → ((n : ℕ) (u : Uplink) → item_at uplinks n ≡ Some u → new.kind ≡ Data → u.kind ≡ Data → u.session ≡ new.session → u.counter < new.counter) → CountersRiseIn (uplinks ++ new ∷ [])
counters_rise_with uplinks new rise above m n u v em en du dv same lt =
    rise_with (λ (z : Uplink). z.counter) (λ (x y : Uplink). (x.kind ≡ Data) × (y.kind ≡ Data) × (x.session ≡ y.session)) uplinks new
    (λ i j x y ex ey alike. rise i j x y ex ey alike.0 alike.1 alike.2) (λ i x ex alike. above i x ex alike.1 alike.0 alike.2) m n u v em en (du, dv, same) lt

never_kinds : {X : Type 0} (k : Kind) → k ≡ Join → k ≡ Data → X
never_kinds k j d = let e : Join ≡ Data = sym j ∙ d in cc

-- the uplink's session has its counter as its nonce
abbrev pub HasNonce : List Session → Uplink → Type 0
HasNonce sessions u = (a : Session) × (item_at sessions u.session ≡ Some a) × (a.nonce ≡ u.counter)

-- a data uplink's frame has its session's address and the low bits of its counter
abbrev pub IsFrameOf : Settings → Uplink → Type 0
IsFrameOf c u = (frame : DataFrame) × (data_up (frame_of u.octets) ≡ Some frame) × (frame.addr ≡ address_of c u.session) × (frame.fcnt % 65536 ≡ u.counter % 65536)

-- ---- the invariant of every state

-- what the gateway received lies in a band
abbrev pub IsInBand : Reception → Type 0
IsInBand reception = IsTrue (is_some (band_at reception.rate.freq reception.rate.dr))

-- a time on air of a downlink that its data rate carries
abbrev pub IsTimeDown : ℕ → Type 0
IsTimeDown time = (dr : DataRate) × (n : ℕ) × (n ≤ max_length dr) × (time ≡ airtime_of dr n false)

-- over the parts of a state
pub record IsSoundOf (c : Settings) (all_sessions : List Session) (uplinks : List Uplink) (receptions : ℕ → List ℕ → Option Reception) : Type 0 where
  -- each session has an address
  pub block : length all_sessions ≤ c.addresses
  pub nonces : NoncesRiseIn all_sessions
  -- each uplink has a session, and a reception
  pub sessions : (n : ℕ) (u : Uplink) → item_at uplinks n ≡ Some u → (1 ≤ u.session) × (u.session ≤ length all_sessions)
  pub copied : (n : ℕ) (u : Uplink) → item_at uplinks n ≡ Some u → HasReception receptions n
  pub joins : JoinsAreApartIn uplinks
  pub join_nonces : (n : ℕ) (u : Uplink) → item_at uplinks n ≡ Some u → u.kind ≡ Join → HasNonce all_sessions u
  pub counters : CountersRiseIn uplinks
  pub frames : (n : ℕ) (u : Uplink) → item_at uplinks n ≡ Some u → u.kind ≡ Data → IsFrameOf c u
  -- copies are of uplinks that are there, and lie in bands
  pub of_uplinks : (n : ℕ) (gateway : List ℕ) (reception : Reception) → receptions n gateway ≡ Some reception → n ≤ length uplinks
  pub in_bands : (n : ℕ) (gateway : List ℕ) (reception : Reception) → receptions n gateway ≡ Some reception → IsInBand reception

-- of the state nothing else is asked
abbrev pub IsSound : Settings → State → Type 0
IsSound c s = IsSoundOf c s.sessions s.uplinks s.receptions

pub opening_sound : (c : Settings) → IsSound c (opening c)
opening_sound c = record {
  block = omega arith;
  nonces = λ m n a b em en same lt. absurd (omega (arith, item_within [] m a em));
  sessions = λ n u e. absurd (omega (arith, item_within [] n u e));
  copied = λ n u e. absurd (omega (arith, item_within [] n u e));
  joins = λ m n u v em en ju jv same. absurd (omega (arith, item_within [] m u em));
  join_nonces = λ n u e j. absurd (omega (arith, item_within [] n u e));
  counters = λ m n u v em en du dv same lt. absurd (omega (arith, item_within [] m u em));
  frames = λ n u e d. absurd (omega (arith, item_within [] n u e));
  of_uplinks = λ n gateway reception e. cc;
  in_bands = λ n gateway reception e. cc;
}

-- What a change may be: it fits; a session has an address, and a data uplink is one of its frames; receptions are in bands; a booking has a
-- downlink's time on air, and every hour stays within the limit with it; and every hour is within a limit that is set.
abbrev pub IsAllowed : Settings → State → Effect → Type 0
IsAllowed c s (AddsSession session uplink gateway reception) = Fits (AddsSession session uplink gateway reception) s × (length s.sessions < c.addresses) × IsInBand reception
IsAllowed c s (AddsUplink uplink gateway reception) = Fits (AddsUplink uplink gateway reception) s × IsFrameOf c uplink × IsInBand reception
IsAllowed c s (AddsReception number gateway reception) = Fits (AddsReception number gateway reception) s × IsInBand reception
IsAllowed c s (AddsBooking booking) = Fits (AddsBooking booking) s × IsTimeDown booking.span.len
    × IsTrue (hours_within (downlinks_in s.bookings booking.gateway booking.band ++ booking.span ∷ []) (limit_standing s booking.gateway booking.band))
IsAllowed c s (SetsLimit gateway limit) = Fits (SetsLimit gateway limit) s × IsTrue (hours_within (downlinks_in s.bookings gateway limit.band) limit.most)
IsAllowed c s effect = Fits effect s

-- ---- one more uplink, with its first reception

-- each uplink has a reception, the new one too
new_copied : (uplinks : List Uplink) (receptions : ℕ → List ℕ → Option Reception) (u : Uplink) (gateway : List ℕ) (reception : Reception) → ((n : ℕ) (v : Uplink) → item_at uplinks n ≡ Some v → HasReception receptions n)
    → (n : ℕ) (v : Uplink) → item_at (uplinks ++ u ∷ []) n ≡ Some v → HasReception (receptions_with receptions (length uplinks + 1) gateway reception) n
new_copied uplinks receptions u gateway reception all n v e = reception_stays receptions (length uplinks + 1) gateway reception n (n == length uplinks + 1) refl (has (item_last uplinks u n v e))
  where
    has : (item_at uplinks n ≡ Some v) ⊎ ((n ≡ length uplinks + 1) × (u ≡ v)) → HasReception receptions n ⊎ (n ≡ length uplinks + 1)
    has (inl old) = inl (all n v old)
    has (inr new) = inr new.0

-- and copies are of uplinks that are there
new_of_uplinks : (uplinks : List Uplink) (receptions : ℕ → List ℕ → Option Reception) (u : Uplink) (gateway : List ℕ) (reception : Reception) → ((n : ℕ) (at : List ℕ) (r : Reception) → receptions n at ≡ Some r → n ≤ length uplinks)
    → (n : ℕ) (at : List ℕ) (r : Reception) → receptions_with receptions (length uplinks + 1) gateway reception n at ≡ Some r → n ≤ length (uplinks ++ u ∷ [])
new_of_uplinks uplinks receptions u gateway reception all n at r e = within (reception_was receptions (length uplinks + 1) gateway reception n at r (n == length uplinks + 1) refl e)
  where
    within : (receptions n at ≡ Some r) ⊎ (n ≡ length uplinks + 1) → n ≤ length (uplinks ++ u ∷ [])
    within (inl old) = omega (arith, length_push uplinks u, all n at r old)
    within (inr new) = omega (arith, length_push uplinks u, new)

-- ---- each change leaves the invariant true

session_sound : (c : Settings) (s : State) (session : Session) (u : Uplink) (gateway : List ℕ) (reception : Reception) → IsSound c s → IsAllowed c s (AddsSession session u gateway reception)
    → IsSound c (state_with s (AddsSession session u gateway reception))
session_sound c s session u gateway reception h k = record {
  block = omega (arith, length_push s.sessions session, k.1);
  nonces = nonces_rise_with s.sessions session h.nonces k.0.nonce;
  sessions = λ n v e. numbers n v (item_last s.uplinks u n v e);
  copied = new_copied s.uplinks s.receptions u gateway reception h.copied;
  joins = joins_apart_with s.uplinks u h.joins (λ n v there join same. omega (arith, same, k.0.number, (h.sessions n v there).1));
  join_nonces = λ n v e j. nonce n v j (item_last s.uplinks u n v e);
  counters = counters_rise_with s.uplinks u h.counters (λ n v there d _ _. never_kinds u.kind k.0.kind d);
  frames = λ n v e d. frame n v d (item_last s.uplinks u n v e);
  of_uplinks = new_of_uplinks s.uplinks s.receptions u gateway reception h.of_uplinks;
  in_bands = λ n at r e. each_reception IsInBand s.receptions (next_uplink s) gateway reception n at r (n == next_uplink s) h.in_bands k.2 refl e;
}
  where
    nonce : (n : ℕ) (v : Uplink) → v.kind ≡ Join → (item_at s.uplinks n ≡ Some v) ⊎ ((n ≡ length s.uplinks + 1) × (u ≡ v)) → HasNonce (s.sessions ++ session ∷ []) v
    nonce n v j (inl old) = let was = h.join_nonces n v old j in (was.0, item_stays s.sessions session v.session was.0 was.1, was.2)
    nonce n v j (inr new) = subst (HasNonce (s.sessions ++ session ∷ [])) new.1 (session, item_new s.sessions session u.session k.0.number, sym k.0.counter)

    frame : (n : ℕ) (v : Uplink) → v.kind ≡ Data → (item_at s.uplinks n ≡ Some v) ⊎ ((n ≡ length s.uplinks + 1) × (u ≡ v)) → IsFrameOf c v
    frame n v d (inl old) = h.frames n v old d
    frame n v d (inr new) = never_kinds v.kind (ap (λ (z : Uplink). z.kind) (sym new.1) ∙ k.0.kind) d

    numbers : (n : ℕ) (v : Uplink) → (item_at s.uplinks n ≡ Some v) ⊎ ((n ≡ length s.uplinks + 1) × (u ≡ v)) → (1 ≤ v.session) × (v.session ≤ length (s.sessions ++ session ∷ []))
    numbers n v (inl old) = let was = h.sessions n v old in (was.0, omega (arith, length_push s.sessions session, was.1))
    numbers n v (inr new) = subst (λ (w : Uplink). (1 ≤ w.session) × (w.session ≤ length (s.sessions ++ session ∷ []))) new.1
        (omega (arith, k.0.number), omega (arith, length_push s.sessions session, k.0.number))

uplink_sound : (c : Settings) (s : State) (u : Uplink) (gateway : List ℕ) (reception : Reception) → IsSound c s → IsAllowed c s (AddsUplink u gateway reception)
    → IsSound c (state_with s (AddsUplink u gateway reception))
uplink_sound c s u gateway reception h k = record {
  block = h.block;
  nonces = h.nonces;
  sessions = λ n v e. numbers n v (item_last s.uplinks u n v e);
  copied = new_copied s.uplinks s.receptions u gateway reception h.copied;
  joins = joins_apart_with s.uplinks u h.joins (λ n v there join same. never_kinds u.kind join k.0.kind);
  join_nonces = λ n v e j. nonce n v j (item_last s.uplinks u n v e);
  counters = counters_rise_with s.uplinks u h.counters (λ n v there _ d same.
      above_each (λ (z : Uplink). z.counter) (is_data_of u.session) s.uplinks u.counter n v there (data_of v d same) k.0.counter);
  frames = λ n v e d. frame n v d (item_last s.uplinks u n v e);
  of_uplinks = new_of_uplinks s.uplinks s.receptions u gateway reception h.of_uplinks;
  in_bands = λ n at r e. each_reception IsInBand s.receptions (next_uplink s) gateway reception n at r (n == next_uplink s) h.in_bands k.2 refl e;
}
  where
    nonce : (n : ℕ) (v : Uplink) → v.kind ≡ Join → (item_at s.uplinks n ≡ Some v) ⊎ ((n ≡ length s.uplinks + 1) × (u ≡ v)) → HasNonce s.sessions v
    nonce n v j (inl old) = h.join_nonces n v old j
    nonce n v j (inr new) = never_kinds v.kind j (ap (λ (z : Uplink). z.kind) (sym new.1) ∙ k.0.kind)

    data_of : (v : Uplink) → v.kind ≡ Data → v.session ≡ u.session → is_data_of u.session v ≡ true
    data_of v d same = rw (d, eq-eqb v.session u.session same) refl

    frame : (n : ℕ) (v : Uplink) → v.kind ≡ Data → (item_at s.uplinks n ≡ Some v) ⊎ ((n ≡ length s.uplinks + 1) × (u ≡ v)) → IsFrameOf c v
    frame n v d (inl old) = h.frames n v old d
    frame n v d (inr new) = subst (IsFrameOf c) new.1 k.1

    at_session : (found : Option Session) → item_at s.sessions u.session ≡ found → is_some found ≡ true → (1 ≤ u.session) × (u.session ≤ length s.sessions)
    at_session (Some x) e h = item_within s.sessions u.session x e
    at_session None e h = cc

    numbers : (n : ℕ) (v : Uplink) → (item_at s.uplinks n ≡ Some v) ⊎ ((n ≡ length s.uplinks + 1) × (u ≡ v)) → (1 ≤ v.session) × (v.session ≤ length s.sessions)
    numbers n v (inl old) = h.sessions n v old
    numbers n v (inr new) = subst (λ (w : Uplink). (1 ≤ w.session) × (w.session ≤ length s.sessions)) new.1 (at_session (item_at s.sessions u.session) refl k.0.session)

reception_sound : (c : Settings) (s : State) (number : ℕ) (gateway : List ℕ) (reception : Reception) → IsSound c s → IsAllowed c s (AddsReception number gateway reception)
    → IsSound c (state_with s (AddsReception number gateway reception))
reception_sound c s number gateway reception h k = record {
  block = h.block;
  nonces = h.nonces;
  sessions = h.sessions;
  joins = h.joins;
  join_nonces = h.join_nonces;
  counters = h.counters;
  frames = h.frames;
  copied = λ n v e. reception_stays s.receptions number gateway reception n (n == number) refl (inl (h.copied n v e));
  of_uplinks = λ n at r e. within n at r (reception_was s.receptions number gateway reception n at r (n == number) refl e);
  in_bands = λ n at r e. each_reception IsInBand s.receptions number gateway reception n at r (n == number) h.in_bands k.1 refl e;
}
  where
    there : (found : Option Uplink) → item_at s.uplinks number ≡ found → is_some found ≡ true → number ≤ length s.uplinks
    there (Some u) e h = (item_within s.uplinks number u e).1
    there None e h = cc

    within : (n : ℕ) (at : List ℕ) (r : Reception) → (s.receptions n at ≡ Some r) ⊎ (n ≡ number) → n ≤ length s.uplinks
    within n at r (inl old) = h.of_uplinks n at r old
    within n at r (inr same) = omega (arith, same, there (item_at s.uplinks number) refl k.0.uplink)

pub change_sound : (c : Settings) (s : State) (effect : Effect) → IsSound c s → IsAllowed c s effect → IsSound c (state_with s effect)
change_sound c s (AddsSession session u gateway reception) h k = session_sound c s session u gateway reception h k
change_sound c s (AddsUplink u gateway reception) h k = uplink_sound c s u gateway reception h k
change_sound c s (AddsReception number gateway reception) h k = reception_sound c s number gateway reception h k
change_sound c s effect h k = h
