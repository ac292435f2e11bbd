-- No hour has more booked airtime than its limit, and no downlink is longer than the distance that makes one near, whatever was heard.
use Rattle.std.proofs.Common.{◌≡◌, ℕ, zero, suc, ◌+◌, ◌≤◌, List, [], ◌∷◌, ◌++◌, map, filter, Bool, true, false, cond, Some, refl, sym, ◌∙◌, ap, subst, arith, if◌then◌else◌}
use Rattle.std.specs.Prelude.{ℤ, ◌==◌, ◌&&◌, not, bytes_eq}
use Rattle.std.specs.List.{AllByRecursion}
use Rattle.std.proofs.lemmas.Bool.{and_parts, eqb-true}
use Rattle.std.proofs.lemmas.List.Sums.{sum_by-cons, sum_by_push}
use Rattle.std.proofs.lemmas.Option.{same_Some}
use Rattle.std.proofs.lemmas.Slice.Eq.{bytes_eq-Decides}
use Rattle.radio_core.specs.declared.bands.Band.{Band}
use Rattle.radio_core.specs.Bands.{band_number}
use Rattle.radio_core.specs.TimeOnAir.{AirtimeIsBounded}
use Rattle.duty_core.specs.Computed.{hours_within}
use Rattle.duty_core.specs.Laws.{HoursWithinTells}
use Rattle.duty_core.specs.Near.{greatest_length}
use Rattle.duty_core.specs.Use.{EveryHourWithin, hour_from, shared_count, use_of}
use Rattle.registry_core.specs.declared.effects.Effect.{Effect}
use Rattle.registry_core.specs.declared.effects.Effect.TheVariants.{AddsBooking, EndsBooking, SetsLimit}
use Rattle.registry_core.specs.declared.facts.Booking.{Booking}
use Rattle.registry_core.specs.declared.facts.Standing.{Standing}
use Rattle.registry_core.specs.declared.facts.Standing.TheVariants.{Booked, Sent, Dropped}
use Rattle.registry_core.specs.declared.messages.Envelope.{Envelope}
use Rattle.registry_core.specs.Bookings.{downlinks_in, is_dropped, limit_standing, stands_at, stands_in}
use Rattle.registry_core.specs.Heard.{state_of}
use Rattle.registry_core.specs.Limits.{Limit}
use Rattle.registry_core.specs.Numbered.{item_at, item_changed, place_changed}
use Rattle.registry_core.specs.Settings.{Settings}
use Rattle.registry_core.specs.State.{State, ended, state_with, with_limit}
use Rattle.registry_core.specs.Step.{decision_of}
use Rattle.registry_core.proofs.BandNumbers.{same_band}
use Rattle.registry_core.proofs.Decisions.{whatever_heard}
use Rattle.registry_core.proofs.HeardStates.{IsAllowed}

-- the use of an hour by the bookings that pass a test
abbrev pub use_by : (Booking → Bool) → List Booking → ℤ → ℕ
use_by p bs t = use_of (map (λ b. b.span) (filter p bs)) t

abbrev pub AreShort : List Booking → Type 0
AreShort bs = AllByRecursion (λ b. b.span.len ≤ greatest_length) bs

pub record IsKept (s : State) : Type 0 where
  pub short : AreShort s.bookings
  pub hours : (gateway : List ℕ) (band : Band) (t : ℤ) → use_by (stands_in gateway band) s.bookings t ≤ limit_standing s gateway band

-- ---- one booking more

use_by-cons : (p : Booking → Bool) (b : Booking) (bs : List Booking) (t : ℤ) (v : Bool) → p b ≡ v → use_by p (b ∷ bs) t ≡ cond v (shared_count b.span (hour_from t)) 0 + use_by p bs t
use_by-cons p b bs t true e = ap (λ v. use_of (map (λ (x : Booking). x.span) (cond v (b ∷ filter p bs) (filter p bs))) t) e
    ∙ sum_by-cons (λ a. shared_count a (hour_from t)) b.span (map (λ (x : Booking). x.span) (filter p bs))
use_by-cons p b bs t false e = ap (λ v. use_of (map (λ (x : Booking). x.span) (cond v (b ∷ filter p bs) (filter p bs))) t) e ∙ omega arith

use_by-last : (p : Booking → Bool) (bs : List Booking) (b : Booking) (t : ℤ) (v : Bool) → p b ≡ v → use_by p (bs ++ b ∷ []) t ≡ use_by p bs t + cond v (shared_count b.span (hour_from t)) 0
use_by-last p [] b t v e = use_by-cons p b [] t v e ∙ omega arith
use_by-last p (x ∷ bs) b t v e = use_by-cons p x (bs ++ b ∷ []) t (p x) refl ∙ omega (arith, use_by-last p bs b t v e, use_by-cons p x bs t (p x) refl)

short_last : (bs : List Booking) (b : Booking) → AreShort bs → b.span.len ≤ greatest_length → AreShort (bs ++ b ∷ [])
short_last [] b h k = (k, tt)
short_last (x ∷ bs) b h k = (h.0, short_last bs b h.1 k)

added_hours : (s : State) (b : Booking) (gateway : List ℕ) (band : Band) (t : ℤ) (v : Bool) → stands_in gateway band b ≡ v → use_by (stands_in gateway band) s.bookings t ≤ limit_standing s gateway band
    → EveryHourWithin (downlinks_in s.bookings b.gateway b.band ++ b.span ∷ []) (limit_standing s b.gateway b.band) → use_by (stands_in gateway band) (s.bookings ++ b ∷ []) t ≤ limit_standing s gateway band
added_hours s b gateway band t true e old new =
    let told : (stands_at gateway b ≡ true) × ((band_number b.band == band_number band) ≡ true) = and_parts _ _ e in
    let at_gateway : (bytes_eq b.gateway gateway ≡ true) × (not (is_dropped b.standing) ≡ true) = and_parts _ _ told.0 in
    let in_both : EveryHourWithin (downlinks_in s.bookings gateway band ++ b.span ∷ []) (limit_standing s gateway band) =
    subst (λ x. EveryHourWithin (downlinks_in s.bookings gateway x ++ b.span ∷ []) (limit_standing s gateway x)) (same_band b.band band (eqb-true _ _ told.1))
    (subst (λ x. EveryHourWithin (downlinks_in s.bookings x b.band ++ b.span ∷ []) (limit_standing s x b.band)) ((bytes_eq-Decides b.gateway gateway).0 at_gateway.0) new) in
    omega (arith, use_by-last (stands_in gateway band) s.bookings b t true e, in_both t, sum_by_push (λ a. shared_count a (hour_from t)) (downlinks_in s.bookings gateway band) b.span)
added_hours s b gateway band t false e old new = omega (arith, use_by-last (stands_in gateway band) s.bookings b t false e, old)

-- ---- one booking ended

-- how much a booking counts in an hour, by its state
abbrev weight : List ℕ → Band → Booking → ℤ → Standing → ℕ
weight gateway band b t standing = cond (bytes_eq b.gateway gateway && not (is_dropped standing) && band_number b.band == band_number band) (shared_count b.span (hour_from t)) 0

none_less : (v w : Bool) (n : ℕ) → cond (v && false && w) n 0 ≤ cond (v && true && w) n 0
none_less true w n = omega arith
none_less false w n = omega arith

-- sent, it weighs as booked, and dropped nothing
no_heavier : (gateway : List ℕ) (band : Band) (b : Booking) (t : ℤ) (standing : Standing) → weight gateway band b t standing ≤ weight gateway band b t Booked
no_heavier gateway band b t Booked = omega arith
no_heavier gateway band b t Sent = omega arith
no_heavier gateway band b t Dropped = none_less (bytes_eq b.gateway gateway) (band_number b.band == band_number band) (shared_count b.span (hour_from t))

ended_weight : (gateway : List ℕ) (band : Band) (b : Booking) (sent : Bool) (t : ℤ) → b.standing ≡ Booked
    → cond (stands_in gateway band (ended sent b)) (shared_count b.span (hour_from t)) 0 ≤ cond (stands_in gateway band b) (shared_count b.span (hour_from t)) 0
ended_weight gateway band b sent t booked = subst (λ standing. weight gateway band b t (ended sent b).standing ≤ weight gateway band b t standing) (sym booked) (no_heavier gateway band b t (ended sent b).standing)

place_hours : (gateway : List ℕ) (band : Band) (sent : Bool) (t : ℤ) (bs : List Booking) (n : ℕ) (b : Booking) → item_at bs (suc n) ≡ Some b → b.standing ≡ Booked
    → use_by (stands_in gateway band) (place_changed (ended sent) bs n) t ≤ use_by (stands_in gateway band) bs t
place_hours gateway band sent t [] n b there booked = omega arith
place_hours gateway band sent t (x ∷ bs) zero b there booked =
    let p : Booking → Bool = stands_in gateway band in
    omega (
      arith,
      ended_weight gateway band x sent t (ap (λ (y : Booking). y.standing) (same_Some x b there) ∙ booked),
      use_by-cons p (ended sent x) bs t (p (ended sent x)) refl,
      use_by-cons p x bs t (p x) refl,
    )
place_hours gateway band sent t (x ∷ bs) (suc n) b there booked =
    let p : Booking → Bool = stands_in gateway band in
    omega (
      arith,
      place_hours gateway band sent t bs n b there booked,
      use_by-cons p x (place_changed (ended sent) bs n) t (p x) refl,
      use_by-cons p x bs t (p x) refl,
    )

ended_hours : (gateway : List ℕ) (band : Band) (sent : Bool) (t : ℤ) (bs : List Booking) (number : ℕ) (b : Booking) → item_at bs number ≡ Some b → b.standing ≡ Booked
    → use_by (stands_in gateway band) (item_changed (ended sent) bs number) t ≤ use_by (stands_in gateway band) bs t
ended_hours gateway band sent t bs zero b there booked = omega arith
ended_hours gateway band sent t bs (suc n) b there booked = place_hours gateway band sent t bs n b there booked

place_short : (sent : Bool) (bs : List Booking) (n : ℕ) → AreShort bs → AreShort (place_changed (ended sent) bs n)
place_short sent [] n h = tt
place_short sent (x ∷ bs) zero h = h
place_short sent (x ∷ bs) (suc n) h = (h.0, place_short sent bs n h.1)

ended_short : (sent : Bool) (bs : List Booking) (number : ℕ) → AreShort bs → AreShort (item_changed (ended sent) bs number)
ended_short sent bs zero h = h
ended_short sent bs (suc n) h = place_short sent bs n h

-- ---- one limit set

-- the limit of a gateway's band: the one that is set, where it is for that
pub limit_after : (s : State) (at : List ℕ) (limit : Limit) (gateway : List ℕ) (band : Band) (named same : Bool) → bytes_eq gateway at ≡ named → (band_number band == band_number limit.band) ≡ same
    → limit_standing (with_limit s at limit) gateway band ≡ (if named && same then limit.most else limit_standing s gateway band)
limit_after s at limit gateway band true true is by = rw (is, by) refl
limit_after s at limit gateway band true false is by = rw (is, by) (ap (λ x. limit_standing s x band) (sym ((bytes_eq-Decides gateway at).0 is)))
limit_after s at limit gateway band false same is by = rw is refl

set_hours : HoursWithinTells → (s : State) (at : List ℕ) (limit : Limit) (gateway : List ℕ) (band : Band) (t : ℤ) (named same : Bool) → bytes_eq gateway at ≡ named → (band_number band == band_number limit.band) ≡ same
    → hours_within (downlinks_in s.bookings at limit.band) limit.most ≡ true → use_by (stands_in gateway band) s.bookings t ≤ limit_standing s gateway band
    → use_by (stands_in gateway band) s.bookings t ≤ (if named && same then limit.most else limit_standing s gateway band)
set_hours tells s at limit gateway band t true true is by within old =
    subst (λ x. use_by (stands_in x band) s.bookings t ≤ limit.most) (sym ((bytes_eq-Decides gateway at).0 is))
    (subst (λ x. use_by (stands_in at x) s.bookings t ≤ limit.most) (sym (same_band band limit.band (eqb-true _ _ by)))
    ((tells (downlinks_in s.bookings at limit.band) limit.most).0 within t))
set_hours tells s at limit gateway band t true false is by within old = old
set_hours tells s at limit gateway band t false same is by within old = old

-- ---- each change

change_kept : (bounded : AirtimeIsBounded) (tells : HoursWithinTells) (c : Settings) (s : State) (effect : Effect) → IsAllowed c s effect → IsKept s → IsKept (state_with s effect)
change_kept bounded tells c s (AddsBooking b) k h = record {
  short = short_last s.bookings b h.short (omega (arith, bounded k.1.0 k.1.1 false k.1.2, k.1.3));
  hours = λ gateway band t. added_hours s b gateway band t (stands_in gateway band b) refl (h.hours gateway band t) ((tells (downlinks_in s.bookings b.gateway b.band ++ b.span ∷ []) (limit_standing s b.gateway b.band)).0 k.2);
}
change_kept bounded tells c s (EndsBooking number sent) k h = record {
  short = ended_short sent s.bookings number h.short;
  hours = λ gateway band t. omega (arith, ended_hours gateway band sent t s.bookings number k.booking k.there k.standing, h.hours gateway band t);
}
change_kept bounded tells c s (SetsLimit at limit) k h = record {
  short = h.short;
  hours = λ gateway band t.
      let named : Bool = bytes_eq gateway at in
      let same : Bool = band_number band == band_number limit.band in
      subst (λ most. use_by (stands_in gateway band) s.bookings t ≤ most) (sym (limit_after s at limit gateway band named same refl refl))
      (set_hours tells s at limit gateway band t named same refl refl k.1 (h.hours gateway band t));
}
change_kept bounded tells c s effect k h = record { short = h.short; hours = h.hours }

pub kept_of : (bounded : AirtimeIsBounded) (tells : HoursWithinTells) (c : Settings) (heard : List Envelope) → IsKept (state_of c heard)
kept_of bounded tells c = whatever_heard c IsKept (record { short = tt; hours = λ gateway band t. omega arith }) (λ s e allowed h. change_kept bounded tells c s (decision_of c s e).0 allowed h)
