-- Limits that operators set: which are set, and what they do.
use Rattle.std.proofs.Common.{◌≡◌, ℕ, ◌≤◌, List, [], ◌∷◌, ◌++◌, Bool, true, false, Option, Some, None, Ok, refl, sym, ◌∙◌, ap, subst, arith, if◌then◌else◌}
use Rattle.std.specs.Prelude.{◌==◌, ◌≢◌, ◌&&◌, bytes_eq}
use Rattle.std.specs.Option.{option_map_or, option_or}
use Rattle.std.proofs.lemmas.Bool.{eq-eqb, eqb-true}
use Rattle.std.proofs.lemmas.Slice.Eq.{bytes_eq-Decides}
use Rattle.radio_core.specs.declared.bands.Band.{Band}
use Rattle.radio_core.specs.Bands.{band_number, limit_of}
use Rattle.duty_core.specs.Computed.{hours_within}
use Rattle.duty_core.specs.Laws.{HoursWithinTells}
use Rattle.registry_core.specs.declared.answers.Answer.TheVariants.{Success}
use Rattle.registry_core.specs.declared.answers.Refusal.TheVariants.{WrongRole, UnknownGateway, Duty}
use Rattle.registry_core.specs.declared.effects.Effect.{Effect}
use Rattle.registry_core.specs.declared.effects.Effect.TheVariants.{SetsLimit}
use Rattle.registry_core.specs.declared.messages.Envelope.{Envelope}
use Rattle.registry_core.specs.declared.messages.Message.{Message}
use Rattle.registry_core.specs.declared.messages.Message.TheVariants.{LimitSet}
use Rattle.registry_core.specs.Administration.{is_operator, limit_set}
use Rattle.registry_core.specs.Bookings.{downlinks_in, limit_standing}
use Rattle.registry_core.specs.Checks.{◌>>◌, wants}
use Rattle.registry_core.specs.Decision.{Decision, decision_or_refusal}
use Rattle.registry_core.specs.Heard.{AreHeard, answers_after, state_after}
use Rattle.registry_core.specs.LimitLaws.{LastLimitStands, LimitsAreWithin, OtherLimitsStay, SetExactly, SetLimitsStand, is_success, last_limit, limit_accepted, limit_named}
use Rattle.registry_core.specs.Limits.{Limit}
use Rattle.registry_core.specs.Ranges.{IsMessage}
use Rattle.registry_core.specs.Settings.{Settings}
use Rattle.registry_core.specs.State.{State, opening, state_with, with_limit}
use Rattle.registry_core.specs.Step.{checked_decision, decision_of, step}
use Rattle.registry_core.proofs.BandNumbers.{same_band}
use Rattle.registry_core.proofs.BookedHours.{limit_after}
use Rattle.registry_core.proofs.EveryMessage.{IsFrom, is_from}

-- ---- which are set

-- the checks in a row, by how they come out
abbrev checked_by : (operator known within : Bool) → List ℕ → Limit → Decision
checked_by operator known within gateway limit = decision_or_refusal do
  wants operator WrongRole
  wants known UnknownGateway
  wants within Duty
  Ok (SetsLimit gateway limit, Success)

record AllHold (operator known within : Bool) : Type 0 where
  is_operator : operator ≡ true
  is_known : known ≡ true
  is_within : within ≡ true

all_hold : (operator known within : Bool) (gateway : List ℕ) (limit : Limit) → (checked_by operator known within gateway limit).1 ≡ Success → AllHold operator known within
all_hold true true true gateway limit h = record { is_operator = refl; is_known = refl; is_within = refl }
all_hold true true false gateway limit h = cc
all_hold true false within gateway limit h = cc
all_hold false known within gateway limit h = cc

-- what its step decides
decided : (c : Settings) (s : State) (e : Envelope) (gateway : List ℕ) (limit : Limit) → e.message ≡ LimitSet gateway limit
    → decision_of c s e ≡ checked_by (is_operator (s.senders e.sender)) (s.gateways gateway) (hours_within (downlinks_in s.bookings gateway limit.band) limit.most) gateway limit
unfolding limit_set
decided c s e gateway limit same = ap (λ m. decision_or_refusal (checked_decision c s e m)) same

held : (c : Settings) (s : State) (e : Envelope) (gateway : List ℕ) (limit : Limit) → e.message ≡ LimitSet gateway limit → (step c s e).1 ≡ Success
    → AllHold (is_operator (s.senders e.sender)) (s.gateways gateway) (hours_within (downlinks_in s.bookings gateway limit.band) limit.most)
held c s e gateway limit same h = all_hold _ _ _ gateway limit (sym (ap (λ (d : Decision). d.1) (decided c s e gateway limit same)) ∙ h)

pub set_exactly : HoursWithinTells → SetExactly
set_exactly tells c s e gateway limit same = (
  λ h. let all = held c s e gateway limit same h in
      record { operator = all.is_operator; known = all.is_known; hours = (tells (downlinks_in s.bookings gateway limit.band) limit.most).0 all.is_within },
  λ is. ap (λ (d : Decision). d.1) (decided c s e gateway limit same)
      ∙ rw (is.operator, is.known, (tells (downlinks_in s.bookings gateway limit.band) limit.most).1 is.hours) refl,
)

-- ---- what they do

pub set_limits_stand : SetLimitsStand
set_limits_stand c s e gateway limit same h =
    let all = held c s e gateway limit same h in
    let sets : (decision_of c s e).0 ≡ SetsLimit gateway limit =
    ap (λ (d : Decision). d.0) (decided c s e gateway limit same) ∙ rw (all.is_operator, all.is_known, all.is_within) refl in
    ap (λ effect. limit_standing (state_with s effect) gateway limit.band) sets
    ∙ limit_after s gateway limit gateway limit.band true true ((bytes_eq-Decides gateway gateway).1 refl) (eq-eqb (band_number limit.band) (band_number limit.band) refl)

stays_by : (s : State) (at : List ℕ) (limit : Limit) (gateway : List ℕ) (band : Band) (named same : Bool) → bytes_eq gateway at ≡ named → (band_number band == band_number limit.band) ≡ same
    → (at ≡ gateway → limit.band ≢ band) → limit_standing (with_limit s at limit) gateway band ≡ limit_standing s gateway band
stays_by s at limit gateway band true true is by apart = absurd (apart (sym ((bytes_eq-Decides gateway at).0 is)) (sym (same_band band limit.band (eqb-true _ _ by))))
stays_by s at limit gateway band true false is by apart = limit_after s at limit gateway band true false is by
stays_by s at limit gateway band false same is by apart = limit_after s at limit gateway band false same is by

others_stay : (s : State) (operator : Bool) (m : Message) (effect : Effect) (gateway : List ℕ) (band : Band) → IsFrom operator m effect
    → ((limit : Limit) → m ≡ LimitSet gateway limit → limit.band ≢ band) → limit_standing (state_with s effect) gateway band ≡ limit_standing s gateway band
others_stay s operator m (SetsLimit at limit) gateway band k apart =
    stays_by s at limit gateway band (bytes_eq gateway at) (band_number band == band_number limit.band) refl refl (λ same. apart limit (k.1 ∙ ap (λ name. LimitSet name limit) same))
others_stay s operator m effect gateway band k apart = refl

pub other_limits_stay : OtherLimitsStay
other_limits_stay c s e gateway band apart = others_stay s (is_operator (s.senders e.sender)) e.message (decision_of c s e).0 gateway band (is_from c s e e.message) apart

-- ---- none is above the band's own

abbrev AreWithin : State → Type 0
AreWithin s = (gateway : List ℕ) (band : Band) → limit_standing s gateway band ≤ limit_of band

set_within : (s : State) (at : List ℕ) (limit : Limit) (gateway : List ℕ) (band : Band) (named same : Bool) → bytes_eq gateway at ≡ named → (band_number band == band_number limit.band) ≡ same
    → limit.most ≤ limit_of limit.band → limit_standing s gateway band ≤ limit_of band → limit_standing (with_limit s at limit) gateway band ≤ limit_of band
set_within s at limit gateway band true true is by new old =
    subst (λ most. most ≤ limit_of band) (sym (limit_after s at limit gateway band true true is by))
    (subst (λ b. limit.most ≤ limit_of b) (sym (same_band band limit.band (eqb-true _ _ by))) new)
set_within s at limit gateway band true false is by new old = subst (λ most. most ≤ limit_of band) (sym (limit_after s at limit gateway band true false is by)) old
set_within s at limit gateway band false same is by new old = subst (λ most. most ≤ limit_of band) (sym (limit_after s at limit gateway band false same is by)) old

one_within : (s : State) (operator : Bool) (m : Message) (effect : Effect) → IsFrom operator m effect → IsMessage m → AreWithin s → AreWithin (state_with s effect)
one_within s operator m (SetsLimit at limit) k is h = λ gateway band.
    set_within s at limit gateway band (bytes_eq gateway at) (band_number band == band_number limit.band) refl refl (let formed : IsMessage (LimitSet at limit) = subst IsMessage k.1 is in formed.1) (h gateway band)
one_within s operator m effect k is h = h

within_after : (c : Settings) (before es : List Envelope) (s : State) → AreHeard c before es → AreWithin s → AreWithin (state_after c s es)
within_after c before [] s each h = h
within_after c before (e ∷ es) s each h =
    within_after c (before ++ e ∷ []) es (step c s e).0 each.3
    (one_within s (is_operator (s.senders e.sender)) e.message (decision_of c s e).0 (is_from c s e e.message) each.0.message h)

pub limits_are_within : LimitsAreWithin
limits_are_within c heard gateway band list = within_after c [] heard _ list.each (λ at b. omega arith) gateway band

-- ---- the last one that was set

-- the one that is named later, or else the one before
abbrev standing_by : Option ℕ → ℕ → ℕ
standing_by named stood = option_map_or (λ most. most) named stood

later_or_earlier : (later earlier : Option ℕ) (stood : ℕ) → standing_by later (standing_by earlier stood) ≡ standing_by (option_or later earlier) stood
later_or_earlier (Some most) earlier stood = refl
later_or_earlier None earlier stood = refl

-- the limit by a LimitSet's change, by how its checks come out, and by whether it is for the gateway and the band
set_by : (s : State) (at : List ℕ) (limit : Limit) (gateway : List ℕ) (band : Band) (operator known within named same : Bool) → bytes_eq gateway at ≡ named → (band_number band == band_number limit.band) ≡ same
    → let decision : Decision = checked_by operator known within at limit in
    limit_standing (state_with s decision.0) gateway band
    ≡ standing_by (if is_success decision.1 then (if named && same then Some limit.most else None) else None) (limit_standing s gateway band)
set_by s at limit gateway band true true true true true is by = limit_after s at limit gateway band true true is by
set_by s at limit gateway band true true true true false is by = limit_after s at limit gateway band true false is by
set_by s at limit gateway band true true true false same is by = limit_after s at limit gateway band false same is by
set_by s at limit gateway band true true false named same is by = refl
set_by s at limit gateway band true false within named same is by = refl
set_by s at limit gateway band false known within named same is by = refl

abbrev is_limit_set : Message → Bool
is_limit_set (LimitSet at limit) = true
is_limit_set _ = false

-- no other message sets one
unnamed : (s : State) (operator : Bool) (m : Message) (effect : Effect) (gateway : List ℕ) (band : Band) → IsFrom operator m effect
    → ((at : List ℕ) (limit : Limit) → m ≢ LimitSet at limit) → limit_standing (state_with s effect) gateway band ≡ limit_standing s gateway band
unnamed s operator m effect gateway band k never = others_stay s operator m effect gateway band k (λ limit is. absurd (never gateway limit is))

-- what a step does to the limit, by its message and its decision
abbrev IsLimitAfter : State → List ℕ → Band → Message → Decision → Type 0
IsLimitAfter s gateway band m decision =
    limit_standing (state_with s decision.0) gateway band
    ≡ standing_by (if is_success decision.1 then limit_named gateway band m else None) (limit_standing s gateway band)

none_either : (b : Bool) (stood : ℕ) → standing_by (if b then None else None) stood ≡ stood
none_either true stood = refl
none_either false stood = refl

never_sets : (m : Message) (at : List ℕ) (limit : Limit) → is_limit_set m ≡ false → m ≢ LimitSet at limit
never_sets m at limit none is = let set : is_limit_set m ≡ true = ap is_limit_set is in cc

not_named : (gateway : List ℕ) (band : Band) (m : Message) → is_limit_set m ≡ false → limit_named gateway band m ≡ None
not_named gateway band (LimitSet at limit) none = cc
not_named gateway band m none = refl

other_step : (c : Settings) (s : State) (e : Envelope) (gateway : List ℕ) (band : Band) → is_limit_set e.message ≡ false → IsLimitAfter s gateway band e.message (decision_of c s e)
other_step c s e gateway band none = let stood : ℕ = limit_standing s gateway band in
    unnamed s (is_operator (s.senders e.sender)) e.message (decision_of c s e).0 gateway band (is_from c s e e.message) (λ at limit. never_sets e.message at limit none)
    ∙ sym (none_either (is_success (decision_of c s e).1) stood)
    ∙ sym (ap (λ named. standing_by (if is_success (decision_of c s e).1 then named else None) stood) (not_named gateway band e.message none))

limit_step : (c : Settings) (s : State) (e : Envelope) (gateway : List ℕ) (band : Band) (m : Message) → e.message ≡ m → IsLimitAfter s gateway band e.message (decision_of c s e)
limit_step c s e gateway band (LimitSet at limit) same =
    subst (λ m. IsLimitAfter s gateway band m (decision_of c s e)) (sym same) (subst (IsLimitAfter s gateway band (LimitSet at limit)) (sym (decided c s e at limit same))
    (set_by s at limit gateway band (is_operator (s.senders e.sender)) (s.gateways at) (hours_within (downlinks_in s.bookings at limit.band) limit.most)
    (bytes_eq gateway at) (band_number band == band_number limit.band) refl refl))
limit_step c s e gateway band m same = other_step c s e gateway band (ap is_limit_set same)

limit_from_on : (c : Settings) (s : State) (heard : List Envelope) (gateway : List ℕ) (band : Band)
    → limit_standing (state_after c s heard) gateway band ≡ standing_by (last_limit gateway band (answers_after c s heard)) (limit_standing s gateway band)
limit_from_on c s [] gateway band = refl
limit_from_on c s (e ∷ es) gateway band =
    limit_from_on c (step c s e).0 es gateway band
    ∙ ap (standing_by (last_limit gateway band (answers_after c (step c s e).0 es))) (limit_step c s e gateway band e.message refl)
    ∙ later_or_earlier (last_limit gateway band (answers_after c (step c s e).0 es)) (limit_accepted gateway band (e, (step c s e).1)) (limit_standing s gateway band)

pub last_limit_stands : LastLimitStands
last_limit_stands c heard gateway band = limit_from_on c (opening c) heard gateway band
