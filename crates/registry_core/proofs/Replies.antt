-- How a message is answered: with the answer of its step if its pair is in the log, refused if another has the pair, or decided.
use Rattle.std.proofs.Common.{◌≡◌, ℕ, List, [], ◌∷◌, ◌++◌, Bool, true, false, cond, Some, None, refl, sym, ap, ◌∙◌, subst, append_assoc, append-nil, inl, inr}
use Rattle.std.specs.Prelude.{◌==◌, ◌&&◌, bytes_eq, is_some}
use Rattle.std.specs.List.{find, list_any}
use Rattle.std.proofs.lemmas.Bool.{cases_Bool, eq-eqb, or_parts}
use Rattle.std.proofs.lemmas.Slice.Eq.{bytes_eq-Decides}
use Rattle.registry_core.specs.declared.effects.Effect.{Effect}
use Rattle.registry_core.specs.declared.effects.Effect.TheVariants.{Nothing, AddsSender, AddsOwner, AddsGateway, AddsDevice, MovesDevice, AddsSession, AddsUplink, AddsReception, AddsBooking, EndsBooking, SetsLimit}
use Rattle.registry_core.specs.declared.messages.Envelope.{Envelope}
use Rattle.registry_core.specs.declared.messages.Role.{Role}
use Rattle.registry_core.specs.Heard.{AreHeard, FirstAnswersStay, NewNumbersAreDecided, UsedNumbersAreRefused, answers_after, has_pair, is_sender, pair_place, reply_to, same_pair, state_after, state_of}
use Rattle.registry_core.specs.Same.{same_message}
use Rattle.registry_core.specs.Settings.{Settings}
use Rattle.registry_core.specs.State.{State, opening, state_with}
use Rattle.registry_core.specs.Step.{decision_of, step}
use Rattle.registry_core.proofs.Sameness.{same_message_tells}

-- ---- who was known once stays known

added_stays : (s : State) (added name : List ℕ) (role : Role) (b : Bool) → is_sender s name ≡ true → is_some (cond b (Some role) (s.senders name)) ≡ true
added_stays s added name role true known = refl
added_stays s added name role false known = known

stays_with : (s : State) (effect : Effect) (name : List ℕ) → is_sender s name ≡ true → is_sender (state_with s effect) name ≡ true
stays_with s Nothing name known = known
stays_with s (AddsSender added role) name known = added_stays s added name role (bytes_eq name added) known
stays_with s (AddsOwner added) name known = known
stays_with s (AddsGateway added) name known = known
stays_with s (AddsDevice dev_eui device) name known = known
stays_with s (MovesDevice dev_eui owner) name known = known
stays_with s (AddsSession session uplink gateway reception) name known = known
stays_with s (AddsUplink uplink gateway reception) name known = known
stays_with s (AddsReception number gateway reception) name known = known
stays_with s (AddsBooking booking) name known = known
stays_with s (EndsBooking number sent) name known = known
stays_with s (SetsLimit gateway limit) name known = known

stays_after : (c : Settings) (s : State) (es : List Envelope) (name : List ℕ) → is_sender s name ≡ true → is_sender (state_after c s es) name ≡ true
stays_after c s [] name known = known
stays_after c s (e ∷ es) name known = stays_after c (step c s e).0 es name (stays_with s (decision_of c s e).0 name known)

state_after-append : (c : Settings) (s : State) (xs ys : List Envelope) → state_after c s (xs ++ ys) ≡ state_after c (state_after c s xs) ys
state_after-append c s [] ys = refl
state_after-append c s (x ∷ xs) ys = state_after-append c (step c s x).0 xs ys

-- ---- the place of a pair

-- the sender was known before its place, and its pair was new there
heard_at : (c : Settings) (before rest after : List Envelope) (e : Envelope) → AreHeard c before (rest ++ e ∷ after)
    → (is_sender (state_of c (before ++ rest)) e.sender ≡ true) × (has_pair (before ++ rest) e ≡ false)
heard_at c before [] after e each =
    (subst (λ xs. is_sender (state_of c xs) e.sender ≡ true) (sym (append-nil before)) each.1, subst (λ xs. has_pair xs e ≡ false) (sym (append-nil before)) each.2)
heard_at c before (h ∷ rest) after e each =
    let later = heard_at c (before ++ h ∷ []) rest after e each.3 in
    (rw append_assoc at later.0, rw append_assoc at later.1)

-- an envelope with the sender and transaction number of one that comes after others without them is found there
found_at : (c : Settings) (s : State) (before after : List Envelope) (e other : Envelope) → same_pair other e ≡ true → has_pair before other ≡ false
    → find (λ kept. same_pair other kept.0) (answers_after c s (before ++ e ∷ after)) ≡ Some (e, (step c (state_after c s before) e).1)
found_at c s [] after e other same none = rw same refl
found_at c s (h ∷ before) after e other same none =
    let differ = or_parts (same_pair other h) (has_pair before other) none in
    rw differ.0 (found_at c (step c s h).0 before after e other same differ.1)

pair_same : (e other : Envelope) → other.sender ≡ e.sender → other.transaction ≡ e.transaction → same_pair other e ≡ true
pair_same e other sender transaction =
    rw (sender, transaction, eq-eqb e.transaction e.transaction refl) ((bytes_eq-Decides e.sender e.sender).1 refl)

-- ---- what is replied

placed : (c : Settings) (before after : List Envelope) (e other : Envelope) → AreHeard c [] (before ++ e ∷ after) → other.sender ≡ e.sender → other.transaction ≡ e.transaction
    → (is_sender (state_of c (before ++ e ∷ after)) other.sender ≡ true) × (pair_place c (before ++ e ∷ after) other ≡ Some (e, (step c (state_of c before) e).1))
placed c before after e other each sender transaction =
    let at = heard_at c [] before after e each in
    let new : has_pair before other ≡ has_pair before e = (λ i. list_any (λ (h : Envelope). transaction i == h.transaction && bytes_eq (sender i) h.sender) before) in (
      ap (is_sender (state_of c (before ++ e ∷ after))) sender
          ∙ ap (λ s. is_sender s e.sender) (state_after-append c (opening c) before (e ∷ after))
          ∙ stays_after c (state_of c before) (e ∷ after) e.sender at.0,
      found_at c (opening c) before after e other (pair_same e other sender transaction) (new ∙ at.1),
    )

pub first_answers_stay : FirstAnswersStay
unfolding reply_to
first_answers_stay c before after e list =
    let at = placed c before after e e list.each refl refl in
    rw (at.0, at.1, (same_message_tells e.message e.message).1 refl) refl

pub used_numbers_are_refused : UsedNumbersAreRefused
unfolding reply_to
used_numbers_are_refused c before after e other list sender transaction differ =
    let at = placed c before after e other list.each sender transaction in
    let unlike : same_message e.message other.message ≡ false = elim (cases_Bool (same_message e.message other.message)) [
      | inl same ↦ absurd (differ (sym ((same_message_tells e.message other.message).0 same)))
      | inr different ↦ different
    ] in
    rw (at.0, at.1, unlike) refl

-- where the pair isn't there, it has no place
none_at : (c : Settings) (s : State) (heard : List Envelope) (e : Envelope) → has_pair heard e ≡ false → find (λ kept. same_pair e kept.0) (answers_after c s heard) ≡ None
none_at c s [] e new = refl
none_at c s (h ∷ heard) e new =
    let differ = or_parts (same_pair e h) (has_pair heard e) new in
    rw differ.0 (none_at c (step c s h).0 heard e differ.1)

pub new_numbers_are_decided : NewNumbersAreDecided
unfolding reply_to
new_numbers_are_decided c heard e known new = rw (known, none_at c (opening c) heard e new) refl
