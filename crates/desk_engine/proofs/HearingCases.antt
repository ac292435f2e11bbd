-- The clauses of `hear` for an unknown sender, a repeated number and a new one, stated over values and not over the code.
use Rattle.std.proofs.Common.{◌≡◌, ℕ, ◌<◌, ◌≤◌, true, false, List, [], ◌∷◌, ◌++◌, length, Option, Some, None, Result, Ok, is_ok, refl, ap, sym, ◌∙◌, subst, inl, inr, arith}
use Rattle.std.specs.Prelude.{◌⊎◌, option_map, is_some}
use Rattle.std.proofs.lemmas.Bool.{cases_Bool, cases_lt}
use Rattle.registry_core.specs.declared.answers.Answer.{Answer}
use Rattle.registry_core.specs.declared.answers.Refusal.{Refusal}
use Rattle.registry_core.specs.declared.answers.Refusal.TheVariants.{UnknownSender}
use Rattle.registry_core.specs.declared.effects.Effect.{Effect}
use Rattle.registry_core.specs.declared.messages.Envelope.{Envelope}
use Rattle.registry_core.specs.declared.views.View.{View}
use Rattle.registry_core.specs.Fits.{Fits}
use Rattle.registry_core.specs.Heard.{HeardListsStay, IsHeard, Answers, has_pair, is_sender, most_heard, pair_place, reply_at, reply_to, state_of}
use Rattle.registry_core.specs.Ranges.{IsEnvelope, IsName}
use Rattle.registry_core.specs.Same.{SameMessageTells, same_message}
use Rattle.registry_core.specs.Settings.{Settings}
use Rattle.registry_core.specs.Decision.{Decision}
use Rattle.registry_core.specs.Step.{decision_of, step}
use Rattle.registry_core.specs.Viewed.{IsView}
use Rattle.desk_store.specs.declared.faults.StoreFault.{StoreFault}
use Rattle.desk_store.specs.declared.faults.StoreFault.TheVariants.{Memory, Disk, Size}
use Rattle.desk_store.specs.Calls.{IsOfCalls, IsUnavailability, TellsFailed, is_disk, is_not_a_desk}
use Rattle.desk_store.specs.Kept.{CanAdd, entry_of, texts_of}
use Rattle.desk_store.specs.Meaning.{Meaning}
use Rattle.desk_wire.specs.Answers.{answer_text, head_of_envelope}
use Rattle.desk_wire.specs.Laws.{MessageReadsBack}
use Rattle.desk_wire.specs.Reading.{reads}
use Rattle.desk_wire.specs.Writing.{message_text}
use Rattle.desk_engine.specs.declared.outcomes.Outcome.{Outcome}
use Rattle.desk_engine.specs.declared.outcomes.Outcome.TheVariants.{Answered, Refused, Unavailable}
use Rattle.desk_engine.specs.Deliveries.{heard_unless}
use Rattle.desk_engine.specs.InOrder.{HasNoRoom, IsInOrder, Survives, entries_of, entry_at, kept_after}
use Rattle.desk_engine.specs.Outcomes.{IfRefused, IsOutcome, IsUnheardEnvelope, doubt_of, outcome_fault, is_unavailable}
use Rattle.desk_engine.specs.steps.Hearing.{HearsNew, IsDecided, Repeats, Says}
use Rattle.desk_engine.specs.Told.{AnswerText, RefusalText, Told, told_of_envelope, told_of_refusal, told_of_reply}
use Rattle.desk_engine.proofs.KeptAfter.{as_many_entries}
use Rattle.desk_engine.proofs.Places.{cases_option, entry_of-entries_of, has_pair-pair_place, no_place, same_envelope, stands_for}
use Rattle.desk_engine.proofs.Replies.{heard_with-new, reply-known, reply-stranger}

-- ---- the cases

pub says_outcome : (told : Told) (o : Outcome) → Says told o → IsOutcome told o
says_outcome told (Answered text) said = said
says_outcome told (Refused refusal text) said = said
says_outcome told (Unavailable fault) said = subst IsUnavailability (sym said) tt

-- an outcome whose only error may be out of memory
pub record IsQuiet (o : Outcome) : Type 0 where
  pub disk : is_disk (outcome_fault o) ≡ false
  pub not_a_desk : is_not_a_desk (outcome_fault o) ≡ false
  pub size : outcome_fault o ≡ Some Size → ⊥
  pub told : IsOfCalls (outcome_fault o)

quiet_memory : IsQuiet (Unavailable Memory)
quiet_memory = record { disk = refl; not_a_desk = refl; size = λ e. cc; told = tt }

pub says_quiet : (told : Told) (o : Outcome) → Says told o → IsQuiet o
says_quiet told (Answered text) said = record { disk = refl; not_a_desk = refl; size = λ e. cc; told = tt }
says_quiet told (Refused refusal text) said = record { disk = refl; not_a_desk = refl; size = λ e. cc; told = tt }
says_quiet told (Unavailable fault) said = subst (λ f. IsQuiet (Unavailable f)) (sym said) quiet_memory

pub repeats_quiet : (c : Settings) (e : Envelope) (message answer : List ℕ) (o : Outcome) → Repeats c e message answer o → IsQuiet o
repeats_quiet c e message answer (Answered text) said = record { disk = refl; not_a_desk = refl; size = λ e. cc; told = tt }
repeats_quiet c e message answer (Refused refusal text) said = record { disk = refl; not_a_desk = refl; size = λ e. cc; told = tt }
repeats_quiet c e message answer (Unavailable fault) said = subst (λ f. IsQuiet (Unavailable f)) (sym said) quiet_memory

-- ---- what is refused

abbrev refusal_in : Told → Refusal → Refusal
refusal_in (AnswerText text) other = other
refusal_in (RefusalText refusal text) other = refusal

pub says_refused : (P : Refusal → Type 0) (refusal : Refusal) (text : List ℕ) (o : Outcome) → P refusal → Says (RefusalText refusal text) o → IfRefused o P
says_refused P refusal text (Answered other) is said = tt
says_refused P refusal text (Refused told other) is said = subst P (ap (λ t. refusal_in t refusal) said) is
says_refused P refusal text (Unavailable fault) is said = tt

pub repeats_refused : (c : Settings) (e : Envelope) (message answer : List ℕ) (o : Outcome) → Repeats c e message answer o → IfRefused o IsUnheardEnvelope
repeats_refused c e message answer (Answered text) said = tt
repeats_refused c e message answer (Refused refusal text) said = subst IsUnheardEnvelope (ap (λ t. refusal_in t refusal) said.1) tt
repeats_refused c e message answer (Unavailable fault) said = tt

pub says_at : (a b : Settings) (told : Settings → Told) (o : Outcome) → a ≡ b → Says (told a) o → Says (told b) o
says_at a b told o same said = subst (λ c. Says (told c) o) same said

-- ---- an unknown sender

pub stranger_outcome : (c : Settings) (heard : List Envelope) (e : Envelope) (o : Outcome) → is_sender (state_of c heard) e.sender ≡ false
    → Says (told_of_refusal c UnknownSender (Some (head_of_envelope e))) o → IsOutcome (told_of_envelope c heard e) o
stranger_outcome c heard e o unknown said = rw (reply-stranger c heard e unknown) (says_outcome (told_of_refusal c UnknownSender (Some (head_of_envelope e))) o said)

-- ---- a pair that was heard

texts_at : (c : Settings) (heard : List Envelope) (e : Envelope) (message answer : List ℕ) → option_map texts_of (entry_of e (entries_of c heard)) ≡ Some (message, answer)
    → (x : Envelope × Answer) × (pair_place c heard e ≡ Some x) × (message_text c.receiver x.0 ≡ message) × (answer_text c.receiver (head_of_envelope x.0) x.1 ≡ answer)
texts_at c heard e message answer texts =
    let at = ap (option_map texts_of) (sym (entry_of-entries_of c heard e)) ∙ texts in
    elim (cases_option (pair_place c heard e)) [
      | inl none ↦ absurd (let k : None ≡ Some (message, answer) = sym (ap (λ p. option_map texts_of (option_map (entry_at c) p)) none) ∙ at in cc)
      | inr found ↦
          let both : Some (message_text c.receiver found.0.0, answer_text c.receiver (head_of_envelope found.0.0) found.0.1) ≡ Some (message, answer) =
          sym (ap (λ p. option_map texts_of (option_map (entry_at c) p)) found.1) ∙ at in
          (found.0, found.1, ap (λ (o : Option (List ℕ × List ℕ)). first_text o message) both, ap (λ (o : Option (List ℕ × List ℕ)). second_text o answer) both)
    ]
  where
    first_text : Option (List ℕ × List ℕ) → List ℕ → List ℕ
    first_text None d = d
    first_text (Some x) d = x.0

    second_text : Option (List ℕ × List ℕ) → List ℕ → List ℕ
    second_text None d = d
    second_text (Some x) d = x.1

pub heard_pair : (c : Settings) (heard : List Envelope) (e : Envelope) (message answer : List ℕ) → option_map texts_of (entry_of e (entries_of c heard)) ≡ Some (message, answer)
    → has_pair heard e ≡ true
heard_pair c heard e message answer texts = has_pair-pair_place c heard e ∙ ap is_some (texts_at c heard e message answer texts).1

-- what is written of one envelope is written of no other
one_text : (receiver : List ℕ) (a b : Envelope) → MessageReadsBack → IsName receiver → IsEnvelope a → IsEnvelope b → message_text receiver a ≡ message_text receiver b → a ≡ b
one_text receiver a b back name in_a in_b same =
    let k : Ok a ≡ Ok b = sym (back receiver a name in_a) ∙ ap (reads receiver) same ∙ back receiver b name in_b in cc

pub repeat_outcome : (c : Settings) (heard : List Envelope) (e : Envelope) (message answer : List ℕ) (o : Outcome)
    → MessageReadsBack → SameMessageTells → IsName c.receiver → IsEnvelope e → IsHeard c heard → is_sender (state_of c heard) e.sender ≡ true
    → option_map texts_of (entry_of e (entries_of c heard)) ≡ Some (message, answer) → Repeats c e message answer o → IsOutcome (told_of_envelope c heard e) o
repeat_outcome c heard e message answer o back tells name in_range list known texts repeats =
    let at = texts_at c heard e message answer texts in
    let there = stands_for c heard e at.0 list at.1 in
    let reply : reply_to c heard e ≡ reply_at (Some at.0) e (step c (state_of c heard) e).1 =
    reply-known c heard e known ∙ ap (λ p. reply_at p e (step c (state_of c heard) e).1) at.1 in
    rw reply (by_outcome at.0 there.in_range (same_envelope e at.0.0 there.pair) at.2 at.3 o repeats)
  where
    by_outcome : (x : Envelope × Answer) → IsEnvelope x.0 → (e.message ≡ x.0.message → e ≡ x.0) → message_text c.receiver x.0 ≡ message
        → answer_text c.receiver (head_of_envelope x.0) x.1 ≡ answer → (o : Outcome) → Repeats c e message answer o
        → IsOutcome (told_of_reply c e (reply_at (Some x) e (step c (state_of c heard) e).1)) o
    by_outcome x in_x one texted answered (Answered text) said =
        let same : e ≡ x.0 = one_text c.receiver e x.0 back name in_range in_x (said.0 ∙ sym texted) in
        let tells_same : same_message x.0.message e.message ≡ true = (tells x.0.message e.message).1 (sym (ap (λ (a : Envelope). a.message) same)) in
        rw tells_same (ap AnswerText (ap (λ a. answer_text c.receiver (head_of_envelope a) x.1) same ∙ answered ∙ sym said.1))
    by_outcome x in_x one texted answered (Refused refusal text) said =
        let other : same_message x.0.message e.message ≡ false = elim (cases_Bool (same_message x.0.message e.message)) [
          | inr differs ↦ differs
          | inl same ↦ absurd (said.0 (ap (message_text c.receiver) (one (sym ((tells x.0.message e.message).0 same))) ∙ texted))
        ] in
        rw other said.1
    by_outcome x in_x one texted answered (Unavailable fault) said = subst IsUnavailability (sym said) tt

-- ---- a new pair

pub new_outcome : {K : Type 0} (m : Meaning K) (c : Settings) (heard : List Envelope) (e : Envelope) (new : K) (o : Outcome)
    → is_sender (state_of c heard) e.sender ≡ true → entry_of e (entries_of c heard) ≡ None → HearsNew m c heard e new o → IsOutcome (told_of_envelope c heard e) o
new_outcome m c heard e new o known none hears = rw (reply-known c heard e known, no_place c heard e none) (by_outcome o hears)
  where
    by_outcome : (o : Outcome) → HearsNew m c heard e new o → IsOutcome (told_of_reply c e (Answers (step c (state_of c heard) e).1)) o
    by_outcome (Answered text) h = ap AnswerText (sym h.0)
    by_outcome (Refused refusal text) h = absurd h
    by_outcome (Unavailable fault) h = h.0

new_pair : (c : Settings) (heard : List Envelope) (e : Envelope) → entry_of e (entries_of c heard) ≡ None → has_pair heard e ≡ false
new_pair c heard e none = has_pair-pair_place c heard e ∙ ap is_some (no_place c heard e none)

new_order : {K : Type 0} (m : Meaning K) (c : Settings) (heard : List Envelope) (e : Envelope) (new : K) (o : Outcome)
    → is_sender (state_of c heard) e.sender ≡ true → has_pair heard e ≡ false → HearsNew m c heard e new o
    → IsInOrder m c new (heard_unless (is_unavailable o) c heard e)
new_order m c heard e new (Answered text) known fresh h = rw (heard_with-new c heard e known fresh) h.1
new_order m c heard e new (Refused refusal text) known fresh h = absurd h
new_order m c heard e new (Unavailable fault) known fresh h = h.1

new_crash : {K : Type 0} (m : Meaning K) (c : Settings) (heard : List Envelope) (e : Envelope) (new : K) (o : Outcome)
    → is_sender (state_of c heard) e.sender ≡ true → has_pair heard e ≡ false → HearsNew m c heard e new o
    → Survives m c new (heard_unless (is_unavailable o) c heard e) (doubt_of e o)
new_crash m c heard e new (Answered text) known fresh h = inl (rw (heard_with-new c heard e known fresh) h.2)
new_crash m c heard e new (Refused refusal text) known fresh h = absurd h
new_crash m c heard e new (Unavailable fault) known fresh h = h.2

-- what it makes of a store in order
pub record IsHeardAfter {K : Type 0} (m : Meaning K) (c : Settings) (heard : List Envelope) (e : Envelope) (new : K) (o : Outcome) : Type 0 where
  pub order : IsInOrder m c new (heard_unless (is_unavailable o) c heard e)
  pub crash : Survives m c new (heard_unless (is_unavailable o) c heard e) (doubt_of e o)

pub is_heard : {K : Type 0} (m : Meaning K) (c : Settings) (heard : List Envelope) (e : Envelope) (new : K) (o : Outcome)
    → is_sender (state_of c heard) e.sender ≡ true → entry_of e (entries_of c heard) ≡ None → HearsNew m c heard e new o → IsHeardAfter m c heard e new o
is_heard m c heard e new o known none hears = record {
  order = new_order m c heard e new o known (new_pair c heard e none) hears;
  crash = new_crash m c heard e new o known (new_pair c heard e none) hears;
}

-- a call with an answer found the store up
pub was_up : {K : Type 0} {T : Type 0} (m : Meaning K) (old : K) (r : Result T StoreFault) → TellsFailed m old r → is_ok r ≡ true → m.failed old ≡ false
was_up m old r tells answered = elim (cases_Bool (m.failed old)) [
  | inr up ↦ up
  | inl is_failed ↦ let k : true ≡ false = sym answered ∙ ap is_ok (tells is_failed) in cc
]

-- ---- the commit

-- what is committed had room
pub had_room : {X T : Type 0} (c : Settings) (heard : List Envelope) (r : Result T StoreFault) → (most_heard ≤ length (kept_after c heard).entries → (is_ok r ≡ false) × X)
    → is_ok r ≡ true → length heard < most_heard
had_room c heard r no_room answered = elim (cases_lt (length heard) most_heard) [
  | inl room ↦ room
  | inr full ↦ let n = as_many_entries c heard in let k : true ≡ false = sym answered ∙ (no_room (omega arith)).0 in cc
]

pub list_more : (c : Settings) (heard : List Envelope) (e : Envelope) → HeardListsStay → IsHeard c heard → length heard < most_heard → IsEnvelope e
    → is_sender (state_of c heard) e.sender ≡ true → entry_of e (entries_of c heard) ≡ None → IsHeard c (heard ++ e ∷ [])
list_more c heard e stay list room in_range known none = subst (IsHeard c) (heard_with-new c heard e known (new_pair c heard e none)) (stay c heard e list room in_range)

pub can_add : (c : Settings) (heard : List Envelope) (e : Envelope) (view : View) (d : Decision) → IsView c (state_of c heard) e view → entry_of e (entries_of c heard) ≡ None
    → Fits (decision_of c (state_of c heard) e).0 (state_of c heard) → d ≡ decision_of c (state_of c heard) e → CanAdd (kept_after c heard) e d.0
unfolding kept_after
can_add c heard e view d viewed none fits is = record {
  known = ap is_some viewed.role;
  new = none;
  effect_fits = subst (λ (x : Decision). Fits x.0 (state_of c heard)) (sym is) fits;
}

-- what is decided by these settings, with texts in other words
pub decided_by : (c own : Settings) (heard : List Envelope) (e : Envelope) (view : View) (effect : Effect) (message answer m a : List ℕ) → own ≡ c → m ≡ message → a ≡ answer
    → (IsHeard own heard → entry_of e (entries_of own heard) ≡ None → IsView own (state_of own heard) e view → IsDecided own heard e effect message answer)
    → IsHeard c heard → entry_of e (entries_of c heard) ≡ None → IsView c (state_of c heard) e view → IsDecided c heard e effect m a
decided_by c own heard e view effect message answer m a its messaged answered made = rw (messaged, answered)
    (subst (λ s. IsHeard s heard → entry_of e (entries_of s heard) ≡ None → IsView s (state_of s heard) e view → IsDecided s heard e effect message answer) its made)

-- after an error the store represents what it did, and the message is in flight if the error is `Disk`
pub survives_fault : {K : Type 0} (m : Meaning K) (c : Settings) (new : K) (heard : List Envelope) (e : Envelope) (fault : StoreFault)
    → m.failed new ≡ is_disk (Some fault)
    → (m.failed new ≡ false → m.leaves new (kept_after c heard ∷ []))
    → (most_heard ≤ length (kept_after c heard).entries → m.leaves new (kept_after c heard ∷ []))
    → (length heard < most_heard → IsHeard c (heard ++ e ∷ []))
    → (fault ≡ Disk → m.leaves new (kept_after c heard ∷ kept_after c (heard ++ e ∷ []) ∷ []))
    → Survives m c new heard (doubt_of e (Unavailable fault))
survives_fault m c new heard e Disk shut alone full list doubt = elim (cases_lt (length heard) most_heard) [
  | inl room ↦ inr (e, refl, record { is_failed = shut; list = list room; left = doubt refl })
  | inr no_room ↦ let n = as_many_entries c heard in inl (full (omega arith))
]
survives_fault m c new heard e fault shut alone full list doubt = inl (alone shut)

-- a store without room for an entry has none for an envelope
pub no_room : {K : Type 0} (m : Meaning K) (c : Settings) (new : K) (heard : List Envelope) → (most_heard ≤ length (kept_after c heard).entries) ⊎ m.out_of_space new → HasNoRoom m new heard
no_room m c new heard (inl full) = let n = as_many_entries c heard in inl (omega arith)
no_room m c new heard (inr out_of_space) = inr out_of_space
