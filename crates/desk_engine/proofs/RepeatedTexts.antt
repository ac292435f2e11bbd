-- A message that was answered is answered the same again, at any later place of a list.
use Rattle.std.proofs.Common.{◌≡◌, ℕ, zero, suc, ◌<◌, true, false, cond, List, [], ◌∷◌, ◌++◌, Option, Some, None, Ok, refl, ap, sym, ◌∙◌, subst, inl, inr, arith, append_assoc}
use Rattle.std.specs.Prelude.{find, is_some, unwrap_or}
use Rattle.std.proofs.lemmas.Bool.{cases_Bool}
use Rattle.std.proofs.lemmas.List.{length-append}
use Rattle.registry_core.specs.declared.answers.Answer.{Answer}
use Rattle.registry_core.specs.declared.messages.Envelope.{Envelope}
use Rattle.registry_core.specs.Heard.{AreHeard, Answers, FirstAnswersStay, IsHeard, Reused, answers_after, has_pair, heard_with, is_sender, pair_place, reply_at, reply_to, same_pair, state_after, state_of}
use Rattle.registry_core.specs.Same.{SameMessageTells, same_message}
use Rattle.registry_core.specs.Settings.{Settings}
use Rattle.registry_core.specs.State.{State, opening}
use Rattle.registry_core.specs.Step.{step}
use Rattle.desk_wire.specs.Answers.{answer_text, head_of_envelope}
use Rattle.desk_engine.specs.declared.outcomes.Outcome.{Outcome}
use Rattle.desk_engine.specs.declared.outcomes.Outcome.TheVariants.{Answered, Refused, Unavailable}
use Rattle.desk_engine.specs.Deliveries.{Delivery, heard_after, heard_all, heard_read}
use Rattle.desk_engine.specs.Outcomes.{AreOutcomes, IsOutcome, deliveries_of, delivery_of, is_unavailable}
use Rattle.desk_engine.specs.Repeats.{IsAnswered, IsAnsweredAgain, IsDeliveredAt, RepeatsGetFirstAnswers}
use Rattle.desk_engine.specs.Told.{AnswerText, Told, envelope_of_text, told_of_envelope, told_of_read, told_of_reply, told_of_text}
use Rattle.desk_engine.proofs.HeardTexts.{deliveries_add_at_the_end}
use Rattle.desk_engine.proofs.Places.{cases_option, has_pair-pair_place, same_envelope, stands_for}
use Rattle.desk_engine.proofs.Replies.{heard_with-new, reply-known, reply-stranger, unless-again}

-- ---- a beginning of the log is a log

are_front : (c : Settings) (before xs ys : List Envelope) → AreHeard c before (xs ++ ys) → AreHeard c before xs
are_front c before [] ys h = tt
are_front c before (e ∷ xs) ys h = (h.0, h.1, h.2, are_front c (before ++ e ∷ []) xs ys h.3)

is_front : (c : Settings) (xs ys : List Envelope) → IsHeard c (xs ++ ys) → IsHeard c xs
is_front c xs ys h = record { few = omega (arith, h.few, length-append xs ys); each = are_front c [] xs ys h.each }

-- ---- the place of an envelope, and its answer there

record IsHeardAt (c : Settings) (heard : List Envelope) (e : Envelope) (answer : Answer) : Type 0 where
  before : List Envelope
  after : List Envelope
  is : heard ≡ before ++ e ∷ after
  answered : answer ≡ (step c (state_of c before) e).1

stays_at : (c : Settings) (heard more later : List Envelope) (e : Envelope) (answer : Answer) → later ≡ heard ++ more → IsHeardAt c heard e answer → IsHeardAt c later e answer
stays_at c heard more later e answer grown at = record {
  before = at.before;
  after = at.after ++ more;
  is = grown ∙ ap (λ l. l ++ more) at.is ∙ append_assoc at.before (e ∷ at.after) more;
  answered = at.answered;
}

replied_at : FirstAnswersStay → (c : Settings) (heard : List Envelope) (e : Envelope) (answer : Answer) → IsHeard c heard → IsHeardAt c heard e answer → reply_to c heard e ≡ Answers answer
replied_at first c heard e answer list at =
    ap (λ l. reply_to c l e) at.is ∙ first c at.before at.after e (subst (IsHeard c) at.is list) ∙ ap Answers (sym at.answered)

-- the place that was found splits the list
record IsPlacedAt (c : Settings) (s : State) (heard : List Envelope) (x : Envelope × Answer) : Type 0 where
  before : List Envelope
  after : List Envelope
  is : heard ≡ before ++ x.0 ∷ after
  answered : x.1 ≡ (step c (state_after c s before) x.0).1

placed_after : (c : Settings) (h : Envelope) (hs : List Envelope) (s : State) (x : Envelope × Answer) → IsPlacedAt c (step c s h).0 hs x → IsPlacedAt c s (h ∷ hs) x
placed_after c h hs s x at = record { before = h ∷ at.before; after = at.after; is = ap (λ l. h ∷ l) at.is; answered = at.answered }

placed : (c : Settings) (s : State) (heard : List Envelope) (e : Envelope) (x : Envelope × Answer) → find (λ y. same_pair e y.0) (answers_after c s heard) ≡ Some x → IsPlacedAt c s heard x
placed c s [] e x at = cc
placed c s (h ∷ hs) e x at =
    (elim (same_pair e h) as (λ b. cond b (Some (h, (step c s h).1)) (find (λ y. same_pair e y.0) (answers_after c (step c s h).0 hs)) ≡ Some x → IsPlacedAt c s (h ∷ hs) x) [
      | true ↦ λ here.
          let is : (h, (step c s h).1) ≡ x = ap (λ (o : Option (Envelope × Answer)). unwrap_or o x) here in
          subst (IsPlacedAt c s (h ∷ hs)) is (record { before = []; after = hs; is = refl; answered = refl })
      | false ↦ λ later. placed_after c h hs s x (placed c (step c s h).0 hs e x later)
    ]) at

-- ---- the earlier delivery

-- what follows of an answer for the envelope after it
record IsKept (c : Settings) (after : List Envelope) (e : Envelope) (text : List ℕ) : Type 0 where
  answer : Answer
  at : IsHeardAt c after e answer
  text_is : answer_text c.receiver (head_of_envelope e) answer ≡ text

answered_told : (told : Told) (text : List ℕ) (o : Outcome) → IsAnswered text o → IsOutcome told o → told ≡ AnswerText text
answered_told told text (Answered given) is outcome = outcome ∙ ap AnswerText is
answered_told told text (Refused refusal given) is outcome = absurd is
answered_told told text (Unavailable fault) is outcome = absurd is

answered_up : (text : List ℕ) (o : Outcome) → IsAnswered text o → is_unavailable o ≡ false
answered_up text (Answered given) is = refl
answered_up text (Refused refusal given) is = absurd is
answered_up text (Unavailable fault) is = absurd is

kept_place : SameMessageTells → (c : Settings) (heard : List Envelope) (e : Envelope) (text : List ℕ) (x : Envelope × Answer) → IsHeard c heard → is_sender (state_of c heard) e.sender ≡ true
    → pair_place c heard e ≡ Some x → told_of_envelope c heard e ≡ AnswerText text → IsKept c (heard_with c heard e) e text
kept_place tells c heard e text x list known at told =
    let replied : reply_to c heard e ≡ reply_at (Some x) e (step c (state_of c heard) e).1 =
    reply-known c heard e known ∙ ap (λ p. reply_at p e (step c (state_of c heard) e).1) at in
    let said : told_of_reply c e (reply_at (Some x) e (step c (state_of c heard) e).1) ≡ AnswerText text = sym (ap (told_of_reply c e) replied) ∙ told in
    let there = placed c (opening c) heard e x at in
    let pair = (stands_for c heard e x list at).pair in
    let stays = unless-again false c heard e (has_pair-pair_place c heard e ∙ ap is_some at) in
    elim (cases_Bool (same_message x.0.message e.message)) [
      | inl same ↦
          let is : e ≡ x.0 = same_envelope e x.0 pair (sym ((tells x.0.message e.message).0 same)) in
          record {
            answer = x.1;
            at = subst (λ l. IsHeardAt c l e x.1) (sym stays) (subst (λ other. IsHeardAt c heard other x.1) (sym is) (record { before = there.before; after = there.after; is = there.is; answered = there.answered }));
            text_is = let own : AnswerText (answer_text c.receiver (head_of_envelope e) x.1) ≡ AnswerText text = rw same at said in cc;
          }
      | inr other ↦ absurd (let k : told_of_reply c e (cond false (Answers x.1) Reused) ≡ AnswerText text = rw other at said in cc)
    ]

kept_new : (c : Settings) (heard : List Envelope) (e : Envelope) (text : List ℕ) → is_sender (state_of c heard) e.sender ≡ true → pair_place c heard e ≡ None
    → told_of_envelope c heard e ≡ AnswerText text → IsKept c (heard_with c heard e) e text
kept_new c heard e text known none told =
    let new : has_pair heard e ≡ false = has_pair-pair_place c heard e ∙ ap is_some none in
    let replied : reply_to c heard e ≡ Answers (step c (state_of c heard) e).1 = reply-known c heard e known ∙ ap (λ p. reply_at p e (step c (state_of c heard) e).1) none in
    let own : AnswerText (answer_text c.receiver (head_of_envelope e) (step c (state_of c heard) e).1) ≡ AnswerText text = sym (ap (told_of_reply c e) replied) ∙ told in
    record {
      answer = (step c (state_of c heard) e).1;
      at = record { before = heard; after = []; is = heard_with-new c heard e known new; answered = refl };
      text_is = cc;
    }

kept : SameMessageTells → (c : Settings) (heard : List Envelope) (e : Envelope) (text : List ℕ) → IsHeard c heard → told_of_envelope c heard e ≡ AnswerText text → IsKept c (heard_with c heard e) e text
kept tells c heard e text list told = elim (cases_Bool (is_sender (state_of c heard) e.sender)) [
  | inr unknown ↦ absurd (let k = sym (ap (told_of_reply c e) (reply-stranger c heard e unknown)) ∙ told in cc)
  | inl known ↦ elim (cases_option (pair_place c heard e)) [
    | inl none ↦ kept_new c heard e text known none told
    | inr found ↦ kept_place tells c heard e text found.0 list known found.1 told
  ]
]

-- ---- the later one

outcome_again : (text : List ℕ) (o : Outcome) → IsOutcome (AnswerText text) o → IsAnsweredAgain text o
outcome_again text (Answered given) is = cc
outcome_again text (Refused refusal given) is = absurd (cc)
outcome_again text (Unavailable fault) is = is

module _ (first : FirstAnswersStay) (tells : SameMessageTells) (c : Settings) where
  heard_before : (heard : List Envelope) (ds : List Delivery) → IsHeard c (heard_all c heard ds) → IsHeard c heard
  heard_before heard ds list = let grown = deliveries_add_at_the_end c heard ds in is_front c heard grown.0 (subst (IsHeard c) grown.1 list)

  told_again : (heard : List Envelope) (e : Envelope) (text answer : List ℕ) (o : Outcome) → IsHeard c heard → IsKept c heard e answer → envelope_of_text c text ≡ Ok e
      → IsOutcome (told_of_text c heard text) o → IsAnsweredAgain answer o
  told_again heard e text answer o list at is outcome =
      let told : told_of_text c heard text ≡ AnswerText answer =
      ap (told_of_read c heard) is ∙ ap (told_of_reply c e) (replied_at first c heard e at.answer list at.at) ∙ ap AnswerText at.text_is in
      outcome_again answer o (subst (λ t. IsOutcome t o) told outcome)

  kept_on : (heard : List Envelope) (e : Envelope) (answer : List ℕ) (d : Delivery) → IsKept c heard e answer → IsKept c (heard_after c heard d) e answer
  kept_on heard e answer d at =
      let grown = deliveries_add_at_the_end c heard (d ∷ []) in
      record { answer = at.answer; at = stays_at c heard grown.0 (heard_after c heard d) e at.answer grown.1 at.at; text_is = at.text_is }

  again : (place : ℕ) (heard : List Envelope) (texts : List (List ℕ)) (outcomes : List Outcome) (e : Envelope) (answer : List ℕ) (o : Outcome) → IsKept c heard e answer
      → AreOutcomes c heard texts outcomes → IsHeard c (heard_all c heard (deliveries_of texts outcomes)) → IsDeliveredAt c texts outcomes place e o → IsAnsweredAgain answer o
  again zero heard (t ∷ ts) (p ∷ ps) e answer o at all list there =
      let text : t ≡ there.text = let k : Some t ≡ Some there.text = there.is_text in cc in
      let same : p ≡ o = let k : Some p ≡ Some o = there.is_outcome in cc in
      subst (IsAnsweredAgain answer) same
      (told_again heard e t answer p (heard_before heard (deliveries_of (t ∷ ts) (p ∷ ps)) list) at (ap (envelope_of_text c) text ∙ there.is_envelope) all.0)
  again (suc place) heard (t ∷ ts) (p ∷ ps) e answer o at all list there =
      again place (heard_after c heard (delivery_of t p)) ts ps e answer o (kept_on heard e answer (delivery_of t p) at) all.1 list
      (record { text = there.text; is_text = there.is_text; is_envelope = there.is_envelope; is_outcome = there.is_outcome })
  again place heard [] outcomes e answer o at all list there = absurd (let k : None ≡ Some there.text = there.is_text in cc)
  again place heard (t ∷ ts) [] e answer o at all list there = absurd all

  read_kept : (heard : List Envelope) (t : List ℕ) (o : Outcome) (e : Envelope) (answer : List ℕ) → IsHeard c heard → envelope_of_text c t ≡ Ok e → IsAnswered answer o
      → IsOutcome (told_of_text c heard t) o → IsKept c (heard_after c heard (delivery_of t o)) e answer
  read_kept heard t o e answer list is answered outcome =
      let told : told_of_envelope c heard e ≡ AnswerText answer = sym (ap (told_of_read c heard) is) ∙ answered_told (told_of_text c heard t) answer o answered outcome in
      let here : heard_after c heard (delivery_of t o) ≡ heard_with c heard e =
      ap (λ u. heard_read u c heard (envelope_of_text c t)) (answered_up answer o answered) ∙ ap (heard_read false c heard) is in
      subst (λ l. IsKept c l e answer) (sym here) (kept tells c heard e answer list told)

  from : (earlier later : ℕ) (heard : List Envelope) (texts : List (List ℕ)) (outcomes : List Outcome) (e : Envelope) (answer : List ℕ) (o p : Outcome) → earlier < later
      → AreOutcomes c heard texts outcomes → IsHeard c (heard_all c heard (deliveries_of texts outcomes))
      → IsDeliveredAt c texts outcomes earlier e o → IsAnswered answer o → IsDeliveredAt c texts outcomes later e p → IsAnsweredAgain answer p
  from earlier zero heard texts outcomes e answer o p past all list there answered later = absurd (omega (arith, past))
  from zero (suc later) heard (t ∷ ts) (q ∷ qs) e answer o p past all list there answered after =
      let text : t ≡ there.text = let k : Some t ≡ Some there.text = there.is_text in cc in
      let same : q ≡ o = let k : Some q ≡ Some o = there.is_outcome in cc in
      again later (heard_after c heard (delivery_of t q)) ts qs e answer p
      (read_kept heard t q e answer (heard_before heard (deliveries_of (t ∷ ts) (q ∷ qs)) list) (ap (envelope_of_text c) text ∙ there.is_envelope) (subst (IsAnswered answer) (sym same) answered) all.0)
      all.1 list (record { text = after.text; is_text = after.is_text; is_envelope = after.is_envelope; is_outcome = after.is_outcome })
  from (suc earlier) (suc later) heard (t ∷ ts) (q ∷ qs) e answer o p past all list there answered after =
      from earlier later (heard_after c heard (delivery_of t q)) ts qs e answer o p (omega (arith, past)) all.1 list
      (record { text = there.text; is_text = there.is_text; is_envelope = there.is_envelope; is_outcome = there.is_outcome }) answered
      (record { text = after.text; is_text = after.is_text; is_envelope = after.is_envelope; is_outcome = after.is_outcome })
  from earlier (suc later) heard [] outcomes e answer o p past all list there answered after = absurd (let k : None ≡ Some there.text = there.is_text in cc)
  from earlier (suc later) heard (t ∷ ts) [] e answer o p past all list there answered after = absurd all

pub repeats_get_first_answers : FirstAnswersStay → SameMessageTells → (c : Settings) (heard : List Envelope) (texts : List (List ℕ)) (outcomes : List Outcome)
    → AreOutcomes c heard texts outcomes → IsHeard c (heard_all c heard (deliveries_of texts outcomes)) → RepeatsGetFirstAnswers c texts outcomes
repeats_get_first_answers first tells c heard texts outcomes all list =
    λ earlier later e answer o p past there answered after. from first tells c earlier later heard texts outcomes e answer o p past all list there answered after
