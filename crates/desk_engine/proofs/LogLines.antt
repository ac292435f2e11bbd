-- A part of a log, delivered to a desk that has heard the messages before it.
use Rattle.std.proofs.Common.{◌≡◌, ℕ, zero, suc, ◌+◌, ◌-◌, ◌≤◌, ◌<◌, max, min, true, false, List, [], ◌∷◌, ◌++◌, length, map, take, drop, refl, ap, ap₂, sym, subst, ◌∙◌, arith, append_assoc, append-nil, IsTrue, take-append-drop}
use Rattle.std.specs.Prelude.{Bool, ◌||◌}
use native.Mathlib.Decide.{dec_le}
use Rattle.std.proofs.Math.Seq.{take-append_seam}
use Rattle.std.proofs.lemmas.Bool.{eq-eqb}
use Rattle.std.proofs.lemmas.List.{length-append, length-drop, length-take, length-take-le}
use Rattle.std.proofs.lemmas.Slice.Eq.{bytes_eq-Decides}
use Rattle.registry_core.specs.declared.answers.Answer.{Answer}
use Rattle.registry_core.specs.declared.messages.Envelope.{Envelope}
use Rattle.registry_core.specs.Heard.{AreHeard, Answers, FirstAnswersStay, IsHeard, NewNumbersAreDecided, answers_after, answers_of, has_pair, heard_with, is_sender, reply_to, same_pair, state_after, state_of}
use Rattle.registry_core.specs.Ranges.{IsEnvelope, IsSettings}
use Rattle.registry_core.specs.Settings.{Settings}
use Rattle.registry_core.specs.State.{State, opening}
use Rattle.registry_core.specs.Step.{step}
use Rattle.desk_wire.specs.Answers.{answer_text, head_of_envelope}
use Rattle.desk_wire.specs.Laws.{MessageReadsBack, MessagesFit}
use Rattle.desk_wire.specs.Writing.{message_text}
use Rattle.desk_engine.specs.Deliveries.{heard_all}
use Rattle.desk_engine.specs.Laws.{delivered, told_each}
use Rattle.desk_engine.specs.Log.{LogIsTheDesk}
use Rattle.desk_engine.specs.Told.{AnswerText, Told, told_of_reply}
use Rattle.desk_engine.proofs.KeptAfter.{state_after-push}
use Rattle.desk_engine.proofs.OwnTexts.{messages_are_delivered}
use Rattle.desk_engine.proofs.Replies.{heard_with-new, unless-again}

-- ---- beginnings of a list

take_with : (xs : List Envelope) (e : Envelope) (ys : List Envelope) → take (suc (length xs)) (xs ++ e ∷ ys) ≡ xs ++ e ∷ []
take_with [] e ys = refl
take_with (x ∷ xs) e ys = ap (λ l. x ∷ l) (take_with xs e ys)

take_past : (xs : List Envelope) (n : ℕ) (e : Envelope) (ys : List Envelope) → length xs < n → (mid : List Envelope) × (take n (xs ++ e ∷ ys) ≡ xs ++ e ∷ mid)
take_past [] zero e ys h = absurd (omega (arith, h))
take_past [] (suc n) e ys h = (take n ys, refl)
take_past (x ∷ xs) zero e ys h = absurd (omega (arith, h))
take_past (x ∷ xs) (suc n) e ys h = let it = take_past xs n e ys (omega (arith, h)) in (it.0, ap (λ l. x ∷ l) it.1)

-- ---- logs

are_front : (c : Settings) (before xs ys : List Envelope) → AreHeard c before (xs ++ ys) → AreHeard c before xs
are_front c before [] ys h = tt
are_front c before (e ∷ xs) ys h = (h.0, h.1, h.2, are_front c (before ++ e ∷ []) xs ys h.3)

is_front : (c : Settings) (n : ℕ) (heard : List Envelope) → IsHeard c heard → IsHeard c (take n heard)
is_front c n heard h =
    let parted : heard ≡ take n heard ++ drop n heard = sym (take-append-drop n heard) in
    record {
      few = omega (arith, h.few, ap length parted, length-append (take n heard) (drop n heard));
      each = are_front c [] (take n heard) (drop n heard) (subst (AreHeard c []) parted h.each);
    }

-- an envelope could be heard after these
record CouldBeHeard (c : Settings) (before : List Envelope) (e : Envelope) : Type 0 where
  envelope : IsEnvelope e
  known : IsTrue (is_sender (state_of c before) e.sender)
  new : has_pair before e ≡ false

heard_there : (c : Settings) (before xs : List Envelope) (e : Envelope) (ys : List Envelope) → AreHeard c before (xs ++ e ∷ ys) → CouldBeHeard c (before ++ xs) e
heard_there c before [] e ys h = subst (λ l. CouldBeHeard c l e) (sym (append-nil before)) (record { envelope = h.0; known = h.1; new = h.2 })
heard_there c before (x ∷ xs) e ys h = subst (λ l. CouldBeHeard c l e) (append_assoc before (x ∷ []) xs) (heard_there c (before ++ x ∷ []) xs e ys h.3)

-- ---- one message

pair_self : (e : Envelope) → same_pair e e ≡ true
pair_self e = rw (eq-eqb e.transaction e.transaction refl, (bytes_eq-Decides e.sender e.sender).1 refl) refl

or_true : (b : Bool) → (b || true) ≡ true
or_true true = refl
or_true false = refl

has_it : (xs : List Envelope) (e : Envelope) (ys : List Envelope) → has_pair (xs ++ e ∷ ys) e ≡ true
has_it [] e ys = rw (pair_self e) refl
has_it (x ∷ xs) e ys = ap (λ b. same_pair e x || b) (has_it xs e ys) ∙ or_true (same_pair e x)

-- what a desk answers that has heard the first k, and what it has heard then
record HearsMessage (c : Settings) (heard before : List Envelope) (e : Envelope) (k : ℕ) : Type 0 where
  reply : reply_to c (take k heard) e ≡ Answers (step c (state_of c before) e).1
  hears : heard_with c (take k heard) e ≡ take (max k (length before + 1)) heard

module _ (first : FirstAnswersStay) (decided : NewNumbersAreDecided) (c : Settings) (heard before : List Envelope) (e : Envelope) (after : List Envelope) (is : heard ≡ before ++ e ∷ after) (list : IsHeard c heard) where
  message_new : (k : ℕ) → k ≡ length before → HearsMessage c heard before e k
  message_new k here =
      let could = heard_there c [] before e after (subst (AreHeard c []) is list.each) in
      let front : take k heard ≡ before = ap₂ (λ n l. take n l) here is ∙ take-append_seam before (e ∷ after) in
      let more : max k (length before + 1) ≡ suc (length before) = omega arith in
      record {
        reply = ap (λ l. reply_to c l e) front ∙ decided c before e could.known could.new;
        hears = ap (λ l. heard_with c l e) front ∙ heard_with-new c before e could.known could.new ∙ sym (ap₂ (λ n l. take n l) more is ∙ take_with before e after);
      }

  message_again : (k : ℕ) → length before < k → HearsMessage c heard before e k
  message_again k past =
      let mid = take_past before k e after past in
      let front : take k heard ≡ before ++ e ∷ mid.0 = ap (take k) is ∙ mid.1 in
      let more : max k (length before + 1) ≡ k = omega (arith, past) in
      record {
        reply = ap (λ l. reply_to c l e) front ∙ first c before mid.0 e (subst (IsHeard c) front (is_front c k heard list));
        hears = unless-again false c (take k heard) e (ap (λ l. has_pair l e) front ∙ has_it before e mid.0) ∙ ap (λ n. take n heard) (sym more);
      }

  message : (k : ℕ) → length before ≤ k → HearsMessage c heard before e k
  message k past = by (dec_le (length before + 1) k)
    where
      by : Dec (length before + 1 ≤ k) → HearsMessage c heard before e k
      by (yes h) = message_again k (omega (arith, h))
      by (no h) = message_new k (omega (arith, h, past))

-- ---- a part of the log

abbrev answer_in : Settings → Envelope × Answer → List ℕ
answer_in c x = answer_text c.receiver (head_of_envelope x.0) x.1

-- what these are answered after those
abbrev answers_told : Settings → List Envelope → List Envelope → List Told
answers_told c before lines = map (λ x. AnswerText (answer_in c x)) (answers_after c (state_of c before) lines)

module _ (first : FirstAnswersStay) (decided : NewNumbersAreDecided) (back : MessageReadsBack) (fit : MessagesFit) (c : Settings) (settings : IsSettings c) (heard : List Envelope) (list : IsHeard c heard) where
  part_told : (before part after : List Envelope) (k : ℕ) → heard ≡ before ++ (part ++ after) → length before ≤ k
      → (told_each c (take k heard) (map (message_text c.receiver) part) ≡ answers_told c before part)
      × (heard_all c (take k heard) (map delivered (map (message_text c.receiver) part)) ≡ take (max k (length before + length part)) heard)
  part_told before [] after k is past =
      let same : k ≡ max k (length before + 0) = omega (arith, past) in
      (refl, ap (λ n. take n heard) same)
  part_told before (e ∷ part) after k is past =
      let could = heard_there c [] before e (part ++ after) (subst (AreHeard c []) is list.each) in
      let hears = message first decided c heard before e (part ++ after) is list k past in
      let own = messages_are_delivered back fit c (take k heard) e settings could.envelope in
      let here : heard ≡ (before ++ e ∷ []) ++ (part ++ after) = is ∙ sym (append_assoc before (e ∷ []) (part ++ after)) in
      let long : length (before ++ e ∷ []) ≡ length before + 1 = length-append before (e ∷ []) in
      let next : ℕ = max k (length before + 1) in
      let rest = part_told (before ++ e ∷ []) part after next here (omega (arith, long)) in
      let total : max next (length (before ++ e ∷ []) + length part) ≡ max k (length before + suc (length part)) = omega (arith, long) in
      let later : answers_told c (before ++ e ∷ []) part ≡ map (λ x. AnswerText (answer_in c x)) (answers_after c (step c (state_of c before) e).0 part) =
      ap (λ s. map (λ x. AnswerText (answer_in c x)) (answers_after c s part)) (state_after-push c (opening c) before e) in
      let grown = own.1 ∙ hears.hears in (
        ap₂ (λ t ts. t ∷ ts) (own.0 ∙ ap (told_of_reply c e) hears.reply) (ap (λ l. told_each c l (map (message_text c.receiver) part)) grown ∙ rest.0 ∙ later),
        ap (λ l. heard_all c l (map delivered (map (message_text c.receiver) part))) grown ∙ rest.1 ∙ ap (λ n. take n heard) total,
      )

-- ---- by numbers

answers_front : (c : Settings) (s : State) (most : ℕ) (es : List Envelope) → answers_after c s (take most es) ≡ take most (answers_after c s es)
answers_front c s zero es = refl
answers_front c s (suc most) [] = refl
answers_front c s (suc most) (e ∷ es) = ap (λ (l : List (Envelope × Answer)). (e, (step c s e).1) ∷ l) (answers_front c (step c s e).0 most es)

answers_from : (c : Settings) (s : State) (n most : ℕ) (es : List Envelope) → answers_after c (state_after c s (take n es)) (take most (drop n es)) ≡ take most (drop n (answers_after c s es))
answers_from c s zero most es = answers_front c s most es
answers_from c s (suc n) most [] = answers_front c s most []
answers_from c s (suc n) most (e ∷ es) = answers_from c (step c s e).0 n most es

told_map : (c : Settings) (xs : List (Envelope × Answer)) → map (λ x. AnswerText (answer_in c x)) xs ≡ map AnswerText (map (answer_in c) xs)
told_map c [] = refl
told_map c (x ∷ xs) = ap (λ l. AnswerText (answer_in c x) ∷ l) (told_map c xs)

pub log_is_the_desk : FirstAnswersStay → NewNumbersAreDecided → MessageReadsBack → MessagesFit → LogIsTheDesk
log_is_the_desk first decided back fit c heard zero most k settings list some begins short = absurd (omega (arith, some))
log_is_the_desk first decided back fit c heard (suc n) most k settings list some begins short =
    let before : List Envelope = take n heard in
    let part : List Envelope = take most (drop n heard) in
    let parted : heard ≡ before ++ (part ++ drop most (drop n heard)) =
    sym (take-append-drop n heard) ∙ ap (λ l. before ++ l) (sym (take-append-drop most (drop n heard))) in
    let long : length before ≡ n = length-take-le n heard (omega (arith, begins, short)) in
    let told = part_told first decided back fit c settings heard list before part (drop most (drop n heard)) k parted (omega (arith, long, begins)) in
    let ends : max k (length before + length part) ≡ max k (min (suc n + most - 1) (length heard)) =
    omega (arith, long, length-take most (drop n heard), length-drop n heard, begins, short) in (
      told.0 ∙ ap (map (λ x. AnswerText (answer_in c x))) (answers_from c (opening c) n most heard) ∙ told_map c (take most (drop n (answers_of c heard))),
      told.1 ∙ ap (λ m. take m heard) ends,
    )
