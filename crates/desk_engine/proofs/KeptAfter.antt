-- What one more envelope makes of what a store represents.
use Rattle.std.proofs.Common.{◌≡◌, ℕ, false, suc, List, [], ◌∷◌, ◌++◌, length, map, refl, ap, sym, subst, ◌∙◌}
use Rattle.std.proofs.lemmas.List.{map-append}
use Rattle.registry_core.specs.declared.answers.Answer.{Answer}
use Rattle.registry_core.specs.declared.messages.Envelope.{Envelope}
use Rattle.registry_core.specs.Heard.{state_after, state_of, answers_after, answers_of}
use Rattle.registry_core.specs.Rules.{GoesByRules, RulesAreKept}
use Rattle.registry_core.specs.Settings.{Settings}
use Rattle.registry_core.specs.State.{State, opening}
use Rattle.registry_core.specs.Decision.{Decision}
use Rattle.registry_core.specs.Step.{decision_of, step}
use Rattle.desk_store.specs.Kept.{Entry, Kept, with_entry}
use Rattle.desk_store.specs.Meaning.{Meaning}
use Rattle.desk_wire.specs.Answers.{answer_text, head_of_envelope}
use Rattle.desk_wire.specs.Writing.{message_text}
use Rattle.desk_engine.specs.InOrder.{HoldsRules, IsInOrder, entry_at, kept_after}

pub state_after-push : (c : Settings) (s : State) (heard : List Envelope) (e : Envelope) → state_after c s (heard ++ e ∷ []) ≡ (step c (state_after c s heard) e).0
state_after-push c s [] e = refl
state_after-push c s (h ∷ hs) e = state_after-push c (step c s h).0 hs e

pub answers_after-push : (c : Settings) (s : State) (heard : List Envelope) (e : Envelope)
    → answers_after c s (heard ++ e ∷ []) ≡ answers_after c s heard ++ (e, (step c (state_after c s heard) e).1) ∷ []
answers_after-push c s [] e = refl
answers_after-push c s (h ∷ hs) e = ap (λ (l : List (Envelope × Answer)). (h, (step c s h).1) ∷ l) (answers_after-push c (step c s h).0 hs e)

length-answers_after : (c : Settings) (s : State) (heard : List Envelope) → length (map (entry_at c) (answers_after c s heard)) ≡ length heard
length-answers_after c s [] = refl
length-answers_after c s (h ∷ hs) = ap suc (length-answers_after c (step c s h).0 hs)

-- a store has as many entries as messages were heard
pub as_many_entries : (c : Settings) (heard : List Envelope) → length (kept_after c heard).entries ≡ length heard
unfolding kept_after
as_many_entries c heard = length-answers_after c (opening c) heard

abbrev made : State → List Entry → Kept
made facts entries = record { facts = facts; entries = entries }

abbrev kept_with : Settings → List Envelope → Envelope → List ℕ → Decision → List ℕ → Kept
kept_with c heard e message decision text = with_entry (kept_after c heard) e message decision.0 text

with_own_texts : (c : Settings) (heard : List Envelope) (e : Envelope) → let d : Decision = decision_of c (state_of c heard) e in
    kept_with c heard e (message_text c.receiver e) d (answer_text c.receiver (head_of_envelope e) d.1) ≡ kept_after c (heard ++ e ∷ [])
unfolding kept_after
with_own_texts c heard e = λ i. made
    (sym (state_after-push c (opening c) heard e) i)
    (sym (ap (map (entry_at c)) (answers_after-push c (opening c) heard e) ∙ map-append (entry_at c) (answers_of c heard) _) i)

-- what a step makes of the state after a log, with its texts, is the state after the log with the envelope
pub with_entry-kept_after : (c : Settings) (heard : List Envelope) (e : Envelope) (message : List ℕ) (d : Decision) (text : List ℕ)
    → d ≡ decision_of c (state_of c heard) e → message ≡ message_text c.receiver e → text ≡ answer_text c.receiver (head_of_envelope e) d.1
    → with_entry (kept_after c heard) e message d.0 text ≡ kept_after c (heard ++ e ∷ [])
with_entry-kept_after c heard e message d text decided messaged answered =
    ap (λ m. kept_with c heard e m d text) messaged
    ∙ ap (λ t. kept_with c heard e (message_text c.receiver e) d t) answered
    ∙ ap (λ (x : Decision). kept_with c heard e (message_text c.receiver e) x (answer_text c.receiver (head_of_envelope e) x.1)) decided
    ∙ with_own_texts c heard e

-- and it satisfies the registry's rules
pub rules_of : RulesAreKept → (c : Settings) (heard : List Envelope) (kept : Kept) → kept_after c heard ≡ kept → GoesByRules kept.facts
unfolding kept_after
rules_of law c heard kept same = subst (λ (k : Kept). GoesByRules k.facts) same (law c heard)

-- a store that isn't failed represents at most one thing
abbrev pub HoldsOne : {K : Type 0} → Meaning K → Type 0
HoldsOne {K} m = (keeper : K) (a b : Kept) → m.sound keeper → m.failed keeper ≡ false → m.holds keeper a → m.holds keeper b → a ≡ b

-- so what a store represents satisfies the rules, if it is that of a log
pub holds_rules : {K : Type 0} (m : Meaning K) → HoldsOne m → RulesAreKept → (c : Settings) (heard : List Envelope) (keeper : K) → m.sound keeper
    → IsInOrder m c keeper heard → HoldsRules m keeper
holds_rules m one law c heard keeper sound order = λ kept up held.
    rules_of law c heard kept (one keeper (kept_after c heard) kept sound up order.kept held)
