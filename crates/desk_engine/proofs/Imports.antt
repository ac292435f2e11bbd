-- An import over one envelope more: it continues with the answer, or ends with the first error.
use Rattle.std.proofs.Common.{◌≡◌, ◌∙◌, ℕ, false, List, [], ◌∷◌, ◌++◌, Option, Some, None, refl, ap, sym, ◌<◌, length, take, get_or, arith}
use Rattle.std.specs.Prelude.{if◌then◌else◌}
use Rattle.registry_core.specs.declared.messages.Envelope.{Envelope}
use Rattle.registry_core.specs.Heard.{heard_with}
use Rattle.registry_core.specs.Settings.{Settings}
use Rattle.desk_store.specs.declared.faults.StoreFault.{StoreFault}
use Rattle.desk_store.specs.Calls.{is_disk, is_not_a_desk}
use Rattle.desk_store.specs.Meaning.{Meaning}
use Rattle.desk_engine.specs.declared.outcomes.Outcome.{Outcome}
use Rattle.desk_engine.specs.declared.outcomes.Outcome.TheVariants.{Answered, Refused, Unavailable}
use Rattle.desk_engine.specs.Deliveries.{heard_unless}
use Rattle.desk_engine.specs.Hearing.{Hears}
use Rattle.desk_engine.specs.Importing.{AreAnswers, doubt_at_stop, heard_in_order}
use Rattle.desk_engine.specs.Outcomes.{IsOutcome, doubt_of, outcome_fault, is_unavailable}
use Rattle.desk_engine.specs.Told.{told_of_envelope}
use Rattle.desk_engine.proofs.Hearings.{hears_as, hears_then}

heard_in_order-push : (c : Settings) (heard : List Envelope) (es : List Envelope) (e : Envelope)
    → heard_in_order c heard (es ++ e ∷ []) ≡ heard_with c (heard_in_order c heard es) e
heard_in_order-push c heard [] e = refl
heard_in_order-push c heard (x ∷ xs) e = heard_in_order-push c (heard_with c heard x) xs e

pub answers-push : (c : Settings) (heard : List Envelope) (es : List Envelope) (os : List Outcome) (e : Envelope) (o : Outcome) → AreAnswers c heard es os
    → IsOutcome (told_of_envelope c (heard_in_order c heard es) e) o → is_unavailable o ≡ false → AreAnswers c heard (es ++ e ∷ []) (os ++ o ∷ [])
answers-push c heard [] [] e o all one is = (one, is, tt)
answers-push c heard (x ∷ xs) (y ∷ ys) e o all one is = (all.0, all.1, answers-push c (heard_with c heard x) xs ys e o all.2 one is)
answers-push c heard [] (y ∷ ys) e o all one is = absurd all
answers-push c heard (x ∷ xs) [] e o all one is = absurd all

-- ---- outcomes that aren't Unavailable have no error

pub is_answered : (o : Outcome) → ((fault : StoreFault) → o ≡ Unavailable fault → ⊥) → is_unavailable o ≡ false
is_answered (Answered text) other = refl
is_answered (Refused refusal text) other = refl
is_answered (Unavailable fault) other = absurd (other fault refl)

no_fault : (o : Outcome) → is_unavailable o ≡ false → outcome_fault o ≡ None
no_fault (Answered text) is = refl
no_fault (Refused refusal text) is = refl
no_fault (Unavailable fault) is = cc is

none_below : (n : ℕ) → n < 0 → ⊥
none_below n h = omega (arith, h)

-- the first without an answer
at_stop : (es : List Envelope) (os : List Outcome) (d : Envelope) (stopped : Option StoreFault) → length os < length es
    → doubt_at_stop es os stopped ≡ (if is_disk stopped then Some (get_or es (length os) d) else None)
at_stop [] os d stopped h = absurd (none_below (length os) h)
at_stop (e ∷ es) [] d stopped h = refl
at_stop (e ∷ es) (o ∷ os) d stopped h = at_stop es os d stopped (omega (arith, h))

no_stop : (es : List Envelope) (os : List Outcome) → doubt_at_stop es os None ≡ None
no_stop [] os = refl
no_stop (e ∷ es) [] = refl
no_stop (e ∷ es) (o ∷ os) = no_stop es os

-- ---- one more

module _ {K : Type 0} (m : Meaning K) where
  pub import_more : (old mid new : K) (es : List Envelope) (e : Envelope) (o : Outcome) → is_unavailable o ≡ false
      → Hears m old mid false false (λ c heard. heard_in_order c heard es) (λ c. None)
      → Hears m mid new (is_disk (outcome_fault o)) (is_not_a_desk (outcome_fault o)) (λ c heard. heard_unless (is_unavailable o) c heard e) (λ c. doubt_of e o)
      → Hears m old new false false (λ c heard. heard_in_order c heard (es ++ e ∷ [])) (λ c. None)
  import_more old mid new es e o answered done more =
      let none = no_fault o answered in
      let calm : Hears m mid new false false (λ c heard. heard_with c heard e) (λ c. None) = rw (none, answered) at more in
      hears_as m old new false false _ (λ c heard. heard_in_order c heard (es ++ e ∷ [])) _ (λ c. None)
      (hears_then m old mid new false false false false _ _ _ _ done calm)
      (λ c heard was. heard_in_order-push c heard es e)
      (λ c heard was. refl)

  -- it stops at the first that is Unavailable
  pub import_stops : (old mid new : K) (es : List Envelope) (os : List Outcome) (index : ℕ) (e : Envelope) (fault : StoreFault)
      → length os ≡ index → index < length es → e ≡ get_or es index e
      → Hears m old mid false false (λ c heard. heard_in_order c heard (take index es)) (λ c. None)
      → Hears m mid new (is_disk (Some fault)) (is_not_a_desk (Some fault)) (λ c heard. heard) (λ c. doubt_of e (Unavailable fault))
      → Hears m old new (is_disk (Some fault)) (is_not_a_desk (Some fault)) (λ c heard. heard_in_order c heard (take index es)) (λ c. doubt_at_stop es os (Some fault))
  import_stops old mid new es os index e fault size within here done stop =
      hears_as m old new _ _ _ (λ c heard. heard_in_order c heard (take index es)) _ (λ c. doubt_at_stop es os (Some fault))
      (hears_then m old mid new false false _ _ _ _ _ _ done stop)
      (λ c heard was. refl)
      (λ c heard was. at_stop es os e (Some fault) (rw size within) ∙ ap (λ n. doubt_at (get_or es n e)) size ∙ ap doubt_at (sym here))
    where
      doubt_at : Envelope → Option Envelope
      doubt_at x = if is_disk (Some fault) then Some x else None

  -- an import that heard all leaves no message in flight
  pub import_ends : (old new : K) (es : List Envelope) (os : List Outcome) (done : List Envelope)
      → Hears m old new false false (λ c heard. heard_in_order c heard done) (λ c. None)
      → Hears m old new false false (λ c heard. heard_in_order c heard done) (λ c. doubt_at_stop es os None)
  import_ends old new es os done ran =
      hears_as m old new false false _ (λ c heard. heard_in_order c heard done) _ (λ c. doubt_at_stop es os None) ran (λ c heard was. refl) (λ c heard was. no_stop es os)
