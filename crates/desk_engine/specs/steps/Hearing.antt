-- What one message makes of the store, and how it is answered.
use Rattle.std.specs.Prelude.{◌≡◌, ◌≢◌, ℕ, false, List, [], ◌∷◌, ◌++◌, Some, None, MatchOption}
use Rattle.registry_core.specs.declared.answers.Refusal.TheVariants.{TransactionReused, UnknownSender}
use Rattle.registry_core.specs.declared.effects.Effect.{Effect}
use Rattle.registry_core.specs.declared.messages.Envelope.{Envelope}
use Rattle.registry_core.specs.declared.views.View.{View}
use Rattle.registry_core.specs.Heard.{state_of}
use Rattle.registry_core.specs.Settings.{Settings}
use Rattle.registry_core.specs.Step.{step}
use Rattle.registry_core.specs.Viewed.{IsView}
use Rattle.desk_store.specs.declared.faults.StoreFault.TheVariants.{Memory, Size}
use Rattle.desk_store.specs.declared.keeper.Loaded.{Loaded}
use Rattle.desk_store.specs.declared.keeper.Loaded.TheVariants.{Stranger, Heard, Fresh}
use Rattle.desk_store.specs.Calls.{IsCall, IsOfCalls, IsUnavailability, is_disk, is_not_a_desk}
use Rattle.desk_store.specs.Kept.{CanAdd, entry_of, with_entry}
use Rattle.desk_store.specs.Meaning.{Meaning}
use Rattle.desk_wire.specs.Answers.{answer_text, head_of_envelope}
use Rattle.desk_wire.specs.Writing.{message_text}
use Rattle.desk_wire.specs.declared.faults.WireFault.{WireFault}
use Rattle.desk_wire.specs.Faults.{head_of_fault, refusal_of_fault}
use Rattle.desk_engine.specs.Outcomes.{IfRefused, doubt_of, outcome_fault}
use Rattle.desk_engine.specs.declared.outcomes.Outcome.{Outcome}
use Rattle.desk_engine.specs.declared.outcomes.Outcome.TheVariants.{Answered, Refused, Unavailable}
use Rattle.desk_engine.specs.Told.{Told, AnswerText, RefusalText, told_of_refusal}
use Rattle.desk_engine.specs.InOrder.{HasNoRoom, HoldsRules, IsInOrder, Survives, WasInOrder, entries_of, kept_after}

-- whatever a store represents satisfies the registry's rules
abbrev pub KeepsRules : {K : Type 0} → Meaning K → Type 0
KeepsRules {K} m = (c : Settings) (heard : List Envelope) (keeper : K) → m.sound keeper → IsInOrder m c keeper heard → HoldsRules m keeper

-- the outcome is this answer, or memory ran out
abbrev pub Says : Told → Outcome → Type 0
Says told (Answered text) = told ≡ AnswerText text.items
Says told (Refused refusal text) = told ≡ RefusalText refusal text.items
Says told (Unavailable fault) = fault ≡ Memory

-- the outcome is the refusal of a text that is no envelope; if memory ran out before the refusal was known, it is Unavailable
abbrev pub RefusesText : Settings → WireFault → Outcome → Type 0
RefusesText c fault outcome = MatchOption (refusal_of_fault fault) (outcome ≡ Unavailable Memory) (λ refusal. Says (told_of_refusal c refusal (head_of_fault fault)) outcome)

-- a repeat of the message with the stored text gets the stored answer, and another message is refused
abbrev pub Repeats : Settings → Envelope → List ℕ → List ℕ → Outcome → Type 0
Repeats c e message answer (Answered text) = (message_text c.receiver e ≡ message) × (text.items ≡ answer)
Repeats c e message answer (Refused refusal text) =
    (message_text c.receiver e ≢ message) × (told_of_refusal c TransactionReused (Some (head_of_envelope e)) ≡ RefusalText refusal text.items)
Repeats c e message answer (Unavailable fault) = fault ≡ Memory

-- The effect and the texts are what is committed for a message with a new transaction number, and they can be added.
pub record IsDecided (c : Settings) (heard : List Envelope) (e : Envelope) (effect : Effect) (message answer : List ℕ) : Type 0 where
  pub can : CanAdd (kept_after c heard) e effect
  pub kept : with_entry (kept_after c heard) e message effect answer ≡ kept_after c (heard ++ e ∷ [])
  pub told : answer ≡ answer_text c.receiver (head_of_envelope e) (step c (state_of c heard) e).1

-- A message with a new transaction number is heard and answered, or the store is unavailable and has not heard it.
abbrev pub HearsNew : {K : Type 0} → Meaning K → Settings → List Envelope → Envelope → K → Outcome → Type 0
HearsNew m c heard e new (Answered text) =
    (text.items ≡ answer_text c.receiver (head_of_envelope e) (step c (state_of c heard) e).1)
    × IsInOrder m c new (heard ++ e ∷ [])
    × m.leaves new (kept_after c (heard ++ e ∷ []) ∷ [])
HearsNew m c heard e new (Refused refusal text) = ⊥
HearsNew m c heard e new (Unavailable fault) =
    IsUnavailability fault × IsInOrder m c new heard × Survives m c new heard (doubt_of e (Unavailable fault))

module _ {K : Type 0} (m : Meaning K) (old new : K) (e : Envelope) where
  -- a message with a new transaction number was decided from this view and committed, or the store was unavailable
  pub record HearsFresh (view : View) (o : Outcome) : Type 0 where
    pub call : IsCall m old new (is_disk (outcome_fault o)) (is_not_a_desk (outcome_fault o))
    pub told : IsOfCalls (outcome_fault o)
    pub refused : IfRefused o (λ refusal. ⊥)
    pub size : (c : Settings) (heard : List Envelope) → WasInOrder m c heard old new → outcome_fault o ≡ Some Size → HasNoRoom m new heard
    pub hears : (c : Settings) (heard : List Envelope) → WasInOrder m c heard old new → m.failed old ≡ false → entry_of e (entries_of c heard) ≡ None
        → IsView c (state_of c heard) e view → HearsNew m c heard e new o

  -- What is true, by what the store knew about the message. A message of an unknown sender and one that was heard before leave the store as
  -- it is.
  abbrev pub HearsLoaded : Loaded → Outcome → Type 0
  HearsLoaded Stranger o = (new ≡ old) × Says (told_of_refusal (m.configuration old) UnknownSender (Some (head_of_envelope e))) o
  HearsLoaded (Heard message answer) o = (new ≡ old) × Repeats (m.configuration old) e message.items answer.items o
  HearsLoaded (Fresh view) o = HearsFresh view o
