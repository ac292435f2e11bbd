-- What the delivery of a text, or of an envelope, does to a store, and how it is answered.
use Rattle.std.specs.Prelude.{◌≡◌, ◌⊎◌, ℕ, true, List, Option, Some, Ok}
use Rattle.registry_core.specs.declared.messages.Envelope.{Envelope}
use Rattle.registry_core.specs.Settings.{Settings}
use Rattle.desk_store.specs.declared.faults.StoreFault.{StoreFault}
use Rattle.desk_store.specs.declared.faults.StoreFault.TheVariants.{Disk, Memory, Size}
use Rattle.desk_store.specs.Meaning.{Meaning}
use Rattle.desk_engine.specs.declared.outcomes.Outcome.{Outcome}
use Rattle.desk_engine.specs.declared.outcomes.Outcome.TheVariants.{Unavailable}
use Rattle.desk_engine.specs.Deliveries.{heard_after, heard_unless}
use Rattle.desk_engine.specs.Hearing.{HearsWith}
use Rattle.desk_engine.specs.InOrder.{ForLog, HasNoRoom}
use Rattle.desk_engine.specs.Outcomes.{IsOutcome, delivery_of, doubt_of, doubt_of_text, is_unavailable, outcome_fault}
use Rattle.desk_engine.specs.Told.{envelope_of_text, told_of_envelope, told_of_text}

-- the outcome is the answer of the text after this log, or the store was unavailable
abbrev pub IsOutcomeOfText : List ℕ → Outcome → Settings → List Envelope → Type 0
IsOutcomeOfText text outcome c heard = IsOutcome (told_of_text c heard text) outcome

-- the outcome is the answer of the envelope after this log, or the store was unavailable
abbrev pub IsOutcomeOfEnvelope : Envelope → Outcome → Settings → List Envelope → Type 0
IsOutcomeOfEnvelope e outcome c heard = IsOutcome (told_of_envelope c heard e) outcome

-- if the store is failed and the text is a message for this desk, the outcome is Unavailable with `Disk` or `Memory`
abbrev pub IsUnavailableIfFailed : {K : Type 0} → Meaning K → K → List ℕ → Outcome → Type 0
IsUnavailableIfFailed m keeper text outcome = (e : Envelope) → envelope_of_text (m.configuration keeper) text ≡ Ok e → m.failed keeper ≡ true
    → (outcome ≡ Unavailable Disk) ⊎ (outcome ≡ Unavailable Memory)

module _ {K : Type 0} (m : Meaning K) (old new : K) where
  -- The text was delivered with this outcome. If the store represented a log, it represents the log after this delivery.
  abbrev pub HearsText : List ℕ → Outcome → Type 0
  HearsText text outcome = HearsWith m old new (outcome_fault outcome)
      (λ c heard. heard_after c heard (delivery_of text outcome)) (λ c. doubt_of_text c text outcome)

  -- The envelope got this outcome. If the store represented a log, it represents the log after this envelope, or the same log if the outcome
  -- is Unavailable.
  abbrev pub HearsEnvelope : Envelope → Outcome → Type 0
  HearsEnvelope e outcome = HearsWith m old new (outcome_fault outcome)
      (λ c heard. heard_unless (is_unavailable outcome) c heard e) (λ c. doubt_of e outcome)

  -- if the error is `Size`, the log has as many messages as it may have, or the store's medium named its own size in the call
  abbrev pub NoRoomIfSize : Option StoreFault → Type 0
  NoRoomIfSize fault = ForLog m old new (λ _ heard. fault ≡ Some Size → HasNoRoom m new heard)
