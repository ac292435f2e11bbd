-- Messages that are delivered again.
use Rattle.std.specs.Prelude.{◌≡◌, ◌<◌, ℕ, List, Some, Ok, slice_get}
use Rattle.registry_core.specs.declared.messages.Envelope.{Envelope}
use Rattle.registry_core.specs.Settings.{Settings}
use Rattle.desk_store.specs.Calls.{IsUnavailability}
use Rattle.desk_engine.specs.declared.outcomes.Outcome.{Outcome}
use Rattle.desk_engine.specs.declared.outcomes.Outcome.TheVariants.{Answered, Refused, Unavailable}
use Rattle.desk_engine.specs.Told.{envelope_of_text}

-- the text at this place of the list is the envelope, and this is its outcome
pub record IsDeliveredAt (c : Settings) (texts : List (List ℕ)) (outcomes : List Outcome) (place : ℕ) (e : Envelope) (o : Outcome) : Type 0 where
  pub text : List ℕ
  pub is_text : slice_get texts place ≡ Some text
  pub is_envelope : envelope_of_text c text ≡ Ok e
  pub is_outcome : slice_get outcomes place ≡ Some o

-- the outcome is this answer
abbrev pub IsAnswered : List ℕ → Outcome → Type 0
IsAnswered answer (Answered text) = text.items ≡ answer
IsAnswered answer (Refused refusal text) = ⊥
IsAnswered answer (Unavailable fault) = ⊥

-- the outcome is this answer, or the store is unavailable
abbrev pub IsAnsweredAgain : List ℕ → Outcome → Type 0
IsAnsweredAgain answer (Answered text) = text.items ≡ answer
IsAnsweredAgain answer (Refused refusal text) = ⊥
IsAnsweredAgain answer (Unavailable fault) = IsUnavailability fault

-- Every repeat gets the first answer. Take two texts of the list that are one envelope: the same sender, transaction number and message. If
-- the earlier one is answered, the later one is answered with the same octets, or is Unavailable.
abbrev pub RepeatsGetFirstAnswers : Settings → List (List ℕ) → List Outcome → Type 0
RepeatsGetFirstAnswers c texts outcomes = (earlier later : ℕ) (e : Envelope) (answer : List ℕ) (first again : Outcome) → earlier < later
    → IsDeliveredAt c texts outcomes earlier e first → IsAnswered answer first → IsDeliveredAt c texts outcomes later e again → IsAnsweredAgain answer again
