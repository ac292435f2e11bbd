-- Outcomes of the code against the answers of the definitions.
use Rattle.std.specs.Prelude.{◌≡◌, ◌||◌, ℕ, Bool, true, false, List, [], ◌∷◌, Option, Some, None, Result, Ok, Err, if◌then◌else◌}
use Rattle.registry_core.specs.declared.answers.Refusal.{Refusal}
use Rattle.registry_core.specs.declared.answers.Refusal.TheVariants.{Malformed, InvalidProtocolVersion, UnknownReceiver, UnknownSender, TransactionReused, BadBody, UnknownType}
use Rattle.registry_core.specs.declared.messages.Envelope.{Envelope}
use Rattle.registry_core.specs.Settings.{Settings}
use Rattle.desk_store.specs.declared.faults.StoreFault.{StoreFault}
use Rattle.desk_store.specs.Calls.{IsUnavailability, is_disk, is_not_a_desk}
use Rattle.desk_wire.specs.declared.faults.WireFault.{WireFault}
use Rattle.desk_engine.specs.declared.outcomes.Outcome.{Outcome}
use Rattle.desk_engine.specs.declared.outcomes.Outcome.TheVariants.{Answered, Refused, Unavailable}
use Rattle.desk_engine.specs.Told.{Told, AnswerText, RefusalText, envelope_of_text, told_of_text}
use Rattle.desk_engine.specs.Deliveries.{Delivery, heard_after}

-- ---- one outcome

abbrev pub is_unavailable : Outcome → Bool
is_unavailable (Unavailable fault) = true
is_unavailable _ = false

-- the store's error, if the store was unavailable
abbrev pub outcome_fault : Outcome → Option StoreFault
outcome_fault (Unavailable fault) = Some fault
outcome_fault _ = None

-- the outcome is this answer, or the store was unavailable
abbrev pub IsOutcome : Told → Outcome → Type 0
IsOutcome told (Answered text) = told ≡ AnswerText text.items
IsOutcome told (Refused refusal text) = told ≡ RefusalText refusal text.items
IsOutcome told (Unavailable fault) = IsUnavailability fault

-- the refusals of what isn't heard: a text that is no envelope for this desk (1, 2, 3, 7, 8), an unknown sender (4), and another message
-- under a used transaction number (5)
abbrev pub IsUnheard : Refusal → Type 0
IsUnheard Malformed = Unit {0}
IsUnheard InvalidProtocolVersion = Unit {0}
IsUnheard UnknownReceiver = Unit {0}
IsUnheard UnknownSender = Unit {0}
IsUnheard TransactionReused = Unit {0}
IsUnheard BadBody = Unit {0}
IsUnheard UnknownType = Unit {0}
IsUnheard _ = ⊥

-- an envelope that isn't heard is refused for its sender or its transaction number
abbrev pub IsUnheardEnvelope : Refusal → Type 0
IsUnheardEnvelope UnknownSender = Unit {0}
IsUnheardEnvelope TransactionReused = Unit {0}
IsUnheardEnvelope _ = ⊥

-- if the outcome is a refusal, it satisfies `P`
abbrev pub IfRefused : Outcome → (Refusal → Type 0) → Type 0
IfRefused (Refused refusal text) P = P refusal
IfRefused _ P = Unit {0}

-- the delivery of a text with this outcome
abbrev pub delivery_of : List ℕ → Outcome → Delivery
delivery_of text outcome = record { text = text; unavailable = is_unavailable outcome }

-- the in-flight message after a disk error
abbrev pub doubt_of : Envelope → Outcome → Option Envelope
doubt_of e outcome = if is_disk (outcome_fault outcome) then Some e else None

abbrev pub doubt_read : Result Envelope WireFault → Outcome → Option Envelope
doubt_read (Ok e) outcome = doubt_of e outcome
doubt_read (Err fault) outcome = None

-- the message of a text, if a disk error leaves it in flight
abbrev pub doubt_of_text : Settings → List ℕ → Outcome → Option Envelope
doubt_of_text c text outcome = doubt_read (envelope_of_text c text) outcome

-- ---- many

-- each outcome is the answer of its text after the ones before it
abbrev pub AreOutcomes : Settings → List Envelope → List (List ℕ) → List Outcome → Type 0
AreOutcomes c heard [] [] = Unit {0}
AreOutcomes c heard (t ∷ ts) (o ∷ os) = IsOutcome (told_of_text c heard t) o × AreOutcomes c (heard_after c heard (delivery_of t o)) ts os
AreOutcomes c heard [] (o ∷ os) = ⊥
AreOutcomes c heard (t ∷ ts) [] = ⊥

-- the deliveries of the texts with these outcomes
abbrev pub deliveries_of : List (List ℕ) → List Outcome → List Delivery
deliveries_of (t ∷ ts) (o ∷ os) = delivery_of t o ∷ deliveries_of ts os
deliveries_of [] os = []
deliveries_of (t ∷ ts) [] = []

-- one of the outcomes is Unavailable after a disk error
abbrev pub has_disk : List Outcome → Bool
has_disk [] = false
has_disk (o ∷ os) = is_disk (outcome_fault o) || has_disk os

-- one of them is Unavailable because what is stored is not a desk
abbrev pub has_not_a_desk : List Outcome → Bool
has_not_a_desk [] = false
has_not_a_desk (o ∷ os) = is_not_a_desk (outcome_fault o) || has_not_a_desk os

-- the in-flight message: that of the first disk error
abbrev pub first_doubt : Settings → List (List ℕ) → List Outcome → Option Envelope
first_doubt c (t ∷ ts) (o ∷ os) = if is_disk (outcome_fault o) then doubt_of_text c t o else first_doubt c ts os
first_doubt c _ _ = None
