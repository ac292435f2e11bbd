-- Hearing once: a list of envelopes, the state after it, and how each further envelope is answered and added.
use Rattle.std.specs.Prelude.{◌≡◌, ◌≢◌, ℕ, ◌==◌, ◌<◌, ◌≤◌, Bool, false, not, ◌&&◌, List, [], ◌∷◌, ◌++◌, length, Option, Some, None, is_some, find, if◌then◌else◌, bytes_eq, IsTrue}
use Rattle.std.specs.List.{list_any}
use Rattle.registry_core.specs.declared.answers.Answer.{Answer}
use Rattle.registry_core.specs.declared.messages.Envelope.{Envelope}
use Rattle.registry_core.specs.Ranges.{IsEnvelope}
use Rattle.registry_core.specs.Same.{same_message}
use Rattle.registry_core.specs.Settings.{Settings}
use Rattle.registry_core.specs.State.{State, opening}
use Rattle.registry_core.specs.Step.{step}

-- ---- the state after a list of envelopes

-- the state after the envelopes, one after another
abbrev pub state_after : Settings → State → List Envelope → State
state_after c s [] = s
state_after c s (e ∷ es) = state_after c (step c s e).0 es

-- the state after the envelopes from the opening state
abbrev pub state_of : Settings → List Envelope → State
state_of c heard = state_after c (opening c) heard

-- each envelope with the answer that its step gives at its place
abbrev pub answers_after : Settings → State → List Envelope → List (Envelope × Answer)
answers_after c s [] = []
answers_after c s (e ∷ es) = (e, (step c s e).1) ∷ answers_after c (step c s e).0 es

abbrev pub answers_of : Settings → List Envelope → List (Envelope × Answer)
answers_of c heard = answers_after c (opening c) heard

-- ---- logs

abbrev pub is_sender : State → List ℕ → Bool
is_sender s name = is_some (s.senders name)

-- the two have the same sender and the same transaction number
abbrev pub same_pair : Envelope → Envelope → Bool
same_pair a b = a.transaction == b.transaction && bytes_eq a.sender b.sender

-- the list has an envelope with this one's sender and transaction number
abbrev pub has_pair : List Envelope → Envelope → Bool
has_pair heard e = list_any (same_pair e) heard

-- the greatest number of messages that a log has (this project's limit)
abbrev pub most_heard : ℕ
most_heard = 9007199254740991

-- Each of the rest, in turn, is an envelope whose sender is known in the state after the ones before it, and whose transaction number its
-- sender hasn't used in them.
abbrev pub AreHeard : Settings → List Envelope → List Envelope → Type 0
AreHeard c before [] = Unit {0}
AreHeard c before (e ∷ rest) =
    IsEnvelope e × IsTrue (is_sender (state_of c before) e.sender) × (has_pair before e ≡ false) × AreHeard c (before ++ e ∷ []) rest

-- the list is a log
pub record IsHeard (c : Settings) (heard : List Envelope) : Type 0 where
  pub few : length heard ≤ most_heard
  pub each : AreHeard c [] heard

-- ---- one more envelope

-- The reply to an envelope: its sender is unknown, its transaction number was used for another message, or an answer.
pub data Reply : Type 0 where
  Stranger : Reply
  Reused : Reply
  Answers : Answer → Reply

-- the reply by the place that has the envelope's sender and transaction number, or else by the answer of its step now
abbrev pub reply_at : Option (Envelope × Answer) → Envelope → Answer → Reply
reply_at None e now = Answers now
reply_at (Some kept) e now = if same_message kept.0.message e.message then Answers kept.1 else Reused

-- the place that has the envelope's sender and transaction number, with the answer that was given there
abbrev pub pair_place : Settings → List Envelope → Envelope → Option (Envelope × Answer)
pair_place c heard e = find (λ kept. same_pair e kept.0) (answers_of c heard)

-- the reply to an envelope after this log
unfoldable pub reply_to : Settings → List Envelope → Envelope → Reply
reply_to c heard e =
    if is_sender (state_of c heard) e.sender
    then reply_at (pair_place c heard e) e (step c (state_of c heard) e).1
    else Stranger

-- the log with a new envelope of a known sender at the end
unfoldable pub heard_with : Settings → List Envelope → Envelope → List Envelope
heard_with c heard e = if is_sender (state_of c heard) e.sender && not (has_pair heard e) then heard ++ e ∷ [] else heard

-- a log with one more envelope is a log, as long as it has fewer messages than it may have
abbrev pub HeardListsStay : Type 0
HeardListsStay = (c : Settings) (heard : List Envelope) (e : Envelope) → IsHeard c heard → length heard < most_heard → IsEnvelope e
    → IsHeard c (heard_with c heard e)

-- the empty list is a log
abbrev pub NothingIsHeard : Type 0
NothingIsHeard = (c : Settings) → IsHeard c []

-- ---- how envelopes are answered

-- a message of a log gets the answer of its step at its place, whatever was heard after it
abbrev pub FirstAnswersStay : Type 0
FirstAnswersStay = (c : Settings) (before after : List Envelope) (e : Envelope) → IsHeard c (before ++ e ∷ after)
    → reply_to c (before ++ e ∷ after) e ≡ Answers (step c (state_of c before) e).1

-- another message of its sender with its transaction number is refused
abbrev pub UsedNumbersAreRefused : Type 0
UsedNumbersAreRefused = (c : Settings) (before after : List Envelope) (e other : Envelope) → IsHeard c (before ++ e ∷ after)
    → other.sender ≡ e.sender → other.transaction ≡ e.transaction → other.message ≢ e.message → reply_to c (before ++ e ∷ after) other ≡ Reused

-- a message of a known sender with a new transaction number gets the answer of its step now
abbrev pub NewNumbersAreDecided : Type 0
NewNumbersAreDecided = (c : Settings) (heard : List Envelope) (e : Envelope) → IsTrue (is_sender (state_of c heard) e.sender) → has_pair heard e ≡ false
    → reply_to c heard e ≡ Answers (step c (state_of c heard) e).1
