-- Envelopes heard in order, up to the first that is Unavailable.
use Rattle.std.specs.Prelude.{◌≡◌, false, List, [], ◌∷◌, Option, Some, None, length, take, if◌then◌else◌}
use Rattle.registry_core.specs.declared.messages.Envelope.{Envelope}
use Rattle.registry_core.specs.Heard.{heard_with}
use Rattle.registry_core.specs.Settings.{Settings}
use Rattle.desk_store.specs.declared.faults.StoreFault.{StoreFault}
use Rattle.desk_store.specs.declared.faults.StoreFault.TheVariants.{Size}
use Rattle.desk_store.specs.Calls.{is_disk}
use Rattle.desk_store.specs.Meaning.{Meaning}
use Rattle.desk_engine.specs.declared.importing.Imported.{Imported}
use Rattle.desk_engine.specs.declared.outcomes.Outcome.{Outcome}
use Rattle.desk_engine.specs.Hearing.{HearsWith}
use Rattle.desk_engine.specs.InOrder.{ForLog, HasNoRoom}
use Rattle.desk_engine.specs.Outcomes.{IsOutcome, is_unavailable}
use Rattle.desk_engine.specs.Told.{told_of_envelope}

-- the log after the envelopes, one after another
abbrev pub heard_in_order : Settings → List Envelope → List Envelope → List Envelope
heard_in_order c heard [] = heard
heard_in_order c heard (e ∷ es) = heard_in_order c (heard_with c heard e) es

-- each outcome is the answer of its envelope after the ones before it, and none is Unavailable
abbrev pub AreAnswers : Settings → List Envelope → List Envelope → List Outcome → Type 0
AreAnswers c heard [] [] = Unit {0}
AreAnswers c heard (e ∷ es) (o ∷ os) = IsOutcome (told_of_envelope c heard e) o × (is_unavailable o ≡ false) × AreAnswers c (heard_with c heard e) es os
AreAnswers c heard [] (o ∷ os) = ⊥
AreAnswers c heard (e ∷ es) [] = ⊥

-- the in-flight message after a disk error: the first with no answer
abbrev pub doubt_at_stop : List Envelope → List Outcome → Option StoreFault → Option Envelope
doubt_at_stop [] os stopped = None
doubt_at_stop (e ∷ es) [] stopped = if is_disk stopped then Some e else None
doubt_at_stop (e ∷ es) (o ∷ os) stopped = doubt_at_stop es os stopped

-- ---- what an import returns

module _ (envelopes : List Envelope) (imported : Imported) where
  -- the log after the envelopes that have an answer
  abbrev pub heard_by_import : Settings → List Envelope → List Envelope
  heard_by_import c heard = heard_in_order c heard (take (length imported.answers.items) envelopes)

  -- the answers are those of the first envelopes, each after the ones before it
  abbrev pub AnswersImported : Settings → List Envelope → Type 0
  AnswersImported c heard = AreAnswers c heard (take (length imported.answers.items) envelopes) imported.answers.items

module _ {K : Type 0} (m : Meaning K) (old new : K) (envelopes : List Envelope) (imported : Imported) where
  -- If the store represented a log, it represents the log after the envelopes that have an answer.
  abbrev pub HearsImported : Type 0
  HearsImported = HearsWith m old new imported.stopped (λ c heard. heard_by_import envelopes imported c heard)
      (λ c. doubt_at_stop envelopes imported.answers.items imported.stopped)

  -- if it stopped with `Size`, the log by then has as many messages as it may have, or the store's medium named its own size in the last
  -- call that wrote
  abbrev pub NoRoomIfStopped : Type 0
  NoRoomIfStopped = ForLog m old new (λ c heard. imported.stopped ≡ Some Size → HasNoRoom m new (heard_by_import envelopes imported c heard))
