-- Laws of the log after deliveries.
use Rattle.std.specs.Prelude.{◌≡◌, ℕ, ◌<◌, ◌||◌, Bool, false, List, [], ◌∷◌, ◌++◌, length, map, All, Option, Some, None, IfOk, if◌then◌else◌}
use Rattle.registry_core.specs.declared.answers.Answer.{Answer}
use Rattle.registry_core.specs.declared.messages.Envelope.{Envelope}
use Rattle.registry_core.specs.Heard.{IsHeard, heard_with, most_heard, pair_place}
use Rattle.registry_core.specs.Laws.{adds_sender}
use Rattle.registry_core.specs.Ranges.{IsEnvelope, IsSettings}
use Rattle.registry_core.specs.Settings.{Settings}
use Rattle.registry_core.specs.State.{opening}
use Rattle.desk_store.specs.declared.faults.StoreFault.{StoreFault}
use Rattle.desk_store.specs.Calls.{IsRead, is_disk, is_not_a_desk}
use Rattle.desk_store.specs.Lists.{kept_of, lists_meaning, settings_of}
use Rattle.desk_store.specs.declared.lists.Lists.{Lists}
use Rattle.desk_store.specs.Meaning.{Meaning}
use Rattle.desk_wire.specs.Writing.{message_text}
use Rattle.desk_engine.specs.Deliveries.{Delivery, heard_after, heard_all}
use Rattle.desk_engine.specs.Hearing.{Hears}
use Rattle.desk_engine.specs.InOrder.{WasInOrder, kept_after}
use Rattle.desk_engine.specs.Told.{Told, envelope_of_text, told_of_envelope, told_of_text}

-- a log with one more delivery is a log, as long as it has fewer messages than it may have
abbrev pub DeliveriesLeaveHeardLists : Type 0
DeliveriesLeaveHeardLists = (c : Settings) (heard : List Envelope) (d : Delivery) → IsSettings c → IsHeard c heard → length heard < most_heard
    → IsHeard c (heard_after c heard d)

-- deliveries add to a log at its end only
abbrev pub DeliveriesAddAtTheEnd : Type 0
DeliveriesAddAtTheEnd = (c : Settings) (heard : List Envelope) (ds : List Delivery) → (more : List Envelope) × (heard_all c heard ds ≡ heard ++ more)

-- ---- entries

-- what a store represents after a log has as many entries as the log has messages
abbrev pub AsManyEntriesAsMessages : Type 0
AsManyEntriesAsMessages = (c : Settings) (heard : List Envelope) → length (kept_after c heard).entries ≡ length heard

-- ---- lists in memory

-- new lists of this configuration represented the empty log before a call, whatever they are after it
abbrev pub NewListsAreInOrder : Type 0
NewListsAreInOrder = (c : Settings) (made old new : Lists) → IsHeard c [] → old ≡ made
    → kept_of made ≡ record { facts = opening c; entries = [] } → settings_of made ≡ c → WasInOrder lists_meaning c [] old new

-- ---- calls in which messages may be heard

module _ {K : Type 0} (m : Meaning K) where
  -- calls, and then more: the log has what the first heard before what the others heard, and the first disk error determines the in-flight
  -- message
  abbrev pub CallsHearInOrder : Type 0
  CallsHearInOrder = (old mid new : K) (first_disk first_not_a_desk disk not_a_desk : Bool) (first_after after : Settings → List Envelope → List Envelope) (first_doubt doubtful : Settings → Option Envelope)
      → Hears m old mid first_disk first_not_a_desk first_after first_doubt → Hears m mid new disk not_a_desk after doubtful
      → Hears m old new (first_disk || disk) (first_not_a_desk || not_a_desk) (λ c heard. after c (first_after c heard)) (λ c. if first_disk then first_doubt c else doubtful c)

  -- calls that only read hear nothing
  abbrev pub ReadsHearNothing : Type 0
  ReadsHearNothing = (old new : K) (fault : Option StoreFault) → IsRead m old new fault
      → Hears m old new (is_disk fault) (is_not_a_desk fault) (λ c heard. heard) (λ c. None)

  -- without a call nothing is heard
  abbrev pub NoCallHearsNothing : Type 0
  NoCallHearsNothing = (keeper : K) → Hears m keeper keeper false false (λ c heard. heard) (λ c. None)

-- ---- an answer that was given stays

-- whatever is delivered, by any sender, an envelope of the log stays at its place, with the answer that was given there
abbrev pub KeptAnswersStay : Type 0
KeptAnswersStay = (c : Settings) (heard : List Envelope) (d : Delivery) (e : Envelope) (kept : Envelope × Answer) → pair_place c heard e ≡ Some kept
    → pair_place c (heard_after c heard d) e ≡ Some kept

-- ---- a message's own text

-- the text as a delivery that isn't answered Unavailable
abbrev pub delivered : List ℕ → Delivery
delivered text = record { text = text; unavailable = false }

-- An envelope's own text is answered as the envelope is, and the log after the text is the log after the envelope.
abbrev pub MessagesAreDelivered : Type 0
MessagesAreDelivered = (c : Settings) (heard : List Envelope) (e : Envelope) → IsSettings c → IsEnvelope e → let text : List ℕ = message_text c.receiver e in
    (told_of_text c heard text ≡ told_of_envelope c heard e) × (heard_after c heard (delivered text) ≡ heard_with c heard e)

-- ---- the same texts again

-- the answer of each text, after the ones before it
abbrev pub told_each : Settings → List Envelope → List (List ℕ) → List Told
told_each c heard [] = []
told_each c heard (text ∷ texts) = told_of_text c heard text ∷ told_each c (heard_after c heard (delivered text)) texts

-- the text adds no sender
abbrev pub AddsNoSender : Settings → List ℕ → Type 0
AddsNoSender c text = IfOk (envelope_of_text c text) (λ e. adds_sender e.message ≡ false)

-- If no text adds a sender and the texts are delivered again at once, and none is answered Unavailable then either, each gets the answer
-- that it got, and the log stays the same.
abbrev pub HeardAgain : Type 0
HeardAgain = (c : Settings) (heard : List Envelope) (texts : List (List ℕ)) → All (AddsNoSender c) texts → let after : List Envelope = heard_all c heard (map delivered texts) in
    (told_each c after texts ≡ told_each c heard texts) × (heard_all c after (map delivered texts) ≡ after)
