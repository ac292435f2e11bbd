-- When a store represents a log (the abstraction relation), and what a crash may leave of it.
use Rattle.std.specs.Prelude.{◌≡◌, ◌⊎◌, ◌≤◌, Bool, true, false, List, [], ◌∷◌, ◌++◌, length, map, Option, Some, if◌then◌else◌}
use Rattle.registry_core.specs.declared.answers.Answer.{Answer}
use Rattle.registry_core.specs.declared.messages.Envelope.{Envelope}
use Rattle.registry_core.specs.Rules.{GoesByRules}
use Rattle.registry_core.specs.Heard.{IsHeard, answers_of, most_heard, state_of}
use Rattle.registry_core.specs.Settings.{Settings}
use Rattle.desk_store.specs.Kept.{Entry, Kept, entry_with}
use Rattle.desk_store.specs.Meaning.{Meaning}
use Rattle.desk_wire.specs.Answers.{answer_text, head_of_envelope}
use Rattle.desk_wire.specs.Writing.{message_text}

-- the entry of an envelope, with the answer that was given at its place in the log
abbrev pub entry_at : Settings → Envelope × Answer → Entry
entry_at c x = entry_with x.0 (message_text c.receiver x.0) (answer_text c.receiver (head_of_envelope x.0) x.1)

-- an entry for each envelope, in order, with the answer that its step gives at its place
abbrev pub entries_of : Settings → List Envelope → List Entry
entries_of c heard = map (entry_at c) (answers_of c heard)

-- what a store represents after this log
unfoldable pub kept_after : Settings → List Envelope → Kept
kept_after c heard = record { facts = state_of c heard; entries = entries_of c heard }

-- this is a log, and the store represents it
pub record IsInOrder {K : Type 0} (m : Meaning K) (c : Settings) (keeper : K) (heard : List Envelope) : Type 0 where
  pub list : IsHeard c heard
  pub kept : m.holds keeper (kept_after c heard)

-- the store has this configuration and represented the log before a call, and it is sound after it
pub record WasInOrder {K : Type 0} (m : Meaning K) (c : Settings) (heard : List Envelope) (old new : K) : Type 0 where
  pub its : c ≡ m.configuration old
  pub sound : m.sound new
  pub order : IsInOrder m c old heard

-- `P` is true of each configuration and log that the store represented before a call, if it is sound after it
abbrev pub ForLog : {K : Type 0} → Meaning K → K → K → (Settings → List Envelope → Type 0) → Type 0
ForLog m old new P = (c : Settings) (heard : List Envelope) → WasInOrder m c heard old new → P c heard

-- the log has as many messages as it may have, or the store's medium named its own size in the last call that wrote
abbrev pub HasNoRoom : {K : Type 0} → Meaning K → K → List Envelope → Type 0
HasNoRoom m keeper heard = (most_heard ≤ length heard) ⊎ m.out_of_space keeper

-- whatever a store that isn't failed represents satisfies the registry's rules
abbrev pub HoldsRules : {K : Type 0} → Meaning K → K → Type 0
HoldsRules m keeper = (kept : Kept) → m.failed keeper ≡ false → m.holds keeper kept → GoesByRules kept.facts

-- the store is failed, the in-flight message could be added to the log, and a crash leaves the log without it or with it
pub record IsInDoubt {K : Type 0} (m : Meaning K) (c : Settings) (keeper : K) (heard : List Envelope) (e : Envelope) : Type 0 where
  pub is_failed : m.failed keeper ≡ true
  pub list : IsHeard c (heard ++ e ∷ [])
  pub left : m.leaves keeper (kept_after c heard ∷ kept_after c (heard ++ e ∷ []) ∷ [])

-- A crash leaves what represents the log. Only if a disk error failed the store at an in-flight message, it may be the log with that
-- message.
abbrev pub Survives : {K : Type 0} → Meaning K → Settings → K → List Envelope → Option Envelope → Type 0
Survives m c keeper heard doubt =
    m.leaves keeper (kept_after c heard ∷ [])
    ⊎ ((e : Envelope) × (doubt ≡ Some e) × IsInDoubt m c keeper heard e)

-- the in-flight message of a store that was failed before stays the same
abbrev pub doubt_after : Bool → Option Envelope → Option Envelope → Option Envelope
doubt_after was_failed before now = if was_failed then before else now
