-- What a store stores: the registry's facts, and an entry for each message in the log.
use Rattle.std.specs.Prelude.{◌≡◌, ◌⊎◌, ℕ, Bool, ◌&&◌, ◌==◌, List, [], ◌∷◌, ◌++◌, Option, None, IsTrue, find, bytes_eq}
use Rattle.registry_core.specs.declared.effects.Effect.{Effect}
use Rattle.registry_core.specs.declared.messages.Envelope.{Envelope}
use Rattle.registry_core.specs.Fits.{Fits}
use Rattle.registry_core.specs.Heard.{is_sender}
use Rattle.registry_core.specs.State.{State, state_with}

-- an entry of the log: sender, transaction number, the message's text and its answer's text
pub record Entry : Type 0 where
  pub sender : List ℕ
  pub transaction : ℕ
  pub message : List ℕ
  pub answer : List ℕ

pub record Kept : Type 0 where
  pub facts : State
  pub entries : List Entry

-- the entry has the envelope's sender and transaction number
abbrev pub is_entry_of : Envelope → Entry → Bool
is_entry_of e entry = e.transaction == entry.transaction && bytes_eq e.sender entry.sender

abbrev pub entry_of : Envelope → List Entry → Option Entry
entry_of e entries = find (is_entry_of e) entries

-- the texts of the entry's message and of its answer
abbrev pub texts_of : Entry → List ℕ × List ℕ
texts_of entry = (entry.message, entry.answer)

-- the entry of a message with this envelope, text and answer
abbrev pub entry_with : Envelope → List ℕ → List ℕ → Entry
entry_with e message answer = record { sender = e.sender; transaction = e.transaction; message = message; answer = answer }

-- the effect is applied to the facts, and the message's entry is added at the end
abbrev pub with_entry : Kept → Envelope → List ℕ → Effect → List ℕ → Kept
with_entry kept e message effect answer = record {
  facts = state_with kept.facts effect;
  entries = kept.entries ++ entry_with e message answer ∷ [];
}

-- ---- what a crash may leave

-- this is one of the list
abbrev pub IsOneOf : List Kept → Kept → Type 0
IsOneOf [] kept = ⊥
IsOneOf (k ∷ ks) kept = (kept ≡ k) ⊎ IsOneOf ks kept

-- the lists have an element in common; which one needn't be computable
abbrev pub HaveCommon : List Kept → List Kept → Type 0
HaveCommon a b = ∥ ((kept : Kept) × IsOneOf a kept × IsOneOf b kept) ∥₁

-- ---- when a change can be added

-- the sender is known, its transaction number is new, and the effect adds only what isn't there
pub record CanAdd (kept : Kept) (e : Envelope) (effect : Effect) : Type 0 where
  pub known : IsTrue (is_sender kept.facts e.sender)
  pub new : entry_of e kept.entries ≡ None
  pub effect_fits : Fits effect kept.facts
