-- How much the registry has: no more than it heard messages.
use Rattle.std.specs.Prelude.{◌≢◌, ℕ, ◌+◌, ◌≤◌, Bool, List, length, is_some, IsTrue, All, AllPairs}
use Rattle.registry_core.specs.declared.messages.Envelope.{Envelope}
use Rattle.registry_core.specs.Heard.{state_of}
use Rattle.registry_core.specs.Settings.{Settings}
use Rattle.registry_core.specs.State.{State}

-- There are at most this many keys: no list of different keys that are there, such as a table's rows, is longer.
abbrev pub AtMost : {Key : Type 0} → ℕ → (Key → Bool) → Type 0
AtMost {Key = Key} most is_there = (keys : List Key)
    → AllPairs (λ a b. a ≢ b) keys → All (λ key. IsTrue (is_there key)) keys → length keys ≤ most

-- there is at most this much, after this many messages
pub record HoldsAtMost (messages : ℕ) (s : State) : Type 0 where
  -- the configured operator was there before the first message
  pub senders : AtMost (messages + 1) (λ name. is_some (s.senders name))
  pub owners : AtMost messages s.owners
  pub gateways : AtMost messages s.gateways
  pub devices : AtMost messages (λ dev_eui. is_some (s.devices dev_eui))
  pub limits : AtMost messages (λ (key : ℕ × List ℕ). is_some (s.limits key.1 key.0))
  pub receptions : AtMost messages (λ (key : ℕ × List ℕ). is_some (s.receptions key.0 key.1))
  -- a session has its join uplink
  pub sessions : length s.sessions ≤ length s.uplinks
  pub uplinks_and_bookings : length s.uplinks + length s.bookings ≤ messages

abbrev pub FactsAreNoMoreThanMessages : Type 0
FactsAreNoMoreThanMessages = (c : Settings) (heard : List Envelope)
    → HoldsAtMost (length heard) (state_of c heard)
