-- What a commit does, whatever it returns, and what the store notes of a transaction.
use Rattle.std.specs.Prelude.{◌≡◌, ◌⊎◌, ◌≤◌, ◌+◌, ◌||◌, ℕ, true, false, List, [], ◌∷◌, length, Result, Ok, Err, Some, IfErr, OnOk, OnErr, IsErrOf, is_ok}
use Rattle.registry_core.specs.declared.effects.Effect.{Effect}
use Rattle.registry_core.specs.declared.messages.Envelope.{Envelope}
use Rattle.registry_core.specs.Heard.{most_heard}
use Rattle.registry_core.specs.State.{State, state_with}
use Rattle.sqlite_trees.specs.declared.store.Store.{Ghosts}
use Rattle.sqlite.specs.Held.{state}
use Rattle.desk_store.specs.declared.faults.StoreFault.{StoreFault}
use Rattle.desk_store.specs.declared.faults.StoreFault.TheVariants.{Disk, Size}
use Rattle.desk_store.specs.declared.looks.Counts.{Counts}
use Rattle.desk_store.specs.Calls.{ForHeld, IsCall, IsOfCalls, IsUnavailability, TellsFailed, fault_in, is_disk, is_not_a_desk}
use Rattle.desk_store.specs.Kept.{CanAdd, Kept, with_entry}
use Rattle.desk_store.specs.Meaning.{Meaning}
use Rattle.desk_store.specs.Parts.{AreCounts}
use Rattle.desk_rows.specs.declared.faults.RowFault.{RowFault}
use Rattle.desk_tables.specs.Seen.{seen_after}
use Rattle.desk_tables.specs.declared.tables.Tables.{Tables}
use Rattle.desk_tables.specs.steps.CheckedFaults.{IsCheckedFault, is_size}

-- ---- counts

-- there are no more sessions, uplinks or bookings than messages that may be heard
pub record AreFew (s : State) : Type 0 where
  pub sessions : length s.sessions ≤ most_heard
  pub uplinks : length s.uplinks ≤ most_heard
  pub bookings : length s.bookings ≤ most_heard

-- counts that are right for some facts become right for the facts with the effect
abbrev pub CountsWith : Effect → Counts → Counts → Type 0
CountsWith effect old new = (s : State) → AreFew s → AreCounts s old → AreCounts (state_with s effect) new

-- ---- a transaction

module _ {S : Type 0} (g : Ghosts S) where
  -- the error is settled, and the store notes the error that it returns
  pub record KeepsFault (old new : Tables S) (fault : RowFault) (told : StoreFault) : Type 0 where
    pub checked : IsCheckedFault (state g old.conn) (state g new.conn) fault told
    pub same : new
        ≡ record old { conn = new.conn; failed = is_disk (Some told) || old.failed; not_a_desk = is_not_a_desk (Some told) || old.not_a_desk; out_of_space = is_size told }

  -- the store counts one more message and what the effect adds, and its cache has what is still so; or it notes the error for which there
  -- is none
  abbrev pub IsNoted : Effect → Tables S → Tables S → Result (Unit {0}) RowFault → Result (Unit {0}) StoreFault → Type 0
  IsNoted effect old new (Ok done) result = (result ≡ Ok done)
      × (new ≡ record old { out_of_space = false; heard = old.heard + 1; counts = new.counts; seen = seen_after old.seen }) × CountsWith effect old.counts new.counts
  IsNoted effect old new (Err fault) result = (told : StoreFault) × (result ≡ Err told) × KeepsFault old new fault told

-- ---- a commit

-- the clauses of a store's commit
pub record IsCommit {K : Type 0} (m : Meaning K) (old new : K) (e : Envelope) (message : List ℕ) (effect : Effect) (answer : List ℕ)
    (result : Result (Unit {0}) StoreFault) : Type 0 where
  pub call : IsCall m old new (is_disk (fault_in result)) (is_not_a_desk (fault_in result))
  pub told : IsOfCalls (fault_in result)
  pub failed : TellsFailed m old result
  pub added : ForHeld m old new (λ kept. CanAdd kept e effect → OnOk result (m.holds new (with_entry kept e message effect answer)))
  pub neither : ForHeld m old new (λ kept. OnErr result (m.holds new kept))
  pub fault : ForHeld m old new (λ kept. CanAdd kept e effect → IfErr result IsUnavailability)
  pub size : ForHeld m old new (λ kept. result ≡ Err Size → (most_heard ≤ length kept.entries) ⊎ m.out_of_space new)
  pub no_room : ForHeld m old new (λ kept. m.failed old ≡ false → most_heard ≤ length kept.entries
      → (is_ok result ≡ false) × m.leaves new (kept ∷ []))
  pub doubt : ForHeld m old new (λ kept. CanAdd kept e effect → m.failed old ≡ false → IsErrOf result Disk
      → m.leaves new (kept ∷ with_entry kept e message effect answer ∷ []))
  pub stays : (all : List Kept) → m.sound new → m.failed old ≡ true → m.leaves old all → m.leaves new all
  pub undone : (stored : m.Stored) → m.sound new → m.rests old stored → OnErr result (m.rests new stored)
  pub rests : (stored : m.Stored) → m.sound new → m.rests old stored → (after : m.Stored) × m.rests new after
