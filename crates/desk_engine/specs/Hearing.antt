-- What calls in which messages may be heard do to a store.
use Rattle.std.specs.Prelude.{◌≡◌, Bool, List, Option, None}
use Rattle.registry_core.specs.declared.messages.Envelope.{Envelope}
use Rattle.registry_core.specs.Settings.{Settings}
use Rattle.desk_store.specs.declared.faults.StoreFault.{StoreFault}
use Rattle.desk_store.specs.Calls.{IsCall, is_disk, is_not_a_desk}
use Rattle.desk_store.specs.Meaning.{Meaning}
use Rattle.desk_engine.specs.InOrder.{HoldsRules, IsInOrder, Survives, WasInOrder, doubt_after}

-- `disk` and `not_a_desk` state whether one of the calls returned `Disk` or `NotADesk`. If the store represented a log, it represents the log
-- that `after` makes of it. A crash then leaves that log, or that log with the in-flight message. What the store represents satisfies the
-- registry's rules.
pub record Hears {K : Type 0} (m : Meaning K) (old new : K) (disk not_a_desk : Bool) (after : Settings → List Envelope → List Envelope) (doubtful : Settings → Option Envelope) : Type 0 where
  pub call : IsCall m old new disk not_a_desk
  pub order : (c : Settings) (heard : List Envelope) → WasInOrder m c heard old new → IsInOrder m c new (after c heard)
  pub crash : (c : Settings) (heard : List Envelope) (doubt : Option Envelope) → WasInOrder m c heard old new → Survives m c old heard doubt
      → Survives m c new (after c heard) (doubt_after (m.failed old) doubt (doubtful c))
  pub rules : (c : Settings) (heard : List Envelope) → WasInOrder m c heard old new → HoldsRules m new

-- ---- the same, by the error that was returned

-- calls of a store in a row, or none; one of them returned `Disk` or `NotADesk` only if this is that error
abbrev pub IsCallWith : {K : Type 0} → Meaning K → K → K → Option StoreFault → Type 0
IsCallWith m old new fault = IsCall m old new (is_disk fault) (is_not_a_desk fault)

-- the same of calls in which messages may be heard
abbrev pub HearsWith : {K : Type 0} → Meaning K → K → K → Option StoreFault → (Settings → List Envelope → List Envelope) → (Settings → Option Envelope) → Type 0
HearsWith m old new fault after doubtful = Hears m old new (is_disk fault) (is_not_a_desk fault) after doubtful

-- ---- the same, of a call that returned how it ended

module _ {K : Type 0} (m : Meaning K) (c : Settings) (heard : List Envelope) (old new : K) where
  -- the store represents this log, and a crash leaves it, or it with the in-flight message
  pub record StoreLeaves (after : List Envelope) (now : Option Envelope) : Type 0 where
    pub order : IsInOrder m c new after
    pub crash : (doubt : Option Envelope) → Survives m c old heard doubt → Survives m c new after (doubt_after (m.failed old) doubt now)

  -- the store is failed only if it was before, and a crash leaves this log
  pub record StoreKeeps (after : List Envelope) : Type 0 where
    pub leaves : StoreLeaves after None
    pub still : m.failed new ≡ m.failed old
