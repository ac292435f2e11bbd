-- When a delivery is Unavailable because the store is out of space.
use Rattle.std.specs.Prelude.{◌≡◌, ◌≤◌, ℕ, List, [], ◌∷◌, length, Some}
use Rattle.registry_core.specs.declared.messages.Envelope.{Envelope}
use Rattle.registry_core.specs.Heard.{most_heard}
use Rattle.registry_core.specs.Settings.{Settings}
use Rattle.desk_store.specs.declared.faults.StoreFault.TheVariants.{Size}
use Rattle.desk_store.specs.Calls.{is_disk, is_not_a_desk}
use Rattle.desk_store.specs.Meaning.{Meaning}
use Rattle.desk_engine.specs.declared.outcomes.Outcome.{Outcome}
use Rattle.desk_engine.specs.Deliveries.{heard_after}
use Rattle.desk_engine.specs.Hearing.{Hears}
use Rattle.desk_engine.specs.InOrder.{HasNoRoom}
use Rattle.desk_engine.specs.Outcomes.{delivery_of, doubt_of_text, outcome_fault}

module _ {K : Type 0} (m : Meaning K) (c : Settings) where
  -- The text was delivered to the store `old`, which represented this log, and the call left the store `new`. If the outcome is Unavailable
  -- with `Size`, the log has as many messages as it may have, or the store's medium named its own size in this call.
  pub record IsDelivered (heard : List Envelope) (old new : K) (text : List ℕ) (o : Outcome) : Type 0 where
    pub hears : Hears m old new (is_disk (outcome_fault o)) (is_not_a_desk (outcome_fault o))
        (λ s list. heard_after s list (delivery_of text o)) (λ s. doubt_of_text s text o)
    pub size : outcome_fault o ≡ Some Size → HasNoRoom m new heard

  -- The texts were delivered one after another, each to the store that the call before it left.
  abbrev pub AreDelivered : List Envelope → K → K → List (List ℕ) → List Outcome → Type 0
  AreDelivered heard old new [] [] = old ≡ new
  AreDelivered heard old new (t ∷ ts) (o ∷ os) =
      (next : K) × IsDelivered heard old next t o × AreDelivered (heard_after c heard (delivery_of t o)) next new ts os
  AreDelivered heard old new [] (o ∷ os) = ⊥
  AreDelivered heard old new (t ∷ ts) [] = ⊥

-- For stores whose media have no size of their own: where an outcome is Unavailable with `Size`, the log has as many messages as it may
-- have.
abbrev pub SizesAreMostHeard : Settings → List Envelope → List (List ℕ) → List Outcome → Type 0
SizesAreMostHeard c heard (t ∷ ts) (o ∷ os) =
    (outcome_fault o ≡ Some Size → most_heard ≤ length heard) × SizesAreMostHeard c (heard_after c heard (delivery_of t o)) ts os
SizesAreMostHeard c heard (t ∷ ts) [] = Unit {0}
SizesAreMostHeard c heard [] os = Unit {0}
