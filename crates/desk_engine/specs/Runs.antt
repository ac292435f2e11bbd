-- What a run over texts does to a store, and which outcomes it returns.
use Rattle.std.specs.Prelude.{◌≡◌, ℕ, false, List, [], Result, IfOk, map, take}
use Rattle.std.specs.Global.{Vec}
use Rattle.std.specs.Borrow.{Bor}
use Rattle.registry_core.specs.declared.messages.Envelope.{Envelope}
use Rattle.registry_core.specs.Rules.{GoesByRules}
use Rattle.registry_core.specs.Heard.{state_of}
use Rattle.registry_core.specs.Settings.{Settings}
use Rattle.desk_store.specs.Kept.{Kept}
use Rattle.desk_store.specs.Meaning.{Meaning}
use Rattle.desk_engine.specs.declared.outcomes.Outcome.{Outcome}
use Rattle.desk_engine.specs.Deliveries.{Delivery, heard_all}
use Rattle.desk_engine.specs.Hearing.{Hears}
use Rattle.desk_engine.specs.InOrder.{ForLog, kept_after}
use Rattle.desk_engine.specs.Outcomes.{deliveries_of, first_doubt, has_disk, has_not_a_desk}
use Rattle.desk_engine.specs.Sizes.{AreDelivered}

-- the octets of each text
abbrev pub octets_of : List (Bor (List ℕ)) → List (List ℕ)
octets_of texts = map (λ t. t.now) texts

-- the deliveries of the texts with these outcomes
abbrev pub deliveries_in : List (Bor (List ℕ)) → Vec Outcome → List Delivery
deliveries_in texts outcomes = deliveries_of (octets_of texts) outcomes.items

-- the state after any first of the deliveries satisfies the registry's rules
abbrev pub AlwaysGoesByRules : Settings → List Envelope → List Delivery → Type 0
AlwaysGoesByRules c heard ds = (n : ℕ) → GoesByRules (state_of c (heard_all c heard (take n ds)))

-- no outcome has `Disk` or `NotADesk`
abbrev pub HasNoMediumFault : Vec Outcome → Type 0
HasNoMediumFault outcomes = (has_disk outcomes.items ≡ false) × (has_not_a_desk outcomes.items ≡ false)

-- what a new store represents after a run over the texts with these outcomes
abbrev pub kept_after_run : Settings → List (Bor (List ℕ)) → Vec Outcome → Kept
kept_after_run c texts outcomes = kept_after c (heard_all c [] (deliveries_in texts outcomes))

module _ {K : Type 0} (m : Meaning K) (old new : K) (texts : List (Bor (List ℕ))) where
  -- The texts were delivered in order with these outcomes. If the store represented a log, it represents the log after these deliveries.
  abbrev pub HearsTexts : Vec Outcome → Type 0
  HearsTexts outcomes = Hears m old new (has_disk outcomes.items) (has_not_a_desk outcomes.items)
      (λ c heard. heard_all c heard (deliveries_in texts outcomes)) (λ c. first_doubt c (octets_of texts) outcomes.items)

  module _ {E : Type 0} (result : Result (Vec Outcome) E) where
    -- if there are outcomes, `P` is true of the texts and their outcomes, for each log that the store represented before the run
    abbrev pub IfRun : (Settings → List Envelope → List (List ℕ) → List Outcome → Type 0) → Type 0
    IfRun P = ForLog m old new (λ c heard. IfOk result (λ outcomes. P c heard (octets_of texts) outcomes.items))

    -- the same of the deliveries of the texts with their outcomes
    abbrev pub IfRunDelivers : (Settings → List Envelope → List Delivery → Type 0) → Type 0
    IfRunDelivers P = ForLog m old new (λ c heard. IfOk result (λ outcomes. P c heard (deliveries_in texts outcomes)))

    -- each text was delivered to the store that the one before it left
    abbrev pub DeliversInOrder : Type 0
    DeliversInOrder = ForLog m old new (λ c heard. IfOk result (λ outcomes. AreDelivered m c heard old new (octets_of texts) outcomes.items))
