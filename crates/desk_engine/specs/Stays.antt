-- A store to which no message was delivered.
use Rattle.std.proofs.Common.{◌≡◌, Bool, true, false, List, Option, None, inl, inr, refl, sym, ◌∙◌}
use Rattle.std.proofs.lemmas.Bool.{true≢false}
use Rattle.registry_core.specs.declared.messages.Envelope.{Envelope}
use Rattle.registry_core.specs.Settings.{Settings}
use Rattle.desk_store.specs.Meaning.{Meaning}
use Rattle.desk_engine.specs.InOrder.{Survives, WasInOrder, doubt_after}
use Rattle.desk_engine.specs.Hearing.{StoreKeeps}

module _ {K : Type 0} (m : Meaning K) (c : Settings) (heard : List Envelope) (keeper : K) where
  -- a crash leaves the same log as before: a store that isn't failed has no in-flight message
  still_survives : (failed : Bool) → m.failed keeper ≡ failed → (doubt : Option Envelope) → Survives m c keeper heard doubt
      → Survives m c keeper heard (doubt_after failed doubt None)
  still_survives true is doubt survives = survives
  still_survives false is doubt survives = elim survives [ inl own ↦ inl own | inr in_doubt ↦ absurd (true≢false (sym in_doubt.2.is_failed ∙ is)) ]

  pub stays : WasInOrder m c heard keeper keeper → StoreKeeps m c heard keeper keeper heard
  stays was = record { leaves = record { order = was.order; crash = still_survives (m.failed keeper) refl }; still = refl }
