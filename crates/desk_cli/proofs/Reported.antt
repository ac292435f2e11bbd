-- Reading a report leaves the store with the log that it represented, unless the disk failed.
use Rattle.std.proofs.Common.{◌≡◌, ◌||◌, false, List, Option, None, inl, inr, ap, sym, ◌∙◌}
use Rattle.std.proofs.lemmas.Bool.{true≢false}
use Rattle.registry_core.specs.declared.messages.Envelope.{Envelope}
use Rattle.registry_core.specs.Settings.{Settings}
use Rattle.desk_store.specs.Calls.{IsRead, is_disk}
use Rattle.desk_store.specs.Meaning.{Meaning}
use Rattle.desk_store.specs.declared.faults.StoreFault.{StoreFault}
use Rattle.desk_engine.specs.InOrder.{kept_after}
use Rattle.desk_engine.specs.Hearing.{StoreKeeps, StoreLeaves}
use Rattle.desk_cli.specs.OnTables.{WasOpened}

module _ {K : Type 0} (m : Meaning K) (c : Settings) (heard : List Envelope) (old new : K) (was : WasOpened m old c heard) (fault : Option StoreFault) (read : IsRead m old new fault) (sound : m.sound new) where
  -- reading leaves all as it was
  pub is_left_as_it_was : StoreLeaves m c heard old new heard None
  is_left_as_it_was = record {
    order = record { list = was.list; kept = read.held (kept_after c heard) sound was.store.holds };
    crash = λ doubt survives. elim survives [
      | inl own ↦ inl (read.left (kept_after c heard) _ sound was.store.holds own)
      | inr in_doubt ↦ absurd (true≢false (sym in_doubt.2.is_failed ∙ was.store.up))
    ];
  }

  pub is_kept_as_it_was : is_disk fault ≡ false → StoreKeeps m c heard old new heard
  is_kept_as_it_was is = record { leaves = is_left_as_it_was; still = read.shut ∙ ap (λ disk. disk || m.failed old) is }
