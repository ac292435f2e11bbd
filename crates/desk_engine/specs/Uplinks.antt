-- The uplinks after a list of deliveries.
use Rattle.std.specs.Prelude.{◌≡◌, ℕ, List, Some, take}
use Rattle.registry_core.specs.declared.facts.Uplink.{Uplink}
use Rattle.registry_core.specs.declared.messages.Envelope.{Envelope}
use Rattle.registry_core.specs.Heard.{state_of}
use Rattle.registry_core.specs.Numbered.{item_at}
use Rattle.registry_core.specs.Settings.{Settings}
use Rattle.registry_core.specs.State.{State}
use Rattle.desk_engine.specs.Deliveries.{Delivery, heard_all}

-- From one state to a later one: an uplink that is booked stays the only one of its session, kind and counter.
pub record FirstUplinksStay (before after : State) : Type 0 where
  -- it stays under its number, unchanged
  pub stays : (n : ℕ) (u : Uplink) → item_at before.uplinks n ≡ Some u → item_at after.uplinks n ≡ Some u
  -- and an uplink of its session, its kind and its counter is this one
  pub first : (m n : ℕ) (u v : Uplink) → item_at before.uplinks m ≡ Some u → item_at after.uplinks n ≡ Some v
      → v.session ≡ u.session → v.kind ≡ u.kind → v.counter ≡ u.counter → (n ≡ m) × (v ≡ u)

-- What is booked after any first deliveries of the list stays until after the last.
abbrev pub UplinksStayBooked : Settings → List Envelope → List Delivery → Type 0
UplinksStayBooked c heard ds = (count : ℕ) → FirstUplinksStay (state_of c (heard_all c heard (take count ds))) (state_of c (heard_all c heard ds))
