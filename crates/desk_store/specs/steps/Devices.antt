-- Devices that are found by their owner, ordered by DevEUI.
use Rattle.std.specs.Prelude.{◌≡◌, ℕ, Bool, false, List, Option, Some, None, bytes_eq}
use Rattle.std.specs.BTreeSet.{BTreeSet, contains}
use Rattle.std.specs.Cmp.Lexicographic.{slice_cmp}
use Rattle.std.specs.Option.{option_map_or}
use Rattle.std.specs.declared.cmp.Ordering.{Ordering}
use Rattle.std.specs.Ordering.{nat_cmp, on, then_cmp}
use Rattle.std.specs.declared.ops.Bound.{Bound}
use Rattle.std.specs.declared.ops.Bound.TheVariants.{Included, Excluded}
use Rattle.registry_core.specs.declared.facts.Device.{Device}
use Rattle.desk_store.specs.declared.devices.Owned.{Owned}
use Rattle.desk_store.specs.Devices.{devices_of}

-- ordered by owner, and those of one owner by DevEUI
abbrev pub owned_cmp : Owned → Owned → Ordering
owned_cmp = then_cmp (on (λ o. o.owner) (slice_cmp nat_cmp)) (on (λ o. o.dev_eui) nat_cmp)

-- there is a device, and this is its owner
abbrev pub is_owned_by : List ℕ → Option Device → Bool
is_owned_by owner found = option_map_or (λ (device : Device). bytes_eq device.owner owner) found false

-- the set has each device with its owner, and no other pair
pub record AreOwned (devices : List (ℕ × Device)) (owned : BTreeSet Owned) : Type 0 where
  pub has : (pair : Owned) → contains owned_cmp owned pair ≡ is_owned_by pair.owner (devices_of devices pair.dev_eui)

-- the bound at which the owner's devices above this DevEUI begin, or all of them
abbrev pub bound_above : List ℕ → Option ℕ → Bound Owned
bound_above owner (Some dev_eui) = Excluded (record { owner = owner; dev_eui = dev_eui })
bound_above owner None = Included (record { owner = owner; dev_eui = 0 })
