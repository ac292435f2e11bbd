-- The walk over a device's sessions is at one of them, and no later one has a data uplink; the number falls.
use Rattle.std.proofs.Common.{◌≡◌, ◌<◌, true, false}
use Rattle.registry_core.specs.Derived.{is_below_floor, is_of_device}
use Rattle.desk_store.proofs.lookups.is_below_floor.Given as goal

-- the number is that of one of the device's sessions, if it is one, and none after it has a data uplink
abbrev pub invariant-loop-number : goal.invariant-loop-number
invariant-loop-number l = record {
  own : 0 < l.number → is_of_device l.sessions.items l.fn.device l.number ≡ true;
  none : is_below_floor l.uplinks l.sessions.items l.fn.device l.number ≡ false;
}

abbrev pub decreases-loop-number : goal.decreases-loop-number
decreases-loop-number l = l.number
