-- The walk over a device's sessions is at one of them, with the places of the later ones collected; the number falls.
use Rattle.std.proofs.Common.{◌≡◌, ◌<◌, true}
use Rattle.std.specs.Prelude.{IsPermutation}
use Rattle.registry_core.specs.Derived.{is_of_device}
use Rattle.desk_store.proofs.UplinksTold.{places_later}
use Rattle.desk_store.proofs.reports.places_in.Given as goal

-- the number is that of one of the device's sessions, if it is one, and the places of those after it are there
abbrev pub invariant-loop-number : goal.invariant-loop-number
invariant-loop-number l = record {
  own : 0 < l.number → is_of_device l.sessions.items l.fn.device l.number ≡ true;
  later : IsPermutation (places_later l.uplinks l.sessions.items l.fn.device l.band l.period.from l.period.to l.number) l.places.items;
}

abbrev pub decreases-loop-number : goal.decreases-loop-number
decreases-loop-number l = l.number
