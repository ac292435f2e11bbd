-- The walk over a device's sessions is at one of them, with the first join of the later ones found; the number falls.
use Rattle.std.proofs.Common.{◌≡◌, ◌<◌, true}
use Rattle.registry_core.specs.Derived.{is_of_device}
use Rattle.registry_core.specs.Numbered.{first_that}
use Rattle.desk_store.proofs.Joins.{is_later_join}
use Rattle.desk_store.proofs.lookups.join_in.Given as goal

-- the number is that of one of the device's sessions, if it is one, and of those after it the first was found
abbrev pub invariant-loop-number : goal.invariant-loop-number
invariant-loop-number l = record {
  own : 0 < l.number → is_of_device l.sessions.items l.fn.device l.number ≡ true;
  first : l.found ≡ first_that (is_later_join l.sessions.items l.fn.device l.nonce l.number) l.uplinks;
}

abbrev pub decreases-loop-number : goal.decreases-loop-number
decreases-loop-number l = l.number
