-- The loop of `airtime_of`: the sum of the lengths so far, which is at most 2^32 for each span.
use Rattle.std.proofs.Common.{◌≡◌, ◌≤◌, ◌*◌, ◌^◌, take}
use Rattle.std.specs.Prelude.{sum_by}
use Rattle.desk_engine.proofs.uses.airtime_of.Given as goal

abbrev pub invariant-loop-span : goal.invariant-loop-span
invariant-loop-span l = (l.airtime ≡ sum_by (λ a. a.len) (take l.span-index l.spans)) × (l.airtime ≤ l.span-index * 2 ^ 32)
