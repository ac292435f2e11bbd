-- The loop of `room`: `least` is 0 or has room, no length above `greatest` has room, and the two come closer.
use Rattle.std.proofs.Common.{ℕ, ◌≤◌, ◌<◌, ◌-◌}
use Rattle.std.specs.Prelude.{IsTrue}
use Rattle.duty_core.specs.InOrder.{StartsAscend}
use Rattle.duty_core.specs.Room.{HasRoom}
use Rattle.duty_core.proofs.rooms.room.Given as goal

abbrev pub invariant-loop-least : goal.invariant-loop-least
invariant-loop-least l = record {
  order : l.least ≤ l.greatest;
  most : l.greatest ≤ l.most;
  has : 0 < l.least → HasRoom l.all l.of_band l.start l.limit l.least;
  none : (n : ℕ) → l.greatest < n → n ≤ l.most → ¬ HasRoom l.all l.of_band l.start l.limit n;
  ascend : IsTrue l.ordered → StartsAscend l.of_band;
}

abbrev pub decreases-loop-least : goal.decreases-loop-least
decreases-loop-least l = l.greatest - l.least
