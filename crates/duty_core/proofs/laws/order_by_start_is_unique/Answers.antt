-- Two such orders of a list have the items of each start in the same order, so they are equal.
use Rattle.duty_core.proofs.ByStart.{order_is_unique}
use Rattle.duty_core.proofs.laws.order_by_start_is_unique.Goals as goal

pub returns : goal.returns
returns c = order_is_unique
