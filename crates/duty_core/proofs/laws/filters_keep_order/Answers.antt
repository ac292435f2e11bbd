-- Taking items out of a list leaves the others in their order, so a list by start stays one.
use Rattle.duty_core.proofs.ByStart.{filters_keep_order, near_ones_keep_order}
use Rattle.duty_core.proofs.laws.filters_keep_order.Goals as goal

pub returns-clause-any : goal.returns-clause-any
returns-clause-any c = filters_keep_order

pub returns-clause-near : goal.returns-clause-near
returns-clause-near c = near_ones_keep_order
