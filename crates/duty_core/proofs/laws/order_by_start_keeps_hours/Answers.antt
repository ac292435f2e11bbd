-- A list by start is a permutation of the list, and the hours and the peak don't depend on the order.
use Rattle.duty_core.proofs.ByStart.{ordered_hours, ordered_peak}
use Rattle.duty_core.proofs.laws.order_by_start_keeps_hours.Goals as goal

pub returns-clause-hours : goal.returns-clause-hours
returns-clause-hours c = ordered_hours

pub returns-clause-peak : goal.returns-clause-peak
returns-clause-peak c = ordered_peak
