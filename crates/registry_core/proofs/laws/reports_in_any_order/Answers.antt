-- Join requests and data frames, each with a lemma: both orders of two reports leave one uplink with both receptions.
use Rattle.registry_core.proofs.DataOrder.{data_in_any_order}
use Rattle.registry_core.proofs.JoinOrder.{joins_in_any_order}
use Rattle.registry_core.proofs.laws.reports_in_any_order.Goals as goal

pub returns-clause-joins : goal.returns-clause-joins
returns-clause-joins c = joins_in_any_order

pub returns-clause-data : goal.returns-clause-data
returns-clause-data c = data_in_any_order
