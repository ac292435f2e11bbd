-- The opening rows have a configuration and one sender, and so has the opening state; all else is empty in both.
use Rattle.desk_rows.proofs.OrderLemmas.Opening.{opening_tells}
use Rattle.desk_rows.proofs.order.changes.opening_rows_tell.Goals as goal

pub returns : goal.returns
returns c = opening_tells
