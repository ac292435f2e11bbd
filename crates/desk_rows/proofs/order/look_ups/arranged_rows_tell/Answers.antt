-- Rows filtered and ordered by start, and the first device by DevEUI, are what the registry's definitions list.
use Rattle.desk_rows.proofs.OrderLemmas.Arranging.{arranged_rows_tell}
use Rattle.desk_rows.proofs.order.look_ups.arranged_rows_tell.Goals as goal

pub returns : goal.returns
returns c = arranged_rows_tell
