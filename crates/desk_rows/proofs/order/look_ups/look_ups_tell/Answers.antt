-- Counters that are stored, rows found by number or by key, and the first in falling order are what the definitions compute from the facts.
use Rattle.desk_rows.proofs.OrderLemmas.LookingUp.{look_ups_tell}
use Rattle.desk_rows.proofs.order.look_ups.look_ups_tell.Goals as goal

pub returns : goal.returns
returns c = look_ups_tell
