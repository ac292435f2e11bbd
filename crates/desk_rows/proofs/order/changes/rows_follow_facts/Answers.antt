-- Part by part: the facts with the effect, the stored counters, the things that rows name, unique keys, and the number of rows.
use Rattle.desk_rows.proofs.OrderLemmas.Following.{rows_follow}
use Rattle.desk_rows.proofs.order.changes.rows_follow_facts.Goals as goal

pub returns : goal.returns
returns c = rows_follow
