-- An input begins with at most one request of the grammar, and what is refused as no head has none within the limits.
use Rattle.desk_http.proofs.OneHead.{heads_are_one, no_head_is_none}
use Rattle.desk_http.proofs.laws.heads_are_one.Goals as goal

pub returns-clause-one : goal.returns-clause-one
returns-clause-one c = heads_are_one

pub returns-clause-none : goal.returns-clause-none
returns-clause-none c = no_head_is_none
