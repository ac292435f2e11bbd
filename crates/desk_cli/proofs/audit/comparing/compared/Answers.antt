-- The replies are the same in both, so the first place where later tables differ, or none, is the finding of all.
use Rattle.std.proofs.Common.{arith}
use Rattle.desk_cli.proofs.Compared.{then_later}
use Rattle.desk_cli.proofs.audit.comparing.compared.Goals as goal

pub returns-in-Some-clause-compared : goal.returns-in-Some-clause-compared
returns-in-Some-clause-compared g c one other =
    then_later _ _ _ _ c.tree.result _ _ _ _ c.tree.ensures c.in-Same.is c.in-Some.is c.in_ok-rows.ensures.one c.in_ok-rows.ensures.other
    (omega (arith, c.in_ok-place.ensures.one.clean, one)) (omega (arith, c.in_ok-place.ensures.other.clean, other))
    (c.in_ok-rows.ensures.compared (omega (arith, c.in_ok-place.ensures.one.clean, one)) (omega (arith, c.in_ok-place.ensures.other.clean, other)))
    (c.in_ok-place.ensures.compared one other)

pub returns-in-None-clause-compared : goal.returns-in-None-clause-compared
returns-in-None-clause-compared g c one other =
    then_later _ _ _ _ c.tree.result _ _ _ _ c.tree.ensures c.in-Same.is c.in-None.is c.in_ok-rows.ensures.one c.in_ok-rows.ensures.other
    (omega (arith, c.in_ok-place.ensures.one.clean, one)) (omega (arith, c.in_ok-place.ensures.other.clean, other))
    (c.in_ok-rows.ensures.compared (omega (arith, c.in_ok-place.ensures.one.clean, one)) (omega (arith, c.in_ok-place.ensures.other.clean, other)))
    (c.in_ok-place.ensures.compared one other)
