-- The test of a LimitSet computes whether every hour of the band is within the new limit already.
use Rattle.registry_core.proofs.LimitLaws.{set_exactly}
use Rattle.registry_core.proofs.laws.limits_are_set_exactly.Goals as goal

pub returns : goal.returns
returns c = set_exactly c.computed_forms_tell.ensures.within
