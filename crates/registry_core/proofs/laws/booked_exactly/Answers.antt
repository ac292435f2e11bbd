-- The tests of a DownBook compute whether microseconds are shared and whether every hour is within the limit.
use Rattle.registry_core.proofs.DownlinkLaws.{booked_exactly}
use Rattle.registry_core.proofs.laws.booked_exactly.Goals as goal

pub returns : goal.returns
returns c = booked_exactly c.computed_forms_tell.ensures.clear c.computed_forms_tell.ensures.within
