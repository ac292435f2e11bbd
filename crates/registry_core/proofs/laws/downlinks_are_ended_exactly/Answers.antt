-- When the step of a DownDone is answered Success, and that then only this booking changes: it is sent or dropped.
use Rattle.registry_core.proofs.AdministrationLaws.{downlinks_ended_alone, downlinks_ended_exactly}
use Rattle.registry_core.proofs.laws.downlinks_are_ended_exactly.Goals as goal

pub returns-clause-accepted : goal.returns-clause-accepted
returns-clause-accepted c = downlinks_ended_exactly

pub returns-clause-alone : goal.returns-clause-alone
returns-clause-alone c = downlinks_ended_alone
