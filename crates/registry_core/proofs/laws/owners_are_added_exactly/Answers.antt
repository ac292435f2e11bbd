-- When the step of an OwnerAdd is answered Success, and that then only the new owner is added.
use Rattle.registry_core.proofs.AdministrationLaws.{owners_added_alone, owners_added_exactly}
use Rattle.registry_core.proofs.laws.owners_are_added_exactly.Goals as goal

pub returns-clause-accepted : goal.returns-clause-accepted
returns-clause-accepted c = owners_added_exactly

pub returns-clause-alone : goal.returns-clause-alone
returns-clause-alone c = owners_added_alone
