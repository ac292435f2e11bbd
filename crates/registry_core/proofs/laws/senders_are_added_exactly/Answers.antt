-- When the step of a SenderAdd is answered Success, and that then only the new sender is added.
use Rattle.registry_core.proofs.AdministrationLaws.{senders_added_alone, senders_added_exactly}
use Rattle.registry_core.proofs.laws.senders_are_added_exactly.Goals as goal

pub returns-clause-accepted : goal.returns-clause-accepted
returns-clause-accepted c = senders_added_exactly

pub returns-clause-alone : goal.returns-clause-alone
returns-clause-alone c = senders_added_alone
