-- When the step of a GatewayAdd is answered Success, and that then only the new gateway is added.
use Rattle.registry_core.proofs.AdministrationLaws.{gateways_added_alone, gateways_added_exactly}
use Rattle.registry_core.proofs.laws.gateways_are_added_exactly.Goals as goal

pub returns-clause-accepted : goal.returns-clause-accepted
returns-clause-accepted c = gateways_added_exactly

pub returns-clause-alone : goal.returns-clause-alone
returns-clause-alone c = gateways_added_alone
