-- When the step of a DeviceAdd is answered Success, and that then only the new device is added.
use Rattle.registry_core.proofs.AdministrationLaws.{devices_added_alone, devices_added_exactly}
use Rattle.registry_core.proofs.laws.devices_are_added_exactly.Goals as goal

pub returns-clause-accepted : goal.returns-clause-accepted
returns-clause-accepted c = devices_added_exactly

pub returns-clause-alone : goal.returns-clause-alone
returns-clause-alone c = devices_added_alone
