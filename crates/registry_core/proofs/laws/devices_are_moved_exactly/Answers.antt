-- When the step of a DeviceMove is answered Success, and that then only the device's owner changes.
use Rattle.registry_core.proofs.AdministrationLaws.{devices_moved_alone, devices_moved_exactly}
use Rattle.registry_core.proofs.laws.devices_are_moved_exactly.Goals as goal

pub returns-clause-accepted : goal.returns-clause-accepted
returns-clause-accepted c = devices_moved_exactly

pub returns-clause-alone : goal.returns-clause-alone
returns-clause-alone c = devices_moved_alone
