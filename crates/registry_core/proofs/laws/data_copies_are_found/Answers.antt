-- A session has at most one data uplink with a counter, so what is found with the same octets is the only one.
use Rattle.registry_core.proofs.ReceptionLaws.{data_copies_are_found}
use Rattle.registry_core.proofs.laws.data_copies_are_found.Goals as goal

pub returns : goal.returns
returns c = data_copies_are_found
