-- A device has one session with a nonce and a session one join uplink, so what is found with the same octets is the only one.
use Rattle.registry_core.proofs.ReceptionLaws.{join_copies_are_found}
use Rattle.registry_core.proofs.laws.join_copies_are_found.Goals as goal

pub returns : goal.returns
returns c = join_copies_are_found
