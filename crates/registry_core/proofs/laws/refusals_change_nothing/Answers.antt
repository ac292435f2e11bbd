-- A step that refuses has no effect, whatever the message is.
use Rattle.registry_core.proofs.EveryMessage.{refusals_change_nothing}
use Rattle.registry_core.proofs.laws.refusals_change_nothing.Goals as goal

pub returns : goal.returns
returns c = refusals_change_nothing
