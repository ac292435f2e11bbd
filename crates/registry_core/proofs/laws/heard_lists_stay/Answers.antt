-- If fewer messages were heard than may be, one more whose values are in their ranges makes a log again.
use Rattle.registry_core.proofs.HeardLists.{heard_lists_stay}
use Rattle.registry_core.proofs.laws.heard_lists_stay.Goals as goal

pub returns : goal.returns
returns c = heard_lists_stay
