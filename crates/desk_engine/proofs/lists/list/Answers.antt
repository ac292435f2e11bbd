-- The list after a log, by what the store represents then.
use Rattle.desk_engine.specs.InOrder.{kept_after}
use Rattle.desk_engine.proofs.Listings.{list_after}
use Rattle.desk_engine.proofs.lists.list.Goals as goal

pub returns-clause-text : goal.returns-clause-text
returns-clause-text g c = λ s heard was.
    rw c.into_bytes.ensures.value (list_after c.args.of s _ heard _ was.its (c.in_ok-text_of.ensures.told (kept_after s heard) was.sound was.order.kept))
