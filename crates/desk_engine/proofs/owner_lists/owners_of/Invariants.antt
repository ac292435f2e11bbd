-- The loop of `owners_of`: the owners of the devices so far are collected.
use Rattle.std.proofs.Common.{◌≡◌, None, take}
use Rattle.desk_store.specs.Calls.{ForHeld, IsRead}
use Rattle.desk_engine.specs.steps.Listing.{owners_in}
use Rattle.desk_engine.proofs.owner_lists.owners_of.Given as goal

abbrev pub invariant-loop-dev_eui : goal.invariant-loop-dev_eui
invariant-loop-dev_eui g l = record {
  read : IsRead g.K.Looks.meaning l.fn.keeper l.keeper None;
  told : ForHeld g.K.Looks.meaning l.fn.keeper l.keeper (λ kept. l.owners.items ≡ owners_in kept.facts (take l.dev_eui-index l.devices));
}
