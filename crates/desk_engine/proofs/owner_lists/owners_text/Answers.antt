-- The list of owners, by the owners of all devices.
use Rattle.std.proofs.Common.{◌∙◌, ap}
use Rattle.std.proofs.lemmas.Result.{IfOk-weaker}
use Rattle.desk_engine.specs.steps.Listing.{owners_in}
use Rattle.desk_engine.proofs.Listings.{owner_list}
use Rattle.desk_engine.proofs.owner_lists.owners_text.Goals as goal

pub returns-clause-told : goal.returns-clause-told
returns-clause-told g c = λ kept sound held.
    let collected = c.table.ensures.read.was_sound sound in
    let listed = c.owners_of.ensures.read.was_sound collected in
    let named = c.devices.ensures.read.was_sound listed in
    let with_names = c.in_ok-names.ensures.read.held kept named held in
    let with_devices = c.in_ok-devices.ensures.read.held kept listed with_names in
    let owners = c.in_ok-owners.ensures.told kept collected with_devices in
    IfOk-weaker c.table.result _ _
    (λ text is. owner_list kept.facts c.in_ok-names.names.items c.deref-2.result.now c.in_ok-owners.owners.items c.in_ok-devices.devices.items _ (c.in_ok-names.ensures.told kept named held)
    (c.in_ok-devices.ensures.told kept listed with_names) (owners ∙ ap (owners_in kept.facts) c.deref.ensures.value) c.deref-2.ensures.value is)
    (c.table.ensures.told kept sound (c.in_ok-owners.ensures.read.held kept collected with_devices))
