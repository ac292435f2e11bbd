-- The first pair from the bound on is the owner's next device, or belongs to another owner; after the last pair there is none.
use Rattle.std.proofs.Common.{sym, ◌∙◌, ap, subst}
use Rattle.registry_core.specs.Reports.{IsNextDevice}
use Rattle.desk_store.specs.Devices.{devices_of}
use Rattle.desk_store.proofs.NextDevice.{next_first, next_past, range_as}
use Rattle.desk_store.proofs.devices.Devices.next_of.Goals as goal

pub returns-in_err-next : goal.returns-in_err-next
returns-in_err-next c s told = subst (IsNextDevice s c.args.owner.now c.args.after) (sym c.from_residual.ensures)
    (next_past c.self.inside.devices.entries c.self.inside.owned c.self.invariant c.args.owner.now c.args.after s (told ∙ ap devices_of (sym c.self.view_is))
    (range_as c.self.inside.owned _ _ _ _ c.bound_above.ensures c.in_err-next.ensures.steps.0 (c.range.ensures.in_range tt)))

pub returns : goal.returns
returns c s told = subst (IsNextDevice s c.args.owner.now c.args.after) (sym c.its_device.ensures)
    (next_first c.self.inside.devices.entries c.self.inside.owned c.self.invariant c.args.owner.now c.args.after s (told ∙ ap devices_of (sym c.self.view_is))
    c.in_ok-next.next.now c.next.new.self
    (range_as c.self.inside.owned _ _ _ _ c.bound_above.ensures c.in_ok-next.ensures.steps (c.range.ensures.in_range tt)))
