-- The ordered pairs of owner and device match the map in each case: a new device, one with the same owner, one whose owner changes.
use Rattle.std.proofs.Common.{◌≡◌, ◌∙◌, Some, cond, false, nat_eq, sym, ap, rules}
use Rattle.std.specs.BTreeSet.{contains}
use Rattle.std.specs.Ordering.{is_eq}
use Rattle.registry_core.specs.State.{at_number}
use Rattle.desk_store.specs.declared.devices.Owned.{Owned}
use Rattle.desk_store.specs.Devices.{devices_of}
use Rattle.desk_store.specs.steps.Devices.{owned_cmp}
use Rattle.desk_store.proofs.Keyed.{at_number-updated}
use Rattle.desk_store.proofs.OwnedDevices.{put_new, put_kept, put_moved}
use Rattle.desk_store.proofs.devices.Devices.put.Goals as goal

pub invariant_of-self-then-ne : goal.invariant_of-self-then-ne
invariant_of-self-then-ne c =
    let stays : c.reserve.new.self.entries ≡ c.self.inside.devices.entries = c.in_ok-reserve.ensures.entries in
    let removed : (pair : Owned) → contains owned_cmp c.remove.new.self pair
    ≡ cond (is_eq (owned_cmp (record { owner = c.in-Some.before.owner; dev_eui = c.args.dev_eui }) pair)) false (contains owned_cmp c.insert.new.self pair) =
    c.remove.ensures.updates.0 in
    put_moved c.self.inside.devices.entries c.insert-2.new.self.entries c.args.dev_eui c.args.device c.self.inside.owned c.insert.new.self c.self.invariant
    (λ n. c.in_ok-before.ensures.updates.0 n ∙ ap (λ es. cond (nat_eq c.args.dev_eui n) (Some c.args.device) (devices_of es n)) stays)
    c.in_ok-insert.ensures.updates.0
    c.in-Some.before (sym c.in-Some.is ∙ c.in_ok-before.ensures.old ∙ ap (λ es. devices_of es c.args.dev_eui) stays)
    (search rules) c.remove.new.self removed

pub invariant_of-self-else-ne : goal.invariant_of-self-else-ne
invariant_of-self-else-ne c =
    let stays : c.reserve.new.self.entries ≡ c.self.inside.devices.entries = c.in_ok-reserve.ensures.entries in
    put_kept c.self.inside.devices.entries c.insert-2.new.self.entries c.args.dev_eui c.args.device c.self.inside.owned c.insert.new.self c.self.invariant
    (λ n. c.in_ok-before.ensures.updates.0 n ∙ ap (λ es. cond (nat_eq c.args.dev_eui n) (Some c.args.device) (devices_of es n)) stays)
    c.in_ok-insert.ensures.updates.0
    c.in-Some.before (sym c.in-Some.is ∙ c.in_ok-before.ensures.old ∙ ap (λ es. devices_of es c.args.dev_eui) stays)
    (search rules)

pub invariant_of-self-in_default : goal.invariant_of-self-in_default
invariant_of-self-in_default c =
    let stays : c.reserve.new.self.entries ≡ c.self.inside.devices.entries = c.in_ok-reserve.ensures.entries in
    put_new c.self.inside.devices.entries c.insert-2.new.self.entries c.args.dev_eui c.args.device c.self.inside.owned c.insert.new.self c.self.invariant
    (λ n. c.in_ok-before.ensures.updates.0 n ∙ ap (λ es. cond (nat_eq c.args.dev_eui n) (Some c.args.device) (devices_of es n)) stays)
    c.in_ok-insert.ensures.updates.0
    (search rules)

pub returns-in-Some-clause-ok : goal.returns-in-Some-clause-ok
returns-in-Some-clause-ok c = at_number-updated c.reserve.new.self c.insert-2.new.self _ _ c.in_ok-before.ensures.updates
    ∙ ap (λ es. at_number (devices_of es) c.args.dev_eui (Some c.args.device)) (c.in_ok-reserve.ensures.entries ∙ c.self.view_is)

pub returns-else-ne-clause-ok : goal.returns-else-ne-clause-ok
returns-else-ne-clause-ok c = at_number-updated c.reserve.new.self c.insert-2.new.self _ _ c.in_ok-before.ensures.updates
    ∙ ap (λ es. at_number (devices_of es) c.args.dev_eui (Some c.args.device)) (c.in_ok-reserve.ensures.entries ∙ c.self.view_is)

pub returns-in_ok-before-clause-ok : goal.returns-in_ok-before-clause-ok
returns-in_ok-before-clause-ok c = at_number-updated c.reserve.new.self c.insert-2.new.self _ _ c.in_ok-before.ensures.updates
    ∙ ap (λ es. at_number (devices_of es) c.args.dev_eui (Some c.args.device)) (c.in_ok-reserve.ensures.entries ∙ c.self.view_is)
