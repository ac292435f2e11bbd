-- The session's device and that device's floor, cached or read, decide whether the uplink raises the floor.
use Rattle.std.proofs.Common.{Ok, Some, None, sym}
use Rattle.desk_tables.proofs.CallLemmas.{asks_as}
use Rattle.desk_tables.proofs.EffectLemmas.{raised_asked}
use Rattle.desk_tables.proofs.effects.input.raised_by.Goals as goal

pub returns-then-is_above : goal.returns-then-is_above
returns-then-is_above g c = asks_as (Ok (Some c.in_ok-device.field-0.device)) (raised_asked c.args.uplink.now c.args.seen.now c.in_ok-device.ensures c.in_ok-floor.ensures)
    (λ r of. of) (λ r of said. said.0 (sym c.if-is_above.ensures)) (λ r of may said. tt)

pub returns-else-is_above : goal.returns-else-is_above
returns-else-is_above g c = asks_as (Ok None) (raised_asked c.args.uplink.now c.args.seen.now c.in_ok-device.ensures c.in_ok-floor.ensures)
    (λ r of. of) (λ r of said. said.1 (sym c.if-is_above.ensures)) (λ r of may said. tt)
