-- The device's floor and then the uplink with its reception make the effect; if setting the floor fails, nothing else is written.
use Rattle.std.proofs.Common.{ap, sym, subst}
use Rattle.registry_core.specs.JsonIntegers.{IsJsonInteger}
use Rattle.desk_rows.specs.Rows.{Rows, is_reception}
use Rattle.desk_rows.specs.order.Changes.{devices_raised, with_uplink_row}
use Rattle.desk_rows.specs.order.Keys.{IsFree}
use Rattle.desk_tables.specs.steps.Effects.{IsInputOfUplink, IsRaised}
use Rattle.desk_tables.proofs.CallLemmas.{failed_with, makes_failed, makes_then}
use Rattle.desk_tables.proofs.effects.uplinks.add_uplink.Goals as goal

pub returns-in_err-raise_floor-clause-writes : goal.returns-in_err-raise_floor-clause-writes
returns-in_err-raise_floor-clause-writes g c =
    let found = λ (r : Rows) (of : IsInputOfUplink c.args.uplink.now r c.args.input). subst (IsInputOfUplink c.args.uplink.now r) c.in-Uplink.is of in
    makes_failed (failed_with c.from_residual-in_err-raise_floor.result c.from_residual-in_err-raise_floor.ensures.1) c.in_err-raise_floor.ensures.makes
    (λ r of. subst (λ n. IsRaised n r c.in-Uplink.raises) (sym c.in_ok-as_json_integer.ensures.0) (found r of).1) (λ r of may. may.json_integers.2)

pub returns-clause-writes : goal.returns-clause-writes
returns-clause-writes g c =
    let u = c.args.uplink.now in
    let small : IsJsonInteger u.session = c.in_ok-as_json_integer.ensures.1 in
    let found = λ (r : Rows) (of : IsInputOfUplink u r c.args.input). subst (IsInputOfUplink u r) c.in-Uplink.is of in
    makes_then c.in_ok-raise_floor.ensures.makes c.add_with_reception.ensures.makes
    (λ r of. subst (λ n. IsRaised n r c.in-Uplink.raises) (sym c.in_ok-as_json_integer.ensures.0) (found r of).1) (λ r of may. may.json_integers.2)
    (λ r of. ((found r of).0, small))
    (λ r of may. (may.free.0, subst (λ n. IsFree (is_reception n c.args.gateway.now) r.receptions) (sym (found r of).0) may.free.1))
    (λ r of. ap (λ n. with_uplink_row u c.args.gateway.now c.args.reception.now (record r { devices = devices_raised r.sessions n r.devices }))
    c.in_ok-as_json_integer.ensures.0)
