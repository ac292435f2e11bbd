-- The device's rows in the band and the period, ordered by start, are its uplinks as the registry lists them; the bounds fit i64.
use Rattle.std.proofs.Common.{FitsSigned, rules, sym, subst, w64}
use Rattle.std.proofs.lemmas.Int.{to_z-of_z}
use Rattle.desk_tables.proofs.LookUps.{answered_by_kept, answered_by_rows}
use Rattle.duty_core.specs.InOrder.{IsByStart}
use Rattle.registry_core.specs.declared.facts.Uplink.{Uplink}
use Rattle.registry_core.specs.Reports.{in_band, interval_of, uplinks_from}
use Rattle.desk_rows.specs.order.Arranged.{by_start}
use Rattle.desk_tables.proofs.Reading.{says_also}
use Rattle.desk_tables.proofs.looks.TablesLooks.uplinks_of.Goals as goal

pub returns-clause-read : goal.returns-clause-read
returns-clause-read g c = answered_by_rows _ _ _ _ _ _ _ c.in_ok-working.ensures c.uplinks_of-answer.ensures c.store_result.ensures

pub returns-clause-told : goal.returns-clause-told
returns-clause-told g c =
    let from : FitsSigned w64 c.args.from = search rules in
    let to : FitsSigned w64 c.args.to = search rules in
    answered_by_kept _ _ _ _ _ _ _ c.in_ok-working.ensures (says_also _ _ _ _ _ (λ r spans is config kept tell.
    subst (IsByStart (in_band c.args.band (uplinks_from kept.facts.uplinks kept.facts.sessions c.args.device c.args.from c.args.to))) (sym is)
    ((c.arranged_rows_tell.ensures config kept.facts r tell.are).uplinks c.args.device c.args.band c.args.from c.args.to
    (by_start (λ (u : Uplink). (interval_of u).start)) c.orders_hold.ensures.uplinks)) (rw (to_z-of_z w64 c.args.from from, to_z-of_z w64 c.args.to to) at c.uplinks_of-answer.ensures)) c.store_result.ensures
