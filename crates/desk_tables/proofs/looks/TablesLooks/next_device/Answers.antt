-- The first of the owner's rows by DevEUI is the registry's next device, because each DevEUI is in its range.
use Rattle.std.proofs.Common.{sym, subst}
use Rattle.desk_tables.proofs.LookUps.{answered_by_kept, answered_by_rows}
use Rattle.registry_core.specs.Reports.{IsNextDevice}
use Rattle.desk_rows.specs.order.Arranged.{by_eui}
use Rattle.desk_tables.proofs.Telling.{euis_in}
use Rattle.desk_tables.proofs.Reading.{says_also}
use Rattle.desk_tables.proofs.looks.TablesLooks.next_device.Goals as goal

pub returns-clause-read : goal.returns-clause-read
returns-clause-read g c = answered_by_rows _ _ _ _ _ _ _ c.in_ok-working.ensures c.next_device-answer.ensures.reads c.store_result.ensures

pub returns-clause-told : goal.returns-clause-told
returns-clause-told g c = answered_by_kept _ _ _ _ _ _ _ c.in_ok-working.ensures (says_also _ _ _ _ _ (λ r next is config kept tell.
    subst (IsNextDevice kept.facts c.args.owner.now c.args.after) (sym is)
    ((c.arranged_rows_tell.ensures config kept.facts r tell.are).next_device c.args.owner.now c.args.after by_eui c.orders_hold.ensures.devices
    (euis_in r.devices tell.in_range.devices))) c.next_device-answer.ensures.reads) c.store_result.ensures
