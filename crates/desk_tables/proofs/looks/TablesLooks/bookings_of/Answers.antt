-- The gateway's rows in the band, ordered by start, are its downlinks as the registry lists them.
use Rattle.std.proofs.Common.{sym, subst}
use Rattle.desk_tables.proofs.LookUps.{answered_by_kept, answered_by_rows}
use Rattle.duty_core.specs.InOrder.{IsByStart}
use Rattle.registry_core.specs.Bookings.{downlinks_in}
use Rattle.desk_rows.specs.Rows.{BookingRow}
use Rattle.desk_rows.specs.order.Arranged.{booking_span, by_start}
use Rattle.desk_tables.proofs.Reading.{says_also}
use Rattle.desk_tables.proofs.looks.TablesLooks.bookings_of.Goals as goal

pub returns-clause-read : goal.returns-clause-read
returns-clause-read g c = answered_by_rows _ _ _ _ _ _ _ c.in_ok-working.ensures c.bookings_of-answer.ensures c.store_result.ensures

pub returns-clause-told : goal.returns-clause-told
returns-clause-told g c = answered_by_kept _ _ _ _ _ _ _ c.in_ok-working.ensures (says_also _ _ _ _ _ (λ r spans is config kept tell.
    subst (IsByStart (downlinks_in kept.facts.bookings c.args.gateway.now c.args.band)) (sym is)
    ((c.arranged_rows_tell.ensures config kept.facts r tell.are).bookings c.args.gateway.now c.args.band
    (by_start (λ (b : BookingRow). (booking_span b).start)) c.orders_hold.ensures.bookings)) c.bookings_of-answer.ensures) c.store_result.ensures
