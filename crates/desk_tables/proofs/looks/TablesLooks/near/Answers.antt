-- The gateway's rows near the start, ordered by start, are its near bookings as the registry lists them.
use Rattle.std.proofs.Common.{pos, sym, subst}
use Rattle.desk_tables.proofs.LookUps.{answered_by_kept, answered_by_rows}
use Rattle.registry_core.specs.Near.{AreByStart, bookings_near}
use Rattle.desk_rows.specs.Rows.{BookingRow}
use Rattle.desk_rows.specs.order.Arranged.{booking_span, by_start}
use Rattle.desk_tables.proofs.Reading.{says_also}
use Rattle.desk_tables.proofs.looks.TablesLooks.near.Goals as goal

pub returns-clause-read : goal.returns-clause-read
returns-clause-read g c = answered_by_rows _ _ _ _ _ _ _ c.in_ok-working.ensures c.near-answer.ensures c.store_result.ensures

pub returns-clause-told : goal.returns-clause-told
returns-clause-told g c = answered_by_kept _ _ _ _ _ _ _ c.in_ok-working.ensures (says_also _ _ _ _ _ (λ r near is config kept tell.
    subst (AreByStart (bookings_near kept.facts.bookings c.args.gateway.now (pos c.args.start))) (sym is)
    ((c.arranged_rows_tell.ensures config kept.facts r tell.are).near c.args.gateway.now (pos c.args.start)
    (by_start (λ (b : BookingRow). (booking_span b).start)) c.orders_hold.ensures.bookings)) c.near-answer.ensures) c.store_result.ensures
