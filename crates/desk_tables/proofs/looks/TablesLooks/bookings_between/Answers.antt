-- The numbers of the gateway's rows in the period, by start, are those of its bookings in the registry; the bounds fit i64.
use Rattle.std.proofs.Common.{FitsSigned, rules, sym, subst, w64}
use Rattle.std.proofs.lemmas.Int.{to_z-of_z}
use Rattle.registry_core.specs.Listing.{AreBookingsFrom}
use Rattle.desk_tables.proofs.LookUps.{answered_by_kept, answered_by_rows}
use Rattle.desk_tables.proofs.Reading.{says_also}
use Rattle.desk_tables.proofs.looks.TablesLooks.bookings_between.Goals as goal

pub returns-clause-read : goal.returns-clause-read
returns-clause-read g c = answered_by_rows _ _ _ _ _ _ _ c.in_ok-working.ensures c.bookings_between-answer.ensures c.store_result.ensures

pub returns-clause-told : goal.returns-clause-told
returns-clause-told g c =
    let from : FitsSigned w64 c.args.from = search rules in
    let to : FitsSigned w64 c.args.to = search rules in
    answered_by_kept _ _ _ _ _ _ _ c.in_ok-working.ensures (says_also _ _ _ _ _ (λ r numbers is config kept tell.
    subst (AreBookingsFrom kept.facts c.args.gateway.now c.args.from c.args.to) (sym is)
    ((c.listed_rows_tell.ensures config kept.facts r tell.are).bookings c.args.gateway.now c.args.from c.args.to))
    (rw (to_z-of_z w64 c.args.from from, to_z-of_z w64 c.args.to to) at c.bookings_between-answer.ensures)) c.store_result.ensures
