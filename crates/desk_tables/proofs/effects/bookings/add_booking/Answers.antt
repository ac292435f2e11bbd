-- The session's counter and then the booking's row make the effect; the uplink's number is below 2^53, so it is stored exactly.
use Rattle.std.proofs.Common.{◌∷◌, ◌++◌, [], ap, refl, sym, subst, arith, ◌∙◌}
use Rattle.registry_core.specs.JsonIntegers.{IsJsonInteger}
use Rattle.desk_rows.specs.Rows.{Rows, BookingRow}
use Rattle.desk_rows.specs.order.Changes.{kind_at, session_of_uplink, sessions_counted}
use Rattle.desk_rows.specs.order.Keys.{HasRowid}
use Rattle.desk_tables.specs.steps.Effects.{IsInputOfBooking}
use Rattle.desk_tables.proofs.CallLemmas.{makes_one, makes_then}
use Rattle.desk_tables.proofs.effects.bookings.add_booking.Goals as goal

pub returns-clause-writes : goal.returns-clause-writes
returns-clause-writes g c =
    let b = c.args.booking.now in
    let small : IsJsonInteger b.uplink = c.in_ok-as_json_integer.ensures.1 in
    let found = λ (r : Rows) (of : IsInputOfBooking b r c.args.input). subst (IsInputOfBooking b r) c.in-Booking.is of in
    makes_then c.in_ok-count_down.ensures.makes
    (makes_one {Of = λ _. Unit {0}} {May = λ r. HasRowid r.bookings} c.insert_booking.ensures.changes
    (λ r of. (omega (arith, small), omega (arith, c.get.ensures.same, c.get.ensures.range))) (λ r of may. (tt, may)) (λ r of. refl))
    (λ r of. (found r of).1) (λ r of may. tt) (λ r of. tt) (λ r of may. may.free)
    (λ r of. ap (λ (row : BookingRow). let all : Rows = record r {
      sessions = sessions_counted (kind_at r.uplinks b.uplink) (session_of_uplink r.uplinks b.uplink) r.sessions;
      bookings = r.bookings ++ row ∷ [];
    } in all) (ap (λ n. let row : BookingRow = record { booking = b; session = n; kind = c.in-Booking.kind } in row) c.get.ensures.same ∙ sym (found r of).0))
