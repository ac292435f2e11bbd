-- One item more is one more in a count, and with few messages there are few sessions, uplinks and bookings.
use Rattle.std.proofs.Common.{◌≡◌, ℕ, ◌+◌, ◌≤◌, List, [], ◌∷◌, ◌++◌, length, length-append, map, ap, ◌∙◌, arith}
use Rattle.std.proofs.lemmas.List.{length-map}
use Rattle.registry_core.specs.Heard.{most_heard}
use Rattle.registry_core.specs.Settings.{Settings}
use Rattle.registry_core.specs.State.{State}
use Rattle.desk_store.specs.Kept.{Kept}
use Rattle.desk_rows.specs.Rows.{BookingRow, Rows, SessionRow}
use Rattle.desk_rows.specs.order.RowsOf.{AreRowsOf}
use Rattle.desk_tables.specs.InOrder.{entry_in}
use Rattle.desk_tables.specs.steps.Keeper.{AreFew}

pub one_longer : {X : Type 0} (xs : List X) (x : X) (n : ℕ) → n ≡ length xs → n + 1 ≡ length (xs ++ x ∷ [])
one_longer xs x n is = omega (arith, is, length-append xs (x ∷ []))

-- as many as there are messages
pub as_many : (kept : Kept) (r : Rows) → kept.entries ≡ map entry_in r.replies → length kept.entries ≡ length r.replies
as_many kept r entries = ap length entries ∙ length-map r.replies entry_in

pub are_few : (c : Settings) (kept : Kept) (r : Rows) → AreRowsOf c kept.facts r → kept.entries ≡ map entry_in r.replies
    → length kept.entries ≤ most_heard → AreFew kept.facts
are_few c kept r are entries few =
    let all = as_many kept r entries in
    let sessions : length kept.facts.sessions ≡ length r.sessions =
    ap (λ (s : State). length s.sessions) are.is ∙ length-map r.sessions (λ (s : SessionRow). s.session) in
    let uplinks : length kept.facts.uplinks ≡ length r.uplinks = ap (λ (s : State). length s.uplinks) are.is in
    let bookings : length kept.facts.bookings ≡ length r.bookings =
    ap (λ (s : State). length s.bookings) are.is ∙ length-map r.bookings (λ (b : BookingRow). b.booking) in
    record {
      sessions = omega (arith, sessions, are.few.sessions, all, few);
      uplinks = omega (arith, uplinks, are.few.uplinks, all, few);
      bookings = omega (arith, bookings, are.few.bookings, all, few);
    }
