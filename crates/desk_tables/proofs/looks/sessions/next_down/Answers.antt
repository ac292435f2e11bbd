-- The counter in the session's row is the number of bookings that the registry counts; without such a session both are 0.
use Rattle.std.proofs.Common.{◌∙◌, sym, ap}
use Rattle.std.specs.Prelude.{unwrap_or}
use Rattle.std.specs.Option.{option_map_or}
use Rattle.registry_core.specs.Bookings.{next_down}
use Rattle.registry_core.specs.Numbered.{item_at}
use Rattle.desk_rows.specs.Rows.{SessionRow}
use Rattle.desk_tables.proofs.Absent.{no_session}
use Rattle.desk_tables.proofs.Reading.{shows, unasked}
use Rattle.desk_tables.proofs.Telling.{or_zero}
use Rattle.desk_tables.proofs.looks.sessions.next_down.Goals as goal

pub returns-in_ok-next_down-in-Some : goal.returns-in_ok-next_down-in-Some
returns-in_ok-next_down-in-Some g c = shows _ _ _ _ _ _ (λ r is config kept tell.
    let laws = c.look_ups_tell.ensures config kept.facts r tell.are in
    let n = c.in-Some.session in
    c.unwrap_or.ensures ∙ ap (λ found. unwrap_or found 0) is ∙ or_zero (λ (s : SessionRow). s.next_down) (item_at r.sessions n)
    ∙ ap (λ row. option_map_or (λ (s : SessionRow). s.next_down) row 0) (sym (laws.0.session_numbered n)) ∙ laws.1.next_down n
    ∙ ap (next_down kept.facts.bookings kept.facts.uplinks) c.in-Some.ensures.1) c.in_ok-next_down-in-Some.ensures

pub returns-in-None : goal.returns-in-None
returns-in-None g c = unasked _ _ _ (λ r config kept tell.
    let laws = c.look_ups_tell.ensures config kept.facts r tell.are in
    ap (λ row. option_map_or (λ (s : SessionRow). s.next_down) row 0) (sym (no_session config kept r tell c.args.session c.in-None.ensures) ∙ sym (laws.0.session_numbered c.args.session))
    ∙ laws.1.next_down c.args.session)
