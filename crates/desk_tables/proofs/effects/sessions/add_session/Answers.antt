-- The session's row, then the join uplink's and the reception's make the effect, under the uplink's number that was read before.
use Rattle.std.proofs.Common.{refl, sym, subst}
use Rattle.registry_core.specs.JsonIntegers.{IsJsonInteger}
use Rattle.desk_rows.specs.Rows.{is_reception}
use Rattle.desk_rows.specs.order.Keys.{IsFree}
use Rattle.desk_tables.specs.steps.Effects.{IsInputOfSession}
use Rattle.desk_tables.proofs.CallLemmas.{makes_one, makes_then}
use Rattle.desk_tables.proofs.effects.sessions.add_session.Goals as goal

pub returns-clause-writes : goal.returns-clause-writes
returns-clause-writes g c =
    let small : IsJsonInteger c.args.uplink.now.session = c.in_ok-as_json_integer.ensures.1 in
    let number = λ (r : _) (of : IsInputOfSession r c.args.input). subst (IsInputOfSession r) c.in-Session.is of in
    makes_then (makes_one c.in_ok-insert_session.ensures.changes (λ r of. tt) (λ r of may. (may.key, may.room)) (λ r of. refl)) c.add_with_reception.ensures.makes
    (λ r of. of) (λ r of may. may.free.0) (λ r of. (number r of, small))
    (λ r of may. (may.free.1, subst (λ n. IsFree (is_reception n c.args.gateway.now) r.receptions) (sym (number r of)) may.free.2)) (λ r of. refl)
