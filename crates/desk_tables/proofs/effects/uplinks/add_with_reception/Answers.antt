-- The uplink's row and then the reception's, under a number that is one more than the number of uplinks before.
use Rattle.std.proofs.Common.{◌∷◌, ◌++◌, [], ap, refl, arith, subst, sym, ◌∙◌}
use Rattle.desk_rows.specs.Rows.{Rows, is_reception}
use Rattle.desk_rows.specs.order.Changes.{reception_row}
use Rattle.desk_rows.specs.order.Keys.{IsFree}
use Rattle.desk_tables.proofs.CallLemmas.{makes_one, makes_then}
use Rattle.desk_tables.proofs.effects.uplinks.add_with_reception.Goals as goal

pub returns-clause-makes : goal.returns-clause-makes
returns-clause-makes g c =
    let u = c.args.uplink.now in
    makes_then (makes_one c.in_ok-insert_uplink.ensures.changes (λ r of. let e = of.1 in omega arith)
    (λ r of may. (may.0.key, may.0.room)) (λ r of. refl))
    (makes_one {Of = λ _. Unit {0}} {May = λ r. IsFree (is_reception c.args.number c.args.gateway.now) r.receptions} c.insert_reception.ensures.changes
    (λ r of. omega (arith, c.get.ensures.same, c.get.ensures.range))
    (λ r of may. let free = subst (λ n. IsFree (is_reception n c.args.gateway.now) r.receptions) (sym c.get.ensures.same) may in (free.key, free.room)) (λ r of. refl))
    (λ r of. of) (λ r of may. may) (λ r of. tt) (λ r of may. may.1)
    (λ r of. ap (λ n. let all : Rows = record r {
      uplinks = r.uplinks ++ u ∷ [];
      receptions = r.receptions ++ reception_row n c.args.gateway.now c.args.reception.now ∷ [];
    } in all) (c.get.ensures.same ∙ of.0))
