-- Reading meta changed nothing, so what `adopt` shows about its connection is true of the one that was passed.
use Rattle.std.proofs.Common.{◌∙◌, inl, inr, sym, subst, arith}
use Rattle.sqlite.specs.Held.{state}
use Rattle.sqlite.specs.State.{HasCleanDisk}
use Rattle.desk_store.specs.Calls.{IsUnavailability}
use Rattle.desk_rows.specs.Rows.{Holds}
use Rattle.desk_tables.specs.Store.{IsSettledOver}
use Rattle.desk_tables.proofs.AdoptingLemmas.{if_adopted, if_not_adopted, ready_again}
use Rattle.desk_tables.proofs.tables.Tables.open.Goals as goal

pub returns-in-Err-clause-other_version : goal.returns-in-Err-clause-other_version
returns-in-Err-clause-other_version g c meta version s tells other clean same =
    c.in-Err.ensures.other_version clean meta version s tells other (let e = same in cc)

pub returns-in-Ok-clause-not_a_desk : goal.returns-in-Ok-clause-not_a_desk
returns-in-Ok-clause-not_a_desk g c = if_not_adopted _ _ _ _ _ c.adopt.ensures (λ back not clean is schema s tells r has.
    let early : HasCleanDisk (state g.S.Store c.open_desk.new.conn) = omega (arith, not.clean, clean) in
    let same = c.in-Ok.ensures.same early in
    subst IsUnavailability is (not.in_order clean (ready_again _ _ same schema (c.open_desk.ensures.settled early same.0.is_open))
    r (subst (λ d. Holds d r) (sym same.0.now_is) has)))

pub returns-in-Ok-clause-given_back : goal.returns-in-Ok-clause-given_back
returns-in-Ok-clause-given_back g c = if_not_adopted _ _ _ _ _ c.adopt.ensures (λ back not.
    let early = λ (clean : HasCleanDisk (state g.S.Store back.1)). let e : HasCleanDisk (state g.S.Store c.open_desk.new.conn) = omega (arith, not.clean, clean) in e in
    let same = λ (clean : HasCleanDisk (state g.S.Store back.1)). c.in-Ok.ensures.same (early clean) in
    let stays = λ (clean : HasCleanDisk (state g.S.Store back.1)).
    not.stays clean (ready_again _ _ (same clean) (c.in-Ok.ensures.desk (early clean)).0 (c.open_desk.ensures.settled (early clean) (same clean).0.is_open)) in
    record {
      clean = omega (arith, c.open_desk.ensures.crash.clean, not.clean);
      undone = λ clean up. let was = (stays clean).undone clean up in (was.0 ∙ (same clean).0.now_is, was.1 ∙ (same clean).0.committed_is);
      idle = not.idle;
      crash = λ clean trees may. elim ((stays clean).crash clean trees may) [
        | inl before ↦ c.open_desk.ensures.crash.crash (early clean) trees before
        | inr none ↦ absurd none
      ];
    })

pub returns-in-Ok-clause-rests : goal.returns-in-Ok-clause-rests
returns-in-Ok-clause-rests g c = if_adopted _ _ _ _ _ c.adopt.ensures (λ t is sound up.
    let early : HasCleanDisk (state g.S.Store c.open_desk.new.conn) = omega (arith, is.clean, sound) in
    let same = c.in-Ok.ensures.same early in
    let ready = ready_again _ _ same (c.in-Ok.ensures.desk early).0 (c.open_desk.ensures.settled early same.0.is_open) in
    subst (IsSettledOver (state g.S.Store t.conn)) same.0.now_is (is.rests sound ready up))
