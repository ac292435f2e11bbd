-- The error of each of the three parts, with what the database has after it; the moved rows represent the log that they did.
use Rattle.std.proofs.Common.{◌∙◌, inl, inr, true≢false, ap, refl, sym, subst, arith}
use Rattle.sqlite.specs.Effect.{Database}
use Rattle.sqlite.specs.Held.{state}
use Rattle.sqlite.specs.State.{HasCleanDisk}
use Rattle.desk_store.specs.Calls.{IsUnavailability}
use Rattle.desk_rows.specs.Migrating.{HoldsFirst}
use Rattle.desk_tables.specs.Migrating.{IsOfFirstSchema}
use Rattle.desk_tables.specs.steps.Counting.{AreRowsCounted}
use Rattle.desk_tables.specs.Store.{IsSettled}
use Rattle.desk_tables.proofs.AdoptingLemmas.{at_rest, stands}
use Rattle.desk_tables.proofs.MigratingLemmas.{first_tells, free_in_first, looked_before, moved_desk, moved_rows, ready_moved}
use Rattle.desk_tables.proofs.OpeningLemmas.{odd_from_not_a_desk, told_once}
use Rattle.desk_tables.proofs.tables.Tables.migrate.Goals as goal

pub returns-in-Err-clause-unavailable : goal.returns-in-Err-clause-unavailable
returns-in-Err-clause-unavailable g c settings kept is clean =
    c.in-Err.ensures.in_order clean is.in_order.held.ten.schema settings (first_tells settings kept _ is)

pub returns-in-Err-clause-not_a_desk : goal.returns-in-Err-clause-not_a_desk
returns-in-Err-clause-not_a_desk g c clean is schema s tells r has = subst IsUnavailability is (c.in-Err.ensures.in_order clean schema s tells)

pub returns-in-Err-clause-other_version : goal.returns-in-Err-clause-other_version
returns-in-Err-clause-other_version g c meta version s tells other clean = c.in-Err.ensures.other_version clean meta version s tells other

pub returns-in-Err-clause-taken : goal.returns-in-Err-clause-taken
returns-in-Err-clause-taken g c meta s tells used clean = c.in-Err.ensures.taken clean meta s tells used

pub returns-in-Err-counted-clause-taken : goal.returns-in-Err-counted-clause-taken
returns-in-Err-counted-clause-taken g c meta s tells used clean =
    let early : HasCleanDisk (state g.S.Store c.first_desk.new.conn) = omega (arith, c.counted.ensures.first.read.clean, clean) in
    absurd (free_in_first _ (c.in-Ok.ensures.desk early).0 used)

pub returns-in-Err-counted-clause-undone : goal.returns-in-Err-counted-clause-undone
returns-in-Err-counted-clause-undone g c clean up =
    let early : HasCleanDisk (state g.S.Store c.first_desk.new.conn) = omega (arith, c.counted.ensures.first.read.clean, clean) in
    let same = c.in-Ok.ensures.same early in
    let has = ap (λ (d : Database). d.schema) same.0.now_is ∙ (c.in-Ok.ensures.desk early).0 in
    elim (c.in-Err-counted.ensures.first.read.leaves has same.0.is_open clean) [
      | inl still ↦ (still.0.now_is ∙ same.0.now_is, still.0.committed_is ∙ same.0.committed_is)
      | inr back ↦
          let was = back.undone up in
          (was.0 ∙ sym (c.first_desk.ensures.settled early same.0.is_open) ∙ same.0.now_is, was.1 ∙ same.0.committed_is)
    ]

pub returns-in-Err-counted-clause-given_back : goal.returns-in-Err-counted-clause-given_back
returns-in-Err-counted-clause-given_back g c settings kept is = record {
  clean = omega (arith, c.first_desk.ensures.crash.clean, c.counted.ensures.first.read.clean);
  undone = returns-in-Err-counted-clause-undone g c;
  idle = c.counted.ensures.first.read.mode c.first_desk.ensures.idle;
  crash = λ clean trees may.
      let early : HasCleanDisk (state g.S.Store c.first_desk.new.conn) = omega (arith, c.counted.ensures.first.read.clean, clean) in
      let same = c.in-Ok.ensures.same early in
      let has = ap (λ (d : Database). d.schema) same.0.now_is ∙ (c.in-Ok.ensures.desk early).0 in
      elim ((c.in-Err-counted.ensures.first.read.survives has same.0.is_open clean).crash clean trees may) [
        | inl mid ↦ elim (c.first_desk.ensures.crash.crash early trees mid) [ inl was ↦ inl was | inr none ↦ absurd none ]
        | inr none ↦ absurd none
      ];
}

pub returns-in-Err-counted-clause-refused : goal.returns-in-Err-counted-clause-refused
returns-in-Err-counted-clause-refused g c is = record {
  clean = omega (arith, c.first_desk.ensures.crash.clean, c.counted.ensures.first.read.clean);
  undone = returns-in-Err-counted-clause-undone g c;
  idle = c.counted.ensures.first.read.mode c.first_desk.ensures.idle;
  crash = λ clean trees may.
      let early : HasCleanDisk (state g.S.Store c.first_desk.new.conn) = omega (arith, c.counted.ensures.first.read.clean, clean) in
      let same = c.in-Ok.ensures.same early in
      let has = ap (λ (d : Database). d.schema) same.0.now_is ∙ (c.in-Ok.ensures.desk early).0 in
      elim ((c.in-Err-counted.ensures.first.read.survives has same.0.is_open clean).crash clean trees may) [
        | inl mid ↦ c.first_desk.ensures.crash.crash early trees mid
        | inr none ↦ absurd none
      ];
}

pub returns-in-Err-move_tables-clause-taken : goal.returns-in-Err-move_tables-clause-taken
returns-in-Err-move_tables-clause-taken g c meta s tells used clean =
    let early : HasCleanDisk (state g.S.Store c.first_desk.new.conn) = omega (arith, c.move_tables.ensures.clean, c.counted.ensures.first.read.clean, clean) in
    absurd (free_in_first _ (c.in-Ok.ensures.desk early).0 used)

pub returns-in-Err-move_tables-clause-undone : goal.returns-in-Err-move_tables-clause-undone
returns-in-Err-move_tables-clause-undone g c clean up =
    let at = looked_before _ (state g.S.Store c.first_desk.new.conn) _ (state g.S.Store c.move_tables.new.conn)
    c.in-Ok.ensures.same c.first_desk.ensures.crash c.first_desk.ensures.settled (λ early. (c.in-Ok.ensures.desk early).0) c.in-Ok-counted.ensures.first.read c.move_tables.ensures.clean clean in
    let was = c.in-Err-move_tables.ensures.neither clean at.same.0.is_open up in
    (was.0 ∙ sym at.settled ∙ at.same.0.now_is, was.1 ∙ at.same.0.committed_is)

pub returns-in-Err-move_tables-clause-given_back : goal.returns-in-Err-move_tables-clause-given_back
returns-in-Err-move_tables-clause-given_back g c settings kept is =
    let moves = c.in-Err-move_tables.ensures in
    record {
      clean = omega (arith, c.first_desk.ensures.crash.clean, c.counted.ensures.first.read.clean, c.move_tables.ensures.clean);
      undone = returns-in-Err-move_tables-clause-undone g c;
      idle = moves.mode;
      crash = λ clean trees may.
          let at = looked_before _ (state g.S.Store c.first_desk.new.conn) _ (state g.S.Store c.move_tables.new.conn)
          c.in-Ok.ensures.same c.first_desk.ensures.crash c.first_desk.ensures.settled (λ early. (c.in-Ok.ensures.desk early).0) c.in-Ok-counted.ensures.first.read c.move_tables.ensures.clean clean in
          elim ((moves.crash clean at.same.0.is_open).crash clean trees may) [
            | inl before ↦ inl (at.crash trees before)
            | inr made ↦ inr (moved_desk settings kept _ _ (subst (IsOfFirstSchema settings kept) (sym at.same.0.now_is) is) made.0)
          ];
    }

pub returns-in-Err-move_tables-clause-refused : goal.returns-in-Err-move_tables-clause-refused
returns-in-Err-move_tables-clause-refused g c is =
    let moves = c.in-Err-move_tables.ensures in
    let odd = odd_from_not_a_desk c.in-Err-move_tables.fault (sym c.store_fault-in-Err-move_tables.ensures ∙ is) in
    record {
      clean = omega (arith, c.first_desk.ensures.crash.clean, c.counted.ensures.first.read.clean, c.move_tables.ensures.clean);
      undone = returns-in-Err-move_tables-clause-undone g c;
      idle = moves.mode;
      crash = λ clean trees may.
          let at = looked_before _ (state g.S.Store c.first_desk.new.conn) _ (state g.S.Store c.move_tables.new.conn)
          c.in-Ok.ensures.same c.first_desk.ensures.crash c.first_desk.ensures.settled (λ early. (c.in-Ok.ensures.desk early).0) c.in-Ok-counted.ensures.first.read c.move_tables.ensures.clean clean in
          elim ((moves.crash clean at.same.0.is_open).crash clean trees may) [
            | inl before ↦ inl (at.crash trees before)
            | inr made ↦ absurd (true≢false (sym odd ∙ made.1))
          ];
    }

pub returns-in-Ok-move_tables-clause-in_order : goal.returns-in-Ok-move_tables-clause-in_order
returns-in-Ok-move_tables-clause-in_order g c settings kept is = rw c.over.ensures (λ sound.
    let mid : HasCleanDisk (state g.S.Store c.counted.new.conn) = omega (arith, c.move_tables.ensures.clean, sound) in
    let early : HasCleanDisk (state g.S.Store c.first_desk.new.conn) = omega (arith, c.counted.ensures.first.read.clean, mid) in
    let at = looked_before _ (state g.S.Store c.first_desk.new.conn) _ (state g.S.Store c.move_tables.new.conn)
    c.in-Ok.ensures.same c.first_desk.ensures.crash c.first_desk.ensures.settled (λ early. (c.in-Ok.ensures.desk early).0) c.in-Ok-counted.ensures.first.read c.move_tables.ensures.clean sound in
    let told = (told_once _ _ _ _ _ (c.in-Ok.ensures.desk early).1 (first_tells settings kept _ is)).1 in
    let first = subst (IsOfFirstSchema settings kept) (sym at.same.0.now_is) is in
    let made = c.in-Ok-move_tables.ensures.made sound at.same.0.is_open in
    let desk = moved_desk settings kept _ _ first made in
    let ready = ready_moved _ _ c.in-Ok-move_tables.ensures sound at.same.0.is_open desk.in_order.rows desk.in_order.held in
    let same = c.in-Ok.ensures.same early in
    let counts = c.in-Ok-counted.ensures.first.told mid same.0.is_open first.in_order.rows
    (subst (λ d. HoldsFirst d first.in_order.rows) (at.same.0.now_is ∙ sym same.0.now_is) first.in_order.held) tt in
    let settled : IsSettled (state g.S.Store c.move_tables.new.conn) = record {
      open_still = ready.is_open;
      autocommit = c.move_tables.ensures.mode;
      committed = ready.committed;
      unlimited = c.move_tables.ensures.limit ∙ at.limit ∙ c.requires.at_rest.1;
    } in
    record {
      configuration = told;
      up = refl;
      known = refl;
      rests = (_, λ up. at_rest _ settled ready.schema);
      holds = λ up. stands g.S.Store _ settings kept _ settled
          told refl refl desk (subst (λ r. AreRowsCounted r c.in-Ok-counted.counted) (sym (moved_rows settings kept _ _ first made)) counts);
    })
