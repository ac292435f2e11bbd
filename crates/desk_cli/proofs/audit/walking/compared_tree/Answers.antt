-- One pair of rows more is the same; otherwise the rows differ there, one tree ends there, or both do.
use Rattle.std.proofs.Common.{◌∙◌, sym, refl, arith, true, false, true≢false}
use Rattle.desk_cli.proofs.Walked.{both_ended, front_more, item, one_ended, one_more, rows_differ, started}
use Rattle.desk_cli.proofs.audit.walking.compared_tree.Goals as goal

pub rows-init : goal.rows-init
rows-init g c = record {
  one = started _ _ c.args.tree _ _ c.new-first.ensures c.seek.ensures.quiet.clean c.in_ok-seek.ensures.live c.in_ok-seek.ensures.ok;
  other = started _ _ c.args.tree _ _ c.new-first.ensures c.seek-2.ensures.quiet.clean c.in_ok-seek-2.ensures.live c.in_ok-seek-2.ensures.ok;
  front = λ a b. refl;
}

pub returns-then-has_right-clause-compared : goal.returns-then-has_right-clause-compared
returns-then-has_right-clause-compared g c one other =
    one_ended c.rows.place _ _ (c.rows.invariant.front (omega (arith, c.next.ensures.quiet.clean, one)) (omega (arith, c.next-in-rows.ensures.quiet.clean, other)))
    c.next.new.row c.next-in-rows.new.row false true (λ e. true≢false (sym e))
    (item _ _ _ c.args.tree c.rows.place c.next.new.row c.rows.invariant.one c.next.ensures.quiet.clean _ false c.if-not-has_left.true c.in_ok-has_left.ensures.ok one)
    (item _ _ _ c.args.tree c.rows.place c.next-in-rows.new.row c.rows.invariant.other c.next-in-rows.ensures.quiet.clean _ true c.if-has_right.true c.in_ok-has_right.ensures.ok other)

pub returns-then-not-has_left-clause-compared : goal.returns-then-not-has_left-clause-compared
returns-then-not-has_left-clause-compared g c one other =
    both_ended c.rows.place _ _ (c.rows.invariant.front (omega (arith, c.next.ensures.quiet.clean, one)) (omega (arith, c.next-in-rows.ensures.quiet.clean, other)))
    (c.rows.invariant.one.within (omega (arith, c.next.ensures.quiet.clean, one)))
    (item _ _ _ c.args.tree c.rows.place c.next.new.row c.rows.invariant.one c.next.ensures.quiet.clean _ false c.if-not-has_left.true c.in_ok-has_left.ensures.ok one)
    (item _ _ _ c.args.tree c.rows.place c.next-in-rows.new.row c.rows.invariant.other c.next-in-rows.ensures.quiet.clean _ false c.if-has_right.false c.in_ok-has_right.ensures.ok other)

pub returns-then-not-has_right-clause-compared : goal.returns-then-not-has_right-clause-compared
returns-then-not-has_right-clause-compared g c one other =
    one_ended c.rows.place _ _ (c.rows.invariant.front (omega (arith, c.next.ensures.quiet.clean, one)) (omega (arith, c.next-in-rows.ensures.quiet.clean, other)))
    c.next.new.row c.next-in-rows.new.row true false true≢false
    (item _ _ _ c.args.tree c.rows.place c.next.new.row c.rows.invariant.one c.next.ensures.quiet.clean _ true c.if-not-has_left.false c.in_ok-has_left.ensures.ok one)
    (item _ _ _ c.args.tree c.rows.place c.next-in-rows.new.row c.rows.invariant.other c.next-in-rows.ensures.quiet.clean _ false c.if-not-has_right.true c.in_ok-has_right.ensures.ok other)

pub returns-then-not-are_same-clause-compared : goal.returns-then-not-are_same-clause-compared
returns-then-not-are_same-clause-compared g c one other =
    rows_differ c.rows.place _ _ (c.rows.invariant.front (omega (arith, c.next.ensures.quiet.clean, one)) (omega (arith, c.next-in-rows.ensures.quiet.clean, other)))
    c.next.new.row c.next-in-rows.new.row (λ e. true≢false (sym (c.are_same.ensures.1 e) ∙ c.if-not-are_same.true))
    (item _ _ _ c.args.tree c.rows.place c.next.new.row c.rows.invariant.one c.next.ensures.quiet.clean _ true c.if-not-has_left.false c.in_ok-has_left.ensures.ok one)
    (item _ _ _ c.args.tree c.rows.place c.next-in-rows.new.row c.rows.invariant.other c.next-in-rows.ensures.quiet.clean _ true c.if-not-has_right.false c.in_ok-has_right.ensures.ok other)

pub rows-preserved : goal.rows-preserved
rows-preserved g c = record {
  one = one_more _ _ _ c.args.tree c.rows.place c.next.new.row c.rows.invariant.one c.next.ensures.quiet.clean _ c.if-not-has_left.false c.in_ok-has_left.ensures.stay c.in_ok-has_left.ensures.moves c.in_ok-has_left.ensures.ok;
  other = one_more _ _ _ c.args.tree c.rows.place c.next-in-rows.new.row c.rows.invariant.other c.next-in-rows.ensures.quiet.clean _ c.if-not-has_right.false c.in_ok-has_right.ensures.stay c.in_ok-has_right.ensures.moves c.in_ok-has_right.ensures.ok;
  front = λ one other.
      front_more c.rows.place _ _ (c.rows.invariant.front (omega (arith, c.next.ensures.quiet.clean, one)) (omega (arith, c.next-in-rows.ensures.quiet.clean, other)))
      c.next.new.row c.next-in-rows.new.row (c.are_same.ensures.0 c.if-not-are_same.false)
      (item _ _ _ c.args.tree c.rows.place c.next.new.row c.rows.invariant.one c.next.ensures.quiet.clean _ true c.if-not-has_left.false c.in_ok-has_left.ensures.ok one)
      (item _ _ _ c.args.tree c.rows.place c.next-in-rows.new.row c.rows.invariant.other c.next-in-rows.ensures.quiet.clean _ true c.if-not-has_right.false c.in_ok-has_right.ensures.ok other);
}
