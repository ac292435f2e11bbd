-- The starts and the ends rise, so both windows only move on from span to span, and the greatest use so far is right.
use Rattle.std.proofs.Common.{◌++◌, ◌∷◌, [], arith, ap, subst, sym}
use Rattle.std.specs.Prelude.{pos, ◌-ℤ◌}
use Rattle.std.proofs.lemmas.Int.{ints}
use Rattle.duty_core.specs.Use.{Interval, end_of, hour}
use Rattle.duty_core.specs.declared.marks.Edge.TheVariants.{Start, End}
use Rattle.duty_core.specs.steps.Windows.{IsWindow}
use Rattle.duty_core.proofs.EdgeHours.{edge_use, greatest_use-drop}
use Rattle.duty_core.proofs.Sliding.{window_next}
use Rattle.duty_core.proofs.sweep.greatest.Goals as goal

pub slide_both-used-requires-clause-by_start : goal.slide_both-used-requires-clause-by_start
slide_both-used-requires-clause-by_start c =
    subst (λ (a : Interval). IsWindow c.args.spans.now c.loop-span.by_start a.start) (sym c.span-item.is) (c.loop-span.invariant.by_start c.span-item.result c.loop-span-test.true)

pub slide_both-used-requires-clause-by_end : goal.slide_both-used-requires-clause-by_end
slide_both-used-requires-clause-by_end c =
    subst (λ (a : Interval). IsWindow c.args.spans.now c.loop-span.by_end (end_of a -ℤ pos hour)) (sym c.span-item.is) (c.loop-span.invariant.by_end c.span-item.result c.loop-span-test.true)

pub loop-span-preserved : goal.loop-span-preserved
loop-span-preserved c =
    let spans = c.args.spans.now in
    let all = spans ++ c.args.new ∷ [] in
    let item : Interval = c.span-item.result in
    record {
      most = omega (arith, c.slide_both-used.ensures.used, c.loop-span.invariant.most, ap (edge_use all) c.span-item.is, greatest_use-drop all spans c.loop-span.span-index item c.loop-span-test.true);
      by_start = λ d more. window_next Start spans _ item.start _ 0 c.loop-span.span-index item d
          c.slide_both-used.ensures.from_start c.loop-span-test.true c.span-item.is (omega (arith, ints)) (omega (arith, ints)) c.requires.starts more;
      by_end = λ d more. window_next End spans _ (end_of item -ℤ pos hour) _ hour c.loop-span.span-index item d
          c.slide_both-used.ensures.from_end c.loop-span-test.true c.span-item.is (omega (arith, ints)) (omega (arith, ints)) c.requires.ends more;
    }
