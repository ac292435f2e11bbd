-- One more edge adds its place, which is below 2^64, to the sum, so the sum fits 128 bits and the mark stays right.
use Rattle.std.proofs.Common.{◌*◌, ◌^◌, ◌≤◌, arith, rules, ◌∙◌, to_z, of_z, ℤ}
use mir.Syntax.{w64}
use mir.Val.{SFits}
use Rattle.std.specs.Prelude.{pos, ◌<ℤ◌, ◌≤ℤ◌}
use Rattle.std.proofs.lemmas.Int.{ints, to_z-of_z}
use Rattle.duty_core.specs.steps.Marks.{first_place}
use Rattle.duty_core.proofs.Heights.{mark_more, mark_room, place_lt}
use Rattle.duty_core.proofs.marks.forward.Goals as goal

pub overflow_add-sum : goal.overflow_add-sum
overflow_add-sum c =
    let x : ℤ = to_z w64 (of_z w64 c.args.x) in
    let next : ℤ = to_z w64 (of_z w64 c.edge_of-next.result) in
    let below : x <ℤ pos (2 ^ 63) = omega (arith, ints) in
    let next_below : next <ℤ pos (2 ^ 63) = omega (arith, ints) in
    let room : c.loop-passed.sum ≤ c.loop-passed.passed * 2 ^ 64 =
    mark_room c.args.edge c.args.spans.now c.loop-passed.passed c.loop-passed.sum x c.loop-passed.invariant below in
    omega (arith, room, c.place-sum.ensures, place_lt next next_below)

pub loop-passed-preserved : goal.loop-passed-preserved
loop-passed-preserved c =
    let x : ℤ = to_z w64 (of_z w64 c.args.x) in
    let next : ℤ = to_z w64 (of_z w64 c.edge_of-next.result) in
    let fits : SFits w64 c.edge_of-next.result = search rules in
    let least : first_place ≤ℤ next = omega (arith, ints) in
    let most : next ≤ℤ x = omega (arith, ints, c.if-x-next.false) in
    mark_more c.args.edge c.args.spans.now c.loop-passed.passed c.loop-passed.sum x c.index-spans-passed.result next c.place-sum.result
    c.loop-passed.invariant (omega (arith, c.loop-passed-test.true)) c.index-spans-passed.is
    (to_z-of_z w64 c.edge_of-next.result fits ∙ c.edge_of-next.ensures) least most c.place-sum.ensures
