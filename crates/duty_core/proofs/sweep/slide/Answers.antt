-- The four heights at the hour's ends give its use, so what is subtracted isn't more than what it is subtracted from.
use Rattle.std.proofs.Common.{◌≡◌, arith, to_z, of_z, ℤ, ◌+ℤ◌, pos}
use mir.Syntax.{w64}
use Rattle.std.proofs.lemmas.Int.{ints}
use Rattle.duty_core.specs.Use.{hour}
use Rattle.duty_core.proofs.Sliding.{used_from_heights}
use Rattle.duty_core.proofs.sweep.slide.Goals as goal

pub overflow_sub-result : goal.overflow_sub-result
overflow_sub-result c =
    let now : ℤ = to_z w64 (of_z w64 c.args.t) in
    let later : ℤ = to_z w64 (of_z w64 (now +ℤ to_z w64 (of_z w64 c.from.result))) in
    let at_now : now ≡ c.args.t = omega (arith, ints) in
    let at_later : later ≡ (c.args.t +ℤ pos hour) = omega (arith, ints) in
    omega (arith, used_from_heights c.args.spans.now c.args.t now later _ _ _ _ at_now at_later c.climb-begun.ensures.same c.climb-ended.ensures.same c.climb-later_begun.ensures.same c.climb-later_ended.ensures.same)
