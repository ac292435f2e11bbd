-- A start that is too near the end of 64 bits is moved inward, which leaves the same spans near it.
use Rattle.std.proofs.Common.{◌≡◌, ◌-◌, ◌^◌, ◌&&◌, Bool, true, false, ℤ, pos, ◌+ℤ◌, ◌-ℤ◌, ◌<ℤ◌, int_lt, refl, arith, ap₂, rules, FitsSigned, w64}
use Rattle.std.specs.Int.{int_min, int_max}
use Rattle.std.proofs.lemmas.Int.{ints, clamps, to_z-of_z}
use Rattle.duty_core.specs.Use.{Interval}
use Rattle.duty_core.specs.Range.{IsStart}
use Rattle.duty_core.specs.Near.{near_reach, starts_between, is_near}
use Rattle.duty_core.proofs.near.near_range.Goals as goal

same_test : (a b c d : ℤ) → (a <ℤ b → c <ℤ d) → (c <ℤ d → a <ℤ b) → int_lt a b ≡ int_lt c d
same_test a b c d there back = by (int_lt a b) (int_lt c d) refl refl
  where
    by : (s t : Bool) → int_lt a b ≡ s → int_lt c d ≡ t → s ≡ t
    by true true _ _ = refl
    by false false _ _ = refl
    by true false less not_less = absurd (omega (arith, ints, not_less, there (omega (arith, ints, less))))
    by false true not_less less = absurd (omega (arith, ints, not_less, back (omega (arith, ints, less))))

-- what is near a start is near the one that it was brought to
same_near : (s within after before : ℤ) (a : Interval) → IsStart a.start
    → within ≡ int_max (pos near_reach -ℤ pos (2 ^ 63)) (int_min s (pos (2 ^ 63 - 1 - near_reach)))
    → after ≡ within -ℤ pos near_reach → before ≡ within +ℤ pos near_reach
    → is_near s a ≡ starts_between after before a
same_near s within after before a range is after_is before_is =
    ap₂ (λ b c. b && c)
    (same_test (s -ℤ pos near_reach) a.start after a.start (λ h. omega (arith, ints, clamps, h, is, after_is, range.least, range.below)) (λ h. omega (arith, ints, clamps, h, is, after_is, range.least, range.below)))
    (same_test a.start (s +ℤ pos near_reach) a.start before (λ h. omega (arith, ints, clamps, h, is, before_is, range.least, range.below)) (λ h. omega (arith, ints, clamps, h, is, before_is, range.least, range.below)))

pub returns-clause-near : goal.returns-clause-near
returns-clause-near c = λ a range.
    let fits = c.ranges.start in
    let is = (simp to_z-of_z at c.within_reach.ensures) in
    let within : FitsSigned w64 c.within_reach.result = search rules in
    same_near c.args.start c.within_reach.result _ _ a range is (simp to_z-of_z at c.range_around.ensures.after) (simp to_z-of_z at c.range_around.ensures.before)
