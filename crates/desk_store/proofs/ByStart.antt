-- A list in order of start, as one that is sorted stably is.
use Rattle.std.proofs.Common.{◌≡◌, ◌+◌, Bool, true, false, cond, List, refl, sym, ◌∙◌, arith}
use Rattle.std.specs.Prelude.{ℤ, ◌≤ℤ◌, int_lt, not, ◌&&◌, slice_index_or, IsPermutation}
use Rattle.std.specs.List.Sorted.{ties, IsSortedByKey, IsStableByKey}
use Rattle.std.specs.Ordering.{int_cmp, int_eq, is_eq, is_lt}
use Rattle.std.specs.declared.cmp.Ordering.TheVariants.{Less, Equal, Greater}
use Rattle.std.proofs.lemmas.Int.{ints}
use Rattle.std.proofs.lemmas.List.Elements.{filter_agree}
use Rattle.duty_core.specs.InOrder.{IsByStart}
use Rattle.duty_core.specs.Use.{Interval}
use Rattle.desk_store.specs.steps.ByKey.{in_order}
use Rattle.desk_store.proofs.ByKey.{in_order_permutation, in_order_ascends, in_order_together}

pub by_start : (xs : List Interval) → IsByStart xs (in_order (λ (a : Interval). a.start) xs)
by_start xs = record {
  same = in_order_permutation (λ (a : Interval). a.start) xs;
  ascend = in_order_ascends (λ (a : Interval). a.start) xs;
  together = λ start. in_order_together (λ (a : Interval). a.start) start xs;
}

not_less : (a b : ℤ) → is_lt (int_cmp a b) ≡ false → b ≤ℤ a
not_less a b h = grind (arith, ints)

equal_by : (a b : ℤ) (ab ba : Bool) → int_lt a b ≡ ab → int_lt b a ≡ ba
    → is_eq (cond ab Less (cond ba Greater Equal)) ≡ (not (is_lt (cond ba Less (cond ab Greater Equal))) && not (is_lt (cond ab Less (cond ba Greater Equal))))
equal_by a b true true ab ba = refl
equal_by a b true false ab ba = refl
equal_by a b false true ab ba = refl
equal_by a b false false ab ba = refl

equal_is : (a b : ℤ) → int_eq a b ≡ (not (is_lt (int_cmp b a)) && not (is_lt (int_cmp a b)))
equal_is a b = equal_by a b (int_lt a b) (int_lt b a) refl refl

-- what a stable sort by start leaves is in order of start
pub by_start_sorted : (xs ys : List Interval) → IsPermutation xs ys → IsSortedByKey (λ (a : Interval). a.start) int_cmp ys
    → IsStableByKey (λ (a : Interval). a.start) int_cmp xs ys → IsByStart xs ys
by_start_sorted xs ys same sorted stable = record {
  same = same;
  ascend = λ k d within. not_less (slice_index_or ys (k + 1) d).start (slice_index_or ys k d).start (sorted k d (omega arith) within);
  together = λ start.
      let at : Interval = record { start = start; len = 0 } in
      let tied = λ (a : Interval). equal_is a.start start in
      filter_agree (λ a. int_eq a.start start) (ties (λ (a b : Interval). is_lt (int_cmp a.start b.start)) at) tied ys ∙ stable at
      ∙ sym (filter_agree (λ a. int_eq a.start start) (ties (λ (a b : Interval). is_lt (int_cmp a.start b.start)) at) tied xs);
}
