-- The numbers of rows in order of their starts are the registry's: they rise strictly, and are those of the items that pass the test.
use Rattle.std.proofs.Common.{◌≡◌, ℕ, zero, suc, ◌+◌, ◌<◌, ◌==◌, ◌&&◌, Bool, true, false, cond, true≢false, List, [], ◌∷◌, map, filter, slice_get, Option, Some, refl, sym, ap, ap₂, subst, ◌∙◌, arith, Ordering, Less, Equal, Greater}
use Rattle.std.specs.Prelude.{ℤ, pos, int_lt}
use Rattle.std.specs.Cmp.{nat_eq_equiv}
use Rattle.std.specs.List.{AllByRecursion, list_any}
use Rattle.std.specs.List.Sorted.{IsStrictlySortedBy}
use Rattle.std.specs.Option.{option_map_or}
use Rattle.std.specs.Ordering.{int_cmp, is_gt, nat_cmp, ordering_then}
use Rattle.std.proofs.lemmas.Bool.{lt-ltb}
use Rattle.std.proofs.lemmas.Cmp.{int_cmp_total, nat_cmp_total, on_total, then_total}
use Rattle.registry_core.specs.Listing.{AreNumbersByStart, start_at, start_cmp}
use Rattle.registry_core.specs.Numbered.{item_at}
use Rattle.desk_rows.specs.order.Arranged.{by_start, numbers_by}
use Rattle.desk_rows.specs.order.LookUps.{rows_by, zip_from}
use Rattle.desk_rows.proofs.Beside.{any_named}
use Rattle.desk_rows.proofs.OrderLemmas.Each.{all_passing}
use Rattle.desk_rows.proofs.OrderLemmas.Looking.{any_alike}
use Rattle.desk_rows.proofs.OrderLemmas.Numbering.{item_shown}
use Rattle.desk_rows.proofs.OrderLemmas.Orders.{puts_by_start}
use Rattle.desk_rows.proofs.OrderLemmas.Rising.{any_map, any_passing, any_sorted, rises_sorted, strictly}
use Rattle.desk_rows.proofs.OrderLemmas.Sorting.{numbers_rise}
use Rattle.desk_rows.proofs.Terms.{and_true}

module _ {X : Type 0} (start : X → ℤ) (xs : List X) where
  -- the row's number is that of its item
  abbrev IsItem : ℕ × X → Type 0
  IsItem b = item_at xs b.0 ≡ Some b.1

  abbrev EarlierNumber : ℕ × X → ℕ × X → Type 0
  EarlierNumber a b = a.0 < b.0

  abbrev BelowStart : ℕ × X → ℕ × X → Type 0
  BelowStart a b = start_cmp start xs a.0 b.0 ≡ Less

  -- by the starts of the rows
  below_start : (a b : ℕ × X) → IsItem a → IsItem b → ordering_then (int_cmp (start a.1) (start b.1)) (nat_cmp a.0 b.0) ≡ Less → BelowStart a b
  below_start a b own other less =
      ap₂ (λ s t. ordering_then (int_cmp (option_map_or start s (pos 0)) (option_map_or start t (pos 0))) (nat_cmp a.0 b.0)) own other ∙ less

  start_after : (a b : ℕ × X) → IsItem a → IsItem b → EarlierNumber a b → is_gt (by_start start a b) ≡ true → BelowStart b a
  start_after a b own other apart gt = below_start b a other own
      (ap (λ t. ordering_then (cond t Less (cond (int_lt (start a.1) (start b.1)) Greater Equal)) (nat_cmp b.0 a.0)) (sym (puts_by_start start a b apart) ∙ gt))

  start_before : (a b : ℕ × X) → IsItem a → IsItem b → EarlierNumber a b → is_gt (by_start start a b) ≡ false → BelowStart a b
  start_before a b own other apart gt =
      below_start a b own other (by (int_lt (start a.1) (start b.1)) (int_lt (start b.1) (start a.1)) (sym (puts_by_start start a b apart) ∙ gt))
    where
      by : (s t : Bool) → t ≡ false → ordering_then (cond s Less (cond t Greater Equal)) (nat_cmp a.0 b.0) ≡ Less
      by true t is = refl
      by false true is = absurd (true≢false is)
      by false false is = ap (λ l. cond l Less (cond (a.0 == b.0) Equal Greater)) (lt-ltb a.0 b.0 apart)

  start_chain : (a b c : ℕ × X) → BelowStart a b → BelowStart b c → BelowStart a c
  start_chain a b c = (then_total (on_total (start_at start xs) int_cmp_total) nat_cmp_total).trans a.0 b.0 c.0

zipped_items : {X : Type 0} (item : ℕ → Option X) (n : ℕ) (xs : List X) → ((k : ℕ) → item (n + k) ≡ slice_get xs k)
    → AllByRecursion (λ b. item b.0 ≡ Some b.1) (zip_from n xs)
zipped_items item n [] is = tt
zipped_items {X} item n (x ∷ xs) is =
    let here : n + 0 ≡ n = omega arith in
    (subst (λ m. item m ≡ Some x) here (is zero), zipped_items item (n + 1) xs (λ k. later k))
  where
    later : (k : ℕ) → item (n + 1 + k) ≡ slice_get xs k
    later k = let place : n + suc k ≡ n + 1 + k = omega arith in subst (λ m. item m ≡ slice_get xs k) place (is (suc k))

are_items : {X : Type 0} (xs : List X) → AllByRecursion (λ (b : ℕ × X). item_at xs b.0 ≡ Some b.1) (zip_from 1 xs)
are_items xs = zipped_items (item_at xs) 1 xs (λ k. let place : suc k ≡ 1 + k = omega arith in subst (λ m. item_at xs m ≡ slice_get xs k) place refl)

pub numbers_by_start : {X : Type 0} (start : X → ℤ) (test : X → Bool) (xs : List X) → AreNumbersByStart start test xs (numbers_by (by_start start) test xs)
numbers_by_start {X} start test xs = record {
  rising = strictly (start_cmp start xs) (λ (b : ℕ × X). b.0) (rows_by (by_start start) test xs)
      (rises_sorted (by_start start) (IsItem start xs) (EarlierNumber start xs) (BelowStart start xs) (start_after start xs) (start_before start xs)
      (start_chain start xs) (filter (λ b. test b.1) (zip_from 1 xs)) (all_passing (IsItem start xs) (λ b. test b.1) (zip_from 1 xs) (are_items xs))
      (numbers_rise test xs));
  each = λ n.
      any_map (λ (b : ℕ × X). b.0) (λ other. other == n) (rows_by (by_start start) test xs)
      ∙ any_sorted (by_start start) (λ (b : ℕ × X). b.0 == n) (filter (λ b. test b.1) (zip_from 1 xs))
      ∙ any_passing (λ (b : ℕ × X). test b.1) (λ b. b.0 == n) (zip_from 1 xs)
      ∙ any_alike _ _ (λ (b : ℕ × X). turned (test b.1) (b.0 == n) (n == b.0) (nat_eq_equiv.symm b.0 n)) (zip_from 1 xs)
      ∙ any_named test true n xs ∙ and_true _;
}
  where
    turned : (p s t : Bool) → s ≡ t → (p && s) ≡ (t && (p && true))
    turned true s true is = is
    turned true s false is = is
    turned false s true is = refl
    turned false s false is = refl

-- of the items that rows show
pub items_by_start : {X Y : Type 0} (f : X → Y) (start : Y → ℤ) (test : Y → Bool) (xs : List X) (numbers : List ℕ)
    → AreNumbersByStart (λ x. start (f x)) (λ x. test (f x)) xs numbers → AreNumbersByStart start test (map f xs) numbers
items_by_start f start test xs numbers are =
    let starts : (n : ℕ) → start_at (λ x. start (f x)) xs n ≡ start_at start (map f xs) n = λ n. sym (item_shown f start (pos 0) xs n) in
    record {
      rising = subst (λ cmp. IsStrictlySortedBy cmp numbers) (λ i m n. ordering_then (int_cmp (starts m i) (starts n i)) (nat_cmp m n)) are.rising;
      each = λ n. are.each n ∙ sym (item_shown f test false xs n);
    }
