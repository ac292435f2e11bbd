-- Lists sorted by start: what sorting leaves the same.
use Rattle.std.proofs.Common.{◌≡◌, ℕ, zero, suc, ◌+◌, ◌-◌, ◌≤◌, ◌<◌, refl, arith, ap, sym, subst, ◌∙◌, List, [], ◌∷◌, ◌++◌, Bool, true, false, length, get_or, drop, cond, add-one, add-zero, add_assoc}
use Rattle.std.specs.Prelude.{ℤ, ◌≤ℤ◌, not, filter, All, AllPairs, IsPermutation}
use Rattle.std.specs.Ordering.{int_eq}
use Rattle.std.proofs.lemmas.Int.{ints}
use Rattle.std.proofs.lemmas.Bool.Decides.{Decides-int_eq}
use Rattle.std.proofs.lemmas.List.Elements.{All-filter, All-head}
use Rattle.std.proofs.lemmas.List.Filters.{length-filter_both}
use Rattle.std.proofs.lemmas.List.Kept.{AllPairs-filter}
use Rattle.std.proofs.lemmas.List.Sorted.{IsPermutation-refl, IsPermutation-sym, IsPermutation-trans, IsPermutation-append_right, IsPermutation-filter_both}
use Rattle.duty_core.specs.Use.{Interval}
use Rattle.duty_core.specs.InOrder.{StartsAscend}
use Rattle.duty_core.specs.Laws.{OrderIsUnique, OrderedUse, OrderedHours, OrderedPeak, FiltersKeepOrder, NearOnesKeepOrder}
use Rattle.duty_core.specs.Near.{is_near}
use Rattle.duty_core.proofs.Order.{use_ignores_order, hours_ignore_order, peak_ignores_order}

-- ---- a test leaves starts ascending

ascends_far : (l : List Interval) → StartsAscend l → (i n : ℕ) (d : Interval) → i + n < length l → (get_or l i d).start ≤ℤ (get_or l (i + n) d).start
ascends_far l h i zero d within = omega (arith, ints, ap (λ k. (get_or l k d).start) (add-zero i))
ascends_far l h i (suc n) d within =
    subst (λ k. (get_or l i d).start ≤ℤ (get_or l k d).start) (add_assoc i n 1 ∙ ap (λ k. i + k) (add-one n))
    (omega (arith, ints, ascends_far l h i n d (omega (arith, within)), h (i + n) d (omega (arith, within))))

in_pairs : (l : List Interval) → StartsAscend l → AllPairs (λ a b. a.start ≤ℤ b.start) l
in_pairs l h i j d before within =
    let there : i + (j - i) ≡ j = omega (arith, before) in
    subst (λ k. (get_or l i d).start ≤ℤ (get_or l k d).start) there (ascends_far l h i (j - i) d (omega (arith, there, within)))

ascend_of_filter : (p : Interval → Bool) (l : List Interval) → StartsAscend l → StartsAscend (filter p l)
ascend_of_filter p l h k d within =
    AllPairs-filter (λ a b. a.start ≤ℤ b.start) p l (in_pairs l h) k (k + 1) d (omega arith) within

-- ---- and those of each start

-- the test for that start
abbrev at : ℤ → Interval → Bool
at start a = int_eq a.start start

-- those of each start are in the same order in both lists
abbrev Together : List Interval → List Interval → Type 0
Together xs ys = (start : ℤ) → filter (at start) ys ≡ filter (at start) xs

filter_filter : (p q : Interval → Bool) (l : List Interval) → filter p (filter q l) ≡ filter q (filter p l)
filter_filter p q [] = refl
filter_filter p q (a ∷ l) = by (p a) (q a) refl refl (filter_filter p q l)
  where
    by : (s t : Bool) → p a ≡ s → q a ≡ t → filter p (filter q l) ≡ filter q (filter p l)
        → filter p (cond t (a ∷ filter q l) (filter q l)) ≡ filter q (cond s (a ∷ filter p l) (filter p l))
    by true true e f rest = rw (e, f) (ap (λ k. a ∷ k) rest)
    by true false e f rest = rw f rest
    by false true e f rest = rw e rest
    by false false e f rest = rest

together_of_filter : (p : Interval → Bool) (xs ys : List Interval) → Together xs ys → Together (filter p xs) (filter p ys)
together_of_filter p xs ys h start =
    filter_filter (at start) p ys ∙ ap (filter p) (h start) ∙ filter_filter p (at start) xs

-- ---- so they are the same intervals

at_itself : (a : Interval) → at a.start a ≡ true
at_itself a = (Decides-int_eq a.start a.start).1 refl

filter_first : (p : Interval → Bool) (a : Interval) (l : List Interval) → p a ≡ true → filter p (a ∷ l) ≡ a ∷ filter p l
filter_first p a l e = rw e refl

same_by_together : (n : ℕ) (xs ys : List Interval) → length xs ≤ n → Together xs ys → IsPermutation xs ys
same_by_together n [] [] h t = IsPermutation-refl []
same_by_together n [] (b ∷ ys) h t = absurd (omega (arith, ap length (t b.start), ap length (filter_first (at b.start) b ys (at_itself b))))
same_by_together zero (a ∷ xs) ys h t = absurd (omega (arith, h))
same_by_together (suc n) (a ∷ xs) ys h t =
    let first : Interval → Bool = at a.start in
    let other : Interval → Bool = λ b. not (first b) in
    let all = a ∷ xs in
    let long = length-filter_both first other (λ b. refl) all in
    let short : length (filter other all) ≤ n = omega (arith, h, long, ap length (filter_first first a xs (at_itself a))) in
    let others = same_by_together n (filter other all) (filter other ys) short (together_of_filter other all ys t) in
    let joined : IsPermutation all (filter first all ++ filter other ys) =
    IsPermutation-trans all (filter first all ++ filter other all) (filter first all ++ filter other ys)
    (IsPermutation-filter_both first other (λ b. refl) all) (IsPermutation-append_right (filter first all) (filter other all) (filter other ys) others) in
    let parted : IsPermutation (filter first all ++ filter other ys) ys =
    IsPermutation-sym ys (filter first all ++ filter other ys) (subst (λ k. IsPermutation ys (k ++ filter other ys)) (t a.start) (IsPermutation-filter_both first other (λ b. refl) ys)) in
    IsPermutation-trans all (filter first all ++ filter other ys) ys joined parted

-- ---- so a test leaves a list ordered by start

pub filters_keep_order : FiltersKeepOrder
filters_keep_order p xs ys h =
    let together = together_of_filter p xs ys h.together in
    record {
      same = same_by_together (length (filter p xs)) (filter p xs) (filter p ys) (omega arith) together;
      ascend = ascend_of_filter p ys h.ascend;
      together = together;
    }

pub near_ones_keep_order : NearOnesKeepOrder
near_ones_keep_order s = filters_keep_order (is_near s)

-- ---- and have the same hours

pub ordered_use : OrderedUse
ordered_use xs ys t h = use_ignores_order xs ys t h.same

pub ordered_hours : OrderedHours
ordered_hours xs ys m h = hours_ignore_order xs ys m h.same

pub ordered_peak : OrderedPeak
ordered_peak xs ys p h = peak_ignores_order xs ys p h.same

-- ---- and a list has one such order

none_before_first : (a : Interval) (l : List Interval) → StartsAscend (a ∷ l) → All (λ b. a.start ≤ℤ b.start) (a ∷ l)
none_before_first a l h k d within =
    let place : 0 + k ≡ k = omega arith in
    subst (λ n. a.start ≤ℤ (get_or (a ∷ l) n d).start) place (ascends_far (a ∷ l) h 0 k d (omega (arith, within)))

first_not_before : (a b : Interval) (l m : List Interval) → StartsAscend (a ∷ l) → Together (a ∷ l) (b ∷ m) → a.start ≤ℤ b.start
first_not_before a b l m h t =
    let after : Interval → Type 0 = λ c. a.start ≤ℤ c.start in
    let found : filter (at b.start) (a ∷ l) ≡ b ∷ filter (at b.start) m = sym (t b.start) ∙ filter_first (at b.start) b m (at_itself b) in
    All-head after b (filter (at b.start) m) (subst (All after) found (All-filter (at b.start) after (a ∷ l) (none_before_first a l h)))

together_of_tails : (a : Interval) (l m : List Interval) → Together (a ∷ l) (a ∷ m) → Together l m
together_of_tails a l m t start = by (at start a) refl (t start)
  where
    by : (b : Bool) → at start a ≡ b → cond b (a ∷ filter (at start) m) (filter (at start) m) ≡ cond b (a ∷ filter (at start) l) (filter (at start) l)
        → filter (at start) m ≡ filter (at start) l
    by true _ h = ap (drop 1) h
    by false _ h = h

ascend_of_tail : (a : Interval) (l : List Interval) → StartsAscend (a ∷ l) → StartsAscend l
ascend_of_tail a l h k d within =
    let place : suc k + 1 ≡ suc (k + 1) = omega arith in
    subst (λ n. (get_or l k d).start ≤ℤ (get_or (a ∷ l) n d).start) place (h (suc k) d (omega (arith, within)))

alike : (l m : List Interval) → StartsAscend l → StartsAscend m → Together l m → m ≡ l
alike [] [] up down t = refl
alike [] (b ∷ m) up down t = absurd (omega (arith, ap length (t b.start), ap length (filter_first (at b.start) b m (at_itself b))))
alike (a ∷ l) [] up down t = absurd (omega (arith, ap length (t a.start), ap length (filter_first (at a.start) a l (at_itself a))))
alike (a ∷ l) (b ∷ m) up down t =
    let same_start : b.start ≡ a.start =
    omega (arith, ints, first_not_before a b l m up t, first_not_before b a m l down (λ start. sym (t start))) in
    let found : b ∷ filter (at a.start) m ≡ a ∷ filter (at a.start) l =
    sym (filter_first (at a.start) b m (subst (λ z. int_eq b.start z ≡ true) same_start (at_itself b))) ∙ t a.start ∙ filter_first (at a.start) a l (at_itself a) in
    let same : b ≡ a = ap (λ k. get_or k 0 a) found in
    let tails = together_of_tails a l m (subst (λ c. Together (a ∷ l) (c ∷ m)) same t) in
    ap (λ c. c ∷ m) same ∙ ap (λ k. a ∷ k) (alike l m (ascend_of_tail a l up) (ascend_of_tail b m down) tails)

pub order_is_unique : OrderIsUnique
order_is_unique xs ys zs h k =
    alike ys zs h.ascend k.ascend (λ start. k.together start ∙ sym (h.together start))
