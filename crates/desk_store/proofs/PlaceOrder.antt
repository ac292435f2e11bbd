-- Places in order of start, then number: there is one such order of them.
use Rattle.std.proofs.Common.{◌≡◌, ℕ, suc, ◌+◌, ◌<◌, ◌≤◌, Bool, true, false, cond, List, [], ◌∷◌, length, Some, None, refl, sym, ◌∙◌, ap, arith, nat_cmp}
use Rattle.std.specs.Prelude.{ℤ, int_lt, sum_by, slice_index_or, IsPermutation}
use Rattle.std.specs.Cmp.{IsStrictWeakOrder, IsTotalOrder, int_cmp_total, nat_cmp_total, on_total, then_total}
use Rattle.std.specs.List.{AllByRecursion, cons_option, filter_map}
use Rattle.std.specs.List.Sorted.{IsSortedBy, IsStrictlySortedBy}
use Rattle.std.specs.Ordering.{int_cmp, is_lt, ordering_reverse, ordering_then}
use Rattle.std.specs.declared.cmp.Ordering.{Ordering}
use Rattle.std.specs.declared.cmp.Ordering.TheVariants.{Less, Equal, Greater}
use Rattle.std.proofs.lemmas.Int.{ints}
use Rattle.std.proofs.lemmas.List.Elements.{recursion_from_All, All-from_recursion}
use Rattle.std.proofs.lemmas.List.Sorted.{All-permutation, ranks_by, sorted_far, sum_by-IsPermutation}
use Rattle.std.proofs.lemmas.List.Sums.{sum_by-cons}
use Rattle.desk_store.specs.declared.start_index.Place.{Place}
use Rattle.desk_store.specs.steps.ByKey.{in_order, put_before}
use Rattle.desk_store.specs.steps.StartIndex.{numbered_from, place_of, places_that}
use Rattle.desk_store.proofs.ByKey.{in_order_permutation, not_both}
use Rattle.desk_store.proofs.ToldInOrder.{all_weaker}

-- ---- the order

abbrev pub place_cmp : Place → Place → Ordering
place_cmp a b = ordering_then (int_cmp a.start b.start) (nat_cmp a.number b.number)

abbrev pub before : Place → Place → Bool
before a b = is_lt (place_cmp a b)

place_total : IsTotalOrder place_cmp
place_total = then_total (on_total (λ (p : Place). p.start) int_cmp_total) (on_total (λ (p : Place). p.number) nat_cmp_total)

weak : IsStrictWeakOrder before
weak = ranks_by place_total (λ p. p)

itself_by : (r : Ordering) → r ≡ ordering_reverse r → is_lt r ≡ false
itself_by Less turned = let no : ⊥ = cc in absurd no
itself_by Equal turned = refl
itself_by Greater turned = refl

not_itself : (p : Place) → before p p ≡ false
not_itself p = itself_by (place_cmp p p) (place_total.antisymm p p)

equal_by : (r s : Ordering) → r ≡ ordering_reverse s → is_lt r ≡ false → is_lt s ≡ false → r ≡ Equal
equal_by Less s turned a b = let no : ⊥ = cc in absurd no
equal_by Equal s turned a b = refl
equal_by Greater Less turned a b = let no : ⊥ = cc in absurd no
equal_by Greater Equal turned a b = let no : ⊥ = cc in absurd no
equal_by Greater Greater turned a b = let no : ⊥ = cc in absurd no

equal_starts : (a b : ℤ) → int_cmp a b ≡ Equal → a ≡ b
equal_starts a b same = grind (arith, ints)

equal_numbers : (a b : ℕ) → nat_cmp a b ≡ Equal → a ≡ b
equal_numbers a b same = grind arith

both_equal : (r s : Ordering) → ordering_then r s ≡ Equal → (r ≡ Equal) × (s ≡ Equal)
both_equal Less s same = let no : ⊥ = cc in absurd no
both_equal Equal s same = (refl, same)
both_equal Greater s same = let no : ⊥ = cc in absurd no

-- two places are equal if neither goes before the other
one_place : (a b : Place) → before a b ≡ false → before b a ≡ false → a ≡ b
one_place a b ab ba =
    let both = both_equal (int_cmp a.start b.start) (nat_cmp a.number b.number) (equal_by (place_cmp a b) (place_cmp b a) (place_total.antisymm a b) ab ba) in
    let start : a.start ≡ b.start = equal_starts a.start b.start both.0 in
    let number : a.number ≡ b.number = equal_numbers a.number b.number both.1 in
    λ i. record { start = start i; number = number i }

-- ---- lists in that order

-- none goes before p
abbrev NoneBefore : Place → List Place → Type 0
NoneBefore p ps = AllByRecursion (λ q. before q p ≡ false) ps

abbrev pub Ordered : List Place → Type 0
Ordered [] = Unit {0}
Ordered (p ∷ ps) = NoneBefore p ps × Ordered ps

all_at : (P : Place → Type 0) (ps : List Place) → ((j : ℕ) (d : Place) → j < length ps → P (slice_index_or ps j d)) → AllByRecursion P ps
all_at P [] at = tt
all_at P (p ∷ ps) at = (at 0 p (omega arith), all_at P ps (λ j d within. at (suc j) d (omega arith)))

ordered_from : (ps : List Place) → ((i j : ℕ) (d : Place) → i ≤ j → j < length ps → before (slice_index_or ps j d) (slice_index_or ps i d) ≡ false) → Ordered ps
ordered_from [] far = tt
ordered_from (p ∷ ps) far = (
  all_at (λ q. before q p ≡ false) ps (λ j d within. far 0 (suc j) d (omega arith) (omega arith)),
  ordered_from ps (λ i j d order within. far (suc i) (suc j) d (omega arith) (omega arith)),
)

pub ordered_sorted : (ps : List Place) → IsSortedBy before ps → Ordered ps
ordered_sorted ps sorted = ordered_from ps (sorted_far before weak ps sorted)

-- how many go before p
abbrev earlier : Place → List Place → ℕ
earlier p ps = sum_by (λ q. cond (before q p) 1 0) ps

none_earlier : (p : Place) (ps : List Place) → NoneBefore p ps → earlier p ps ≡ 0
none_earlier p [] none = refl
none_earlier p (q ∷ qs) none = sum_by-cons (λ r. cond (before r p) 1 0) q qs ∙ (λ i. cond (none.0 i) 1 0 + none_earlier p qs none.1 i)

first_by : (b : Bool) (others : ℕ) → cond b 1 0 + others ≡ 0 → b ≡ false
first_by true others none = absurd (omega arith)
first_by false others none = refl

first_none : (p q : Place) (qs : List Place) → earlier p (q ∷ qs) ≡ 0 → before q p ≡ false
first_none p q qs none = first_by (before q p) (earlier p qs) (sym (sum_by-cons (λ r. cond (before r p) 1 0) q qs) ∙ none)

none_before_itself : (p : Place) (ps : List Place) → NoneBefore p ps → earlier p (p ∷ ps) ≡ 0
none_before_itself p ps none = none_earlier p (p ∷ ps) (not_itself p, none)

-- lists in order with the same places are one
one_order : (ps qs : List Place) → Ordered ps → Ordered qs → ((f : Place → ℕ) → sum_by f ps ≡ sum_by f qs) → ps ≡ qs
one_order [] [] op oq same = refl
one_order [] (q ∷ qs) op oq same = let sums : 0 ≡ 1 + sum_by (λ p. 1) qs = same (λ p. 1) ∙ sum_by-cons (λ p. 1) q qs in absurd (omega arith)
one_order (p ∷ ps) [] op oq same = let sums : 0 ≡ 1 + sum_by (λ p. 1) ps = sym (same (λ p. 1)) ∙ sum_by-cons (λ p. 1) p ps in absurd (omega arith)
one_order (p ∷ ps) (q ∷ qs) op oq same =
    let qp : before q p ≡ false = first_none p q qs (sym (same (λ r. cond (before r p) 1 0)) ∙ none_before_itself p ps op.0) in
    let pq : before p q ≡ false = first_none q p ps (same (λ r. cond (before r q) 1 0) ∙ none_before_itself q qs oq.0) in
    let first : p ≡ q = one_place p q pq qp in
    λ i. first i ∷ one_order ps qs op.1 oq.1 (λ f.
    let sums : f p + sum_by f ps ≡ f q + sum_by f qs = sym (sum_by-cons f p ps) ∙ same f ∙ sum_by-cons f q qs in
    let firsts : f p ≡ f q = ap f first in
    omega arith) i

pub ordered_once : (ps qs : List Place) → Ordered ps → Ordered qs → IsPermutation ps qs → ps ≡ qs
ordered_once ps qs op oq same = one_order ps qs op oq (λ f. sym (sum_by-IsPermutation f ps qs same))

-- ---- what is in order of start, where the numbers rise, is in that order

abbrev Above : ℕ → List Place → Type 0
Above n ps = AllByRecursion (λ p. n < p.number) ps

abbrev NumbersRise : List Place → Type 0
NumbersRise [] = Unit {0}
NumbersRise (p ∷ ps) = Above p.number ps × NumbersRise ps

-- what starts later goes after
later_start : (a b : ℤ) (o : Ordering) → int_lt a b ≡ true → ordering_then (int_cmp a b) o ≡ Less
later_start a b o later = rw later refl

-- and so does what starts no earlier and has a greater number
greater_number : (a b : ℤ) (m n : ℕ) → int_lt b a ≡ false → m < n → ordering_then (int_cmp a b) (nat_cmp m n) ≡ Less
greater_number a b m n starts numbers = by (int_lt a b) (int_lt b a) starts
  where
    number : nat_cmp m n ≡ Less
    number = grind arith

    by : (c d : Bool) → d ≡ false → ordering_then (cond c Less (cond d Greater Equal)) (nat_cmp m n) ≡ Less
    by true d is = refl
    by false true is = let no : ⊥ = cc in absurd no
    by false false is = number

not_above : (a b : ℤ) (o : Ordering) → ordering_then (int_cmp a b) o ≡ Less → int_lt b a ≡ false
not_above a b o less = by (int_lt a b) (int_lt b a) refl refl less
  where
    by : (c d : Bool) → int_lt a b ≡ c → int_lt b a ≡ d → ordering_then (cond c Less (cond d Greater Equal)) o ≡ Less → d ≡ false
    by true d ab ba told = sym ba ∙ not_both a b ab
    by false true ab ba told = let no : ⊥ = cc in absurd no
    by false false ab ba told = refl

starts_chain : (a b c : ℤ) → int_lt c b ≡ false → int_lt b a ≡ false → int_lt c a ≡ false
starts_chain a b c cb ba = grind (arith, ints)

all_put : (P : Place → Type 0) (p : Place) (qs : List Place) → P p → AllByRecursion P qs → AllByRecursion P (put_before (λ (r : Place). r.start) p qs)
all_put P p [] here all = (here, tt)
all_put P p (q ∷ qs) here all = by (int_lt q.start p.start) (all_put P p qs here all.1)
  where
    by : (b : Bool) → AllByRecursion P (put_before (λ (r : Place). r.start) p qs) → AllByRecursion P (cond b (q ∷ put_before (λ (r : Place). r.start) p qs) (p ∷ q ∷ qs))
    by true rest = (all.0, rest)
    by false rest = (here, all)

all_both : (P Q R : Place → Type 0) → ((p : Place) → P p → Q p → R p) → (ps : List Place) → AllByRecursion P ps → AllByRecursion Q ps → AllByRecursion R ps
all_both P Q R both [] ps qs = tt
all_both P Q R both (x ∷ xs) ps qs = (both x ps.0 qs.0, all_both P Q R both xs ps.1 qs.1)

put_rising : (p : Place) (qs : List Place) → Above p.number qs → IsStrictlySortedBy place_cmp qs → IsStrictlySortedBy place_cmp (put_before (λ (r : Place). r.start) p qs)
unfolding IsStrictlySortedBy
put_rising p [] above rising = (tt, tt)
put_rising p (q ∷ qs) above rising = by (int_lt q.start p.start) refl (put_rising p qs above.1 rising.1)
  where
    by : (b : Bool) → int_lt q.start p.start ≡ b → IsStrictlySortedBy place_cmp (put_before (λ (r : Place). r.start) p qs)
        → IsStrictlySortedBy place_cmp (cond b (q ∷ put_before (λ (r : Place). r.start) p qs) (p ∷ q ∷ qs))
    by true is rest = (all_put (λ r. place_cmp q r ≡ Less) p qs (later_start q.start p.start (nat_cmp q.number p.number) is) rising.0, rest)
    by false is rest = (
      (
        greater_number p.start q.start p.number q.number is above.0,
        all_both (λ r. place_cmp q r ≡ Less) (λ r. p.number < r.number) (λ r. place_cmp p r ≡ Less)
            (λ r after greater. greater_number p.start r.start p.number r.number
            (starts_chain p.start q.start r.start (not_above q.start r.start (nat_cmp q.number r.number) after) is) greater)
            qs rising.0 above.1,
      ),
      rising,
    )

in_order_rising : (ps : List Place) → NumbersRise ps → IsStrictlySortedBy place_cmp (in_order (λ (p : Place). p.start) ps)
unfolding IsStrictlySortedBy
in_order_rising [] rise = tt
in_order_rising (p ∷ ps) rise =
    put_rising p (in_order (λ (q : Place). q.start) ps)
    (recursion_from_All _ _ (All-permutation (λ (q : Place). p.number < q.number) ps (in_order (λ (q : Place). q.start) ps)
    (in_order_permutation (λ (q : Place). q.start) ps) (All-from_recursion _ _ rise.0)))
    (in_order_rising ps rise.1)

-- what comes later doesn't go before
less_after : (r s : Ordering) → r ≡ ordering_reverse s → s ≡ Less → is_lt r ≡ false
less_after r s turned less = ap is_lt (turned ∙ ap ordering_reverse less)

rising_ordered : (ps : List Place) → IsStrictlySortedBy place_cmp ps → Ordered ps
unfolding IsStrictlySortedBy
rising_ordered [] rising = tt
rising_ordered (p ∷ ps) rising = (
  all_weaker (λ q. place_cmp p q ≡ Less) (λ q. before q p ≡ false) (λ q less. less_after (place_cmp q p) (place_cmp p q) (place_total.antisymm q p) less) ps rising.0,
  rising_ordered ps rising.1,
)

-- ---- the numbers of items rise

module _ {X : Type 0} (start : X → ℤ) (test : X → Bool) where
  numbers_above : (n first : ℕ) (xs : List X) → n < first → Above n (filter_map (place_of start test) (numbered_from first xs))
  numbers_above n first [] above = tt
  numbers_above n first (x ∷ xs) above = by (test x) (numbers_above n (first + 1) xs (omega arith))
    where
      by : (b : Bool) → Above n (filter_map (place_of start test) (numbered_from (first + 1) xs))
          → Above n (cons_option (cond b (Some (record { start = start x; number = first })) None) (filter_map (place_of start test) (numbered_from (first + 1) xs)))
      by true rest = (above, rest)
      by false rest = rest

  numbers_rise : (first : ℕ) (xs : List X) → NumbersRise (filter_map (place_of start test) (numbered_from first xs))
  numbers_rise first [] = tt
  numbers_rise first (x ∷ xs) = by (test x) (numbers_rise (first + 1) xs)
    where
      by : (b : Bool) → NumbersRise (filter_map (place_of start test) (numbered_from (first + 1) xs))
          → NumbersRise (cons_option (cond b (Some (record { start = start x; number = first })) None) (filter_map (place_of start test) (numbered_from (first + 1) xs)))
      by true rest = (numbers_above first (first + 1) xs (omega arith), rest)
      by false rest = rest

  -- the places of items that pass rise
  pub places_rising : (xs : List X) → IsStrictlySortedBy place_cmp (places_that start test xs)
  places_rising xs = in_order_rising (filter_map (place_of start test) (numbered_from 1 xs)) (numbers_rise 1 xs)

  -- places of items that pass, sorted, are the list of their places
  pub places_sorted : (xs : List X) (ps : List Place) → IsSortedBy before ps → IsPermutation (places_that start test xs) ps → ps ≡ places_that start test xs
  places_sorted xs ps sorted same =
      sym (ordered_once (places_that start test xs) ps (rising_ordered (places_that start test xs) (places_rising xs)) (ordered_sorted ps sorted) same)
