-- What numbered items mean: the greatest number, the first that passes a test, one that is changed.
use Rattle.std.proofs.Common.{◌≡◌, ℕ, zero, suc, ◌+◌, ◌<◌, ◌≤◌, Bool, true, false, cond, List, [], ◌∷◌, Option, Some, None, option_map, refl, sym, ◌∙◌, ap, subst, arith, inl, inr, if◌then◌else◌}
use Rattle.std.specs.Prelude.{◌⊎◌, ◌==◌, All, Contains, MatchOption, max, slice_get}
use Rattle.std.specs.Option.{option_map_or}
use Rattle.std.proofs.lemmas.List.Elements.{All-nil, All-cons}
use Rattle.std.proofs.lemmas.Bool.Decides.{nat_tests}
use Rattle.std.proofs.lemmas.Option.{same_Some}
use Rattle.registry_core.specs.declared.facts.Uplink.{Uplink}
use Rattle.registry_core.specs.Numbered.{item_at, item_changed, first_from, first_that, greatest, place_changed}
use Rattle.registry_core.specs.NumberedLaws.{FirstIsFirst, GreatestIsMost, OneIsChanged}
use Rattle.registry_core.proofs.Items.{first_is, item_changed_length, none_there}

-- ---- the greatest

max_is : (n k : ℕ) → (max n k ≡ n) ⊎ (max n k ≡ k)
max_is zero k = inr (grind arith)
max_is (suc n) zero = inl (grind arith)
max_is (suc n) (suc k) = raised (max_is n k)
  where
    raised : (max n k ≡ n) ⊎ (max n k ≡ k) → (max (suc n) (suc k) ≡ suc n) ⊎ (max (suc n) (suc k) ≡ suc k)
    raised (inl e) = inl (grind (arith, e))
    raised (inr e) = inr (grind (arith, e))

has_greater : (n : ℕ) (ns : List ℕ) (k : ℕ) → Contains ns k → (max n k ≡ n) ⊎ (max n k ≡ k) → Contains (n ∷ ns) (max n k)
has_greater n ns k at (inl e) = (0, omega arith, sym e)
has_greater n ns k at (inr e) = subst (Contains (n ∷ ns)) (sym e) (suc at.0, omega (arith, at.1), at.2)

most_by : (n : ℕ) (ns : List ℕ) (most : Option ℕ) → MatchOption most (ns ≡ []) (λ k. Contains ns k × All (λ m. m ≤ k) ns)
    → Contains (n ∷ ns) (option_map_or (max n) most n) × All (λ m. m ≤ option_map_or (max n) most n) (n ∷ ns)
most_by n ns None none =
    let itself : n ≤ n = omega arith in
    ((0, omega arith, refl), All-cons (λ m. m ≤ n) n ns itself (subst (All (λ m. m ≤ n)) (sym none) (All-nil (λ m. m ≤ n))))
most_by n ns (Some k) most =
    let above : n ≤ max n k = grind arith in
    (has_greater n ns k most.0 (max_is n k), All-cons (λ m. m ≤ max n k) n ns above (λ i d lt. let below = most.1 i d lt in grind (arith, below)))

pub greatest_is_most : GreatestIsMost
greatest_is_most [] = refl
greatest_is_most (n ∷ ns) = most_by n ns (greatest ns) (greatest_is_most ns)

-- ---- the first that passes

is_false : (b : Bool) → (b ≡ true → ⊥) → b ≡ false
is_false true never = absurd (never refl)
is_false false never = refl

before_by : {X : Type 0} (first : ℕ) (test : X → Bool) (x : X) (xs : List X) (p : ℕ × X) (b : Bool) → test x ≡ b → cond b (Some (first, x)) (first_from (first + 1) test xs) ≡ Some p
    → ((i : ℕ) (y : X) → first_from (first + 1) test xs ≡ Some p → (first + 1) + i < p.0 → slice_get xs i ≡ Some y → test y ≡ false)
    → (i : ℕ) (y : X) → first + i < p.0 → slice_get (x ∷ xs) i ≡ Some y → test y ≡ false
before_by first test x xs p true is e rest i y lt there = absurd (let same = same_Some (first, x) p e in omega (arith, ap (λ q. q.0) same, lt))
before_by first test x xs p false is e rest zero y lt there = ap test (sym (same_Some x y there)) ∙ is
before_by first test x xs p false is e rest (suc i) y lt there = rest i y e (omega (arith, lt)) there

fails_before : {X : Type 0} (first : ℕ) (test : X → Bool) (xs : List X) (p : ℕ × X) (i : ℕ) (y : X) → first_from first test xs ≡ Some p → first + i < p.0 → slice_get xs i ≡ Some y → test y ≡ false
fails_before first test [] p i y e lt there = cc
fails_before first test (x ∷ xs) p i y e lt there = before_by first test x xs p (test x) refl e (λ j z k below at. fails_before (first + 1) test xs p j z k below at) i y lt there

item_before : {X : Type 0} (test : X → Bool) (xs : List X) (p : ℕ × X) (n : ℕ) (y : X) → first_that test xs ≡ Some p → n < p.0 → item_at xs n ≡ Some y → test y ≡ false
item_before test xs p zero y e lt there = cc
item_before test xs p (suc i) y e lt there = fails_before 1 test xs p i y e (omega (arith, lt)) there

first_by : (test : Uplink → Bool) (uplinks : List Uplink) (found : Option (ℕ × Uplink)) → first_that test uplinks ≡ found → MatchOption found
    ((n : ℕ) (u : Uplink) → item_at uplinks n ≡ Some u → test u ≡ false)
    (λ p. (item_at uplinks p.0 ≡ Some p.1) × (test p.1 ≡ true) × ((n : ℕ) (u : Uplink) → n < p.0 → item_at uplinks n ≡ Some u → test u ≡ false))
first_by test uplinks None is = λ n u there. is_false (test u) (λ passes. none_there test uplinks n u is there passes)
first_by test uplinks (Some p) is = let at = first_is test uplinks p is in (at.0, at.1, λ n u lt there. item_before test uplinks p n u is lt there)

pub first_is_first : FirstIsFirst
first_is_first test uplinks = first_by test uplinks (first_that test uplinks) refl

-- ---- one that is changed

changed_there : {X : Type 0} (f : X → X) (xs : List X) (n : ℕ) → slice_get (place_changed f xs n) n ≡ option_map f (slice_get xs n)
changed_there f [] n = refl
changed_there f (x ∷ xs) zero = refl
changed_there f (x ∷ xs) (suc n) = changed_there f xs n

kept_elsewhere : {X : Type 0} (f : X → X) (xs : List X) (n i : ℕ) → (n ≡ i → ⊥) → slice_get (place_changed f xs n) i ≡ slice_get xs i
kept_elsewhere f [] n i apart = refl
kept_elsewhere f (x ∷ xs) zero zero apart = absurd (apart refl)
kept_elsewhere f (x ∷ xs) zero (suc i) apart = refl
kept_elsewhere f (x ∷ xs) (suc n) zero apart = refl
kept_elsewhere f (x ∷ xs) (suc n) (suc i) apart = kept_elsewhere f xs n i (λ same. apart (ap suc same))

pub item_there : {X : Type 0} (f : X → X) (xs : List X) (n : ℕ) → item_at (item_changed f xs n) n ≡ option_map f (item_at xs n)
item_there f xs zero = refl
item_there f xs (suc n) = changed_there f xs n

pub item_elsewhere : {X : Type 0} (f : X → X) (xs : List X) (n m : ℕ) → (n ≡ m → ⊥) → item_at (item_changed f xs n) m ≡ item_at xs m
item_elsewhere f xs zero m apart = refl
item_elsewhere f xs (suc n) zero apart = refl
item_elsewhere f xs (suc n) (suc i) apart = kept_elsewhere f xs n i (λ same. apart (ap suc same))

item_by : {X : Type 0} (f : X → X) (xs : List X) (n m : ℕ) (b : Bool) → (n == m) ≡ b → item_at (item_changed f xs n) m ≡ (if b then option_map f (item_at xs m) else item_at xs m)
item_by f xs n m true is = let same : n ≡ m = grind (arith, nat_tests, is) in subst (λ k. item_at (item_changed f xs n) k ≡ option_map f (item_at xs k)) same (item_there f xs n)
item_by f xs n m false is = item_elsewhere f xs n m (λ same. grind (arith, nat_tests, is, same))

pub one_is_changed : OneIsChanged
one_is_changed change bookings n = (item_changed_length change bookings n, λ m. item_by change bookings n m (n == m) refl)
