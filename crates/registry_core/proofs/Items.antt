-- Numbered items: the last one of a longer list, the first that passes a test, the greatest of numbers, numbers that rise, an uplink with the same octets.
use Rattle.std.proofs.Common.{◌≡◌, ℕ, zero, suc, ◌+◌, ◌<◌, ◌≤◌, List, [], ◌∷◌, ◌++◌, length, map, filter, Bool, true, false, cond, Option, Some, None, refl, sym, ◌∙◌, ap, subst, arith, inl, inr, if◌then◌else◌}
use Rattle.std.specs.Prelude.{◌⊎◌, slice_get, max, bytes_eq, option_and_then}
use Rattle.std.specs.Option.{option_map_or}
use Rattle.std.proofs.lemmas.Bool.{both_ways}
use Rattle.std.proofs.lemmas.Bool.Decides.{nat_tests}
use Rattle.std.proofs.lemmas.Option.{same_Some, slice_get_within}
use Rattle.std.proofs.lemmas.Slice.Eq.{bytes_eq-Decides}
use Rattle.registry_core.specs.declared.facts.Uplink.{Uplink}
use Rattle.registry_core.specs.Derived.{is_above}
use Rattle.registry_core.specs.Numbered.{item_at, item_changed, first_from, first_that, greatest, place_changed}
use Rattle.registry_core.specs.Uplinks.{same_octets}

-- ---- one more item

last_get : {X : Type 0} (xs : List X) (x : X) (i : ℕ) (y : X) → slice_get (xs ++ x ∷ []) i ≡ Some y → (slice_get xs i ≡ Some y) ⊎ ((i ≡ length xs) × (x ≡ y))
last_get [] x zero y e = inr (refl, same_Some x y e)
last_get [] x (suc i) y e = cc
last_get (z ∷ xs) x zero y e = inl e
last_get (z ∷ xs) x (suc i) y e = deeper (last_get xs x i y e)
  where
    deeper : (slice_get xs i ≡ Some y) ⊎ ((i ≡ length xs) × (x ≡ y)) → (slice_get (z ∷ xs) (suc i) ≡ Some y) ⊎ ((suc i ≡ length (z ∷ xs)) × (x ≡ y))
    deeper (inl h) = inl h
    deeper (inr h) = inr (ap suc h.0, h.1)

-- an item of the longer list was there before, or is the new one
pub item_last : {X : Type 0} (xs : List X) (x : X) (n : ℕ) (y : X) → item_at (xs ++ x ∷ []) n ≡ Some y → (item_at xs n ≡ Some y) ⊎ ((n ≡ length xs + 1) × (x ≡ y))
item_last xs x zero y e = cc
item_last xs x (suc i) y e = raised (last_get xs x i y e)
  where
    raised : (slice_get xs i ≡ Some y) ⊎ ((i ≡ length xs) × (x ≡ y)) → (item_at xs (suc i) ≡ Some y) ⊎ ((suc i ≡ length xs + 1) × (x ≡ y))
    raised (inl h) = inl h
    raised (inr h) = inr (omega (arith, h.0), h.1)

get_stays : {X : Type 0} (xs : List X) (x : X) (i : ℕ) (y : X) → slice_get xs i ≡ Some y → slice_get (xs ++ x ∷ []) i ≡ Some y
get_stays [] x i y e = cc
get_stays (z ∷ xs) x zero y e = e
get_stays (z ∷ xs) x (suc i) y e = get_stays xs x i y e

-- what was there stays where it was
pub item_stays : {X : Type 0} (xs : List X) (x : X) (n : ℕ) (y : X) → item_at xs n ≡ Some y → item_at (xs ++ x ∷ []) n ≡ Some y
item_stays xs x zero y e = cc
item_stays xs x (suc i) y e = get_stays xs x i y e

-- the numbers go from 1 to the length
pub item_within : {X : Type 0} (xs : List X) (n : ℕ) (y : X) → item_at xs n ≡ Some y → (1 ≤ n) × (n ≤ length xs)
item_within xs zero y e = cc
item_within xs (suc i) y e = let below : i < length xs = slice_get_within xs i y e in (omega arith, omega (arith, below))

-- ---- the first that passes

record IsFirst {X : Type 0} (first : ℕ) (test : X → Bool) (xs : List X) (p : ℕ × X) : Type 0 where
  place : ℕ
  number : p.0 ≡ first + place
  there : slice_get xs place ≡ Some p.1
  passes : test p.1 ≡ true

first_by : {X : Type 0} (first : ℕ) (test : X → Bool) (x : X) (xs : List X) (p : ℕ × X) (b : Bool) → test x ≡ b
    → (first_from (first + 1) test xs ≡ Some p → IsFirst (first + 1) test xs p)
    → cond b (Some (first, x)) (first_from (first + 1) test xs) ≡ Some p → IsFirst first test (x ∷ xs) p
first_by first test x xs p true passes rest e = let is : (first, x) ≡ p = same_Some (first, x) p e in record {
  place = 0;
  number = omega (arith, ap (λ q. q.0) is);
  there = ap (λ q. Some q.1) is;
  passes = ap (λ q. test q.1) (sym is) ∙ passes;
}
first_by first test x xs p false passes rest e = let f = rest e in record { place = suc f.place; number = omega (arith, f.number); there = f.there; passes = f.passes }

is_first : {X : Type 0} (first : ℕ) (test : X → Bool) (xs : List X) (p : ℕ × X) → first_from first test xs ≡ Some p → IsFirst first test xs p
is_first first test [] p e = cc
is_first first test (x ∷ xs) p e = first_by first test x xs p (test x) refl (is_first (first + 1) test xs p) e

-- what is found is there, with its number, and passes
pub first_is : {X : Type 0} (test : X → Bool) (xs : List X) (p : ℕ × X) → first_that test xs ≡ Some p → (item_at xs p.0 ≡ Some p.1) × (test p.1 ≡ true)
first_is test xs p e = let f = is_first 1 test xs p e in
    let number : p.0 ≡ suc f.place = omega (arith, f.number) in
    (ap (item_at xs) number ∙ f.there, f.passes)

-- ---- the greatest

above_all : (n x : ℕ) (rest : Option ℕ) → is_above n (Some (option_map_or (max x) rest x)) ≡ true → (x < n) × (is_above n rest ≡ true)
above_all n x None h = (grind (arith, nat_tests), refl)
above_all n x (Some y) h = (grind (arith, nat_tests), grind (arith, nat_tests))

above_by : {X : Type 0} (number : X → ℕ) (test : X → Bool) (x : X) (xs : List X) (n i : ℕ) (a : X) (b : Bool) → test x ≡ b → item_at (x ∷ xs) (suc i) ≡ Some a → test a ≡ true
    → ((m : ℕ) → item_at xs m ≡ Some a → is_above n (greatest (map number (filter test xs))) ≡ true → number a < n)
    → is_above n (greatest (map number (cond b (x ∷ filter test xs) (filter test xs)))) ≡ true → number a < n
above_by number test x xs n zero a true is e passes rest above = subst (λ y. number y < n) (same_Some x a e) (above_all n (number x) (greatest (map number (filter test xs))) above).0
above_by number test x xs n (suc i) a true is e passes rest above = rest (suc i) e (above_all n (number x) (greatest (map number (filter test xs))) above).1
above_by number test x xs n zero a false is e passes rest above = absurd (both_ways (test a) (ap test (sym (same_Some x a e)) ∙ is) passes)
above_by number test x xs n (suc i) a false is e passes rest above = rest (suc i) e above

-- what is above the greatest of those that pass is above each of them
pub above_each : {X : Type 0} (number : X → ℕ) (test : X → Bool) (xs : List X) (n m : ℕ) (a : X) → item_at xs m ≡ Some a → test a ≡ true
    → is_above n (greatest (map number (filter test xs))) ≡ true → number a < n
above_each number test xs n zero a e passes above = cc
above_each number test [] n (suc i) a e passes above = cc
above_each number test (x ∷ xs) n (suc i) a e passes above =
    above_by number test x xs n i a (test x) refl e passes (λ m there k. above_each number test xs n m a there passes k) above

-- ---- numbers that rise

-- where the numbers of items that are alike rise with their places, and the new one's is above those that are like it, they rise still
pub rise_with : {X : Type 0} (number : X → ℕ) (Alike : X → X → Type 0) (xs : List X) (new : X)
    → ((m n : ℕ) (a b : X) → item_at xs m ≡ Some a → item_at xs n ≡ Some b → Alike a b → m < n → number a < number b)
    → ((m : ℕ) (a : X) → item_at xs m ≡ Some a → Alike a new → number a < number new)
    → (m n : ℕ) (a b : X) → item_at (xs ++ new ∷ []) m ≡ Some a → item_at (xs ++ new ∷ []) n ≡ Some b → Alike a b → m < n → number a < number b
rise_with number Alike xs new rise above m n a b em en alike lt = both (item_last xs new m a em) (item_last xs new n b en)
  where
    both : (item_at xs m ≡ Some a) ⊎ ((m ≡ length xs + 1) × (new ≡ a)) → (item_at xs n ≡ Some b) ⊎ ((n ≡ length xs + 1) × (new ≡ b)) → number a < number b
    both (inl x) (inl y) = rise m n a b x y alike lt
    both (inl x) (inr y) = subst (λ z. number a < number z) y.1 (above m a x (subst (Alike a) (sym y.1) alike))
    both (inr x) (inl y) = absurd (omega (arith, x.0, lt, (item_within xs n b y).1))
    both (inr x) (inr y) = absurd (omega (arith, x.0, y.0, lt))

-- ---- the only one that passes

get_last : {X : Type 0} (xs : List X) (x : X) → slice_get (xs ++ x ∷ []) (length xs) ≡ Some x
get_last [] x = refl
get_last (y ∷ xs) x = get_last xs x

-- the new item has the next number
pub item_new : {X : Type 0} (xs : List X) (x : X) (n : ℕ) → n ≡ length xs + 1 → item_at (xs ++ x ∷ []) n ≡ Some x
item_new xs x zero e = absurd (omega (arith, e))
item_new xs x (suc i) e = let last : i ≡ length xs = omega (arith, e) in ap (slice_get (xs ++ x ∷ [])) last ∙ get_last xs x

none_by : {X : Type 0} (first : ℕ) (test : X → Bool) (x : X) (xs : List X) (i : ℕ) (y : X) (b : Bool) → test x ≡ b → cond b (Some (first, x)) (first_from (first + 1) test xs) ≡ None
    → slice_get (x ∷ xs) i ≡ Some y → test y ≡ true → ((k : ℕ) → first_from (first + 1) test xs ≡ None → slice_get xs k ≡ Some y → ⊥) → ⊥
none_by first test x xs i y true is e there passes rest = cc
none_by first test x xs zero y false is e there passes rest = absurd (both_ways (test y) (ap test (sym (same_Some x y there)) ∙ is) passes)
none_by first test x xs (suc k) y false is e there passes rest = rest k e there

-- where nothing is found, nothing passes
none_passes : {X : Type 0} (first : ℕ) (test : X → Bool) (xs : List X) (i : ℕ) (y : X) → first_from first test xs ≡ None → slice_get xs i ≡ Some y → test y ≡ true → ⊥
none_passes first test [] i y e there passes = cc
none_passes first test (x ∷ xs) i y e there passes = none_by first test x xs i y (test x) refl e there passes (λ k none at. none_passes (first + 1) test xs k y none at passes)

-- and so no item does
pub none_there : {X : Type 0} (test : X → Bool) (xs : List X) (n : ℕ) (y : X) → first_that test xs ≡ None → item_at xs n ≡ Some y → test y ≡ true → ⊥
none_there test xs zero y e there passes = cc
none_there test xs (suc i) y e there passes = none_passes 1 test xs i y e there passes

only_by : {X : Type 0} (test : X → Bool) (xs : List X) (n : ℕ) (y : X) (found : Option (ℕ × X)) → first_that test xs ≡ found → item_at xs n ≡ Some y → test y ≡ true
    → ((m : ℕ) (z : X) → item_at xs m ≡ Some z → test z ≡ true → m ≡ n) → found ≡ Some (n, y)
only_by test xs zero y found is there passes only = cc
only_by test xs (suc i) y None is there passes only = absurd (none_there test xs (suc i) y is there passes)
only_by test xs (suc i) y (Some p) is there passes only =
    let at = first_is test xs p is in
    let number : p.0 ≡ suc i = only p.0 p.1 at.0 at.1 in
    let item : p.1 ≡ y = same_Some p.1 y (sym at.0 ∙ ap (item_at xs) number ∙ there) in
    λ k. Some (number k, item k)

-- what passes is found, where nothing else does
pub first_only : {X : Type 0} (test : X → Bool) (xs : List X) (n : ℕ) (y : X) → item_at xs n ≡ Some y → test y ≡ true
    → ((m : ℕ) (z : X) → item_at xs m ≡ Some z → test z ≡ true → m ≡ n) → first_that test xs ≡ Some (n, y)
first_only test xs n y there passes only = only_by test xs n y (first_that test xs) refl there passes only

-- ---- the same octets

octets_by : (octets : List ℕ) (p found : ℕ × Uplink) (b : Bool) → bytes_eq p.1.octets octets ≡ b → (if b then Some p else None) ≡ Some found → (Some p ≡ Some found) × (found.1.octets ≡ octets)
octets_by octets p found true is e = (e, ap (λ (q : ℕ × Uplink). q.1.octets) (sym (same_Some p found e)) ∙ (bytes_eq-Decides p.1.octets octets).0 is)
octets_by octets p found false is e = cc

-- what is found with the same octets was found, and has them
pub with_octets : (octets : List ℕ) (first : Option (ℕ × Uplink)) (found : ℕ × Uplink) → option_and_then (same_octets octets) first ≡ Some found → (first ≡ Some found) × (found.1.octets ≡ octets)
with_octets octets None found e = cc
with_octets octets (Some p) found e = octets_by octets p found (bytes_eq p.1.octets octets) refl e

-- and it is found where it has them
pub kept_with : (octets : List ℕ) (first : Option (ℕ × Uplink)) (n : ℕ) (u : Uplink) → first ≡ Some (n, u) → u.octets ≡ octets → option_and_then (same_octets octets) first ≡ Some (n, u)
kept_with octets first n u is same = rw (is, (bytes_eq-Decides u.octets octets).1 same) refl

-- ---- one item changed

place_changed_length : {X : Type 0} (f : X → X) (xs : List X) (n : ℕ) → length (place_changed f xs n) ≡ length xs
place_changed_length f [] n = refl
place_changed_length f (x ∷ xs) zero = refl
place_changed_length f (x ∷ xs) (suc n) = ap suc (place_changed_length f xs n)

-- as many as before
pub item_changed_length : {X : Type 0} (f : X → X) (xs : List X) (n : ℕ) → length (item_changed f xs n) ≡ length xs
item_changed_length f xs zero = refl
item_changed_length f xs (suc n) = place_changed_length f xs n
