-- Rising lists with the same members are one.
use Rattle.std.proofs.Common.{◌≡◌, ◌∙◌, ◌<◌, ◌≤◌, inl, inr, ℕ, suc, Bool, true, false, List, [], ◌∷◌, ◌++◌, ap, refl, sym, length, get_or, arith}
use Rattle.std.specs.Prelude.{◌==◌, ◌||◌}
use Rattle.std.specs.List.{AllPairs, flat_map, list_any}
use Rattle.std.specs.List.Sorted.{IsStrictlyIncreasing}
use Rattle.std.proofs.lemmas.Bool.{cases_Bool, eq-eqb}
use Rattle.std.proofs.lemmas.Bool.Decides.{eqb_tells}
use Rattle.std.proofs.lemmas.List.Kept.{AllPairs-from_increasing}

abbrev among : List ℕ → ℕ → Bool
among xs d = list_any (λ other. other == d) xs

-- k is below all
abbrev IsBelow : ℕ → List ℕ → Type 0
IsBelow k [] = Unit {0}
IsBelow k (x ∷ xs) = (k < x) × IsBelow k xs

-- each is below all after it
abbrev Rises : List ℕ → Type 0
Rises [] = Unit {0}
Rises (x ∷ xs) = IsBelow x xs × Rises xs

below_all : (k : ℕ) (xs : List ℕ) → ((j : ℕ) → j < length xs → k < get_or xs j 0) → IsBelow k xs
below_all k [] each = tt
below_all k (x ∷ xs) each = (each 0 (omega arith), below_all k xs (λ j within. each (suc j) (omega arith)))

rises_by_pairs : (xs : List ℕ) → AllPairs (λ x y. x < y) xs → Rises xs
rises_by_pairs [] pairs = tt
rises_by_pairs (x ∷ xs) pairs =
    (below_all x xs (λ j within. pairs 0 (suc j) 0 (omega arith) (omega arith)), rises_by_pairs xs (λ i j d less within. pairs (suc i) (suc j) d (omega arith) (omega arith)))

-- what is among them is above
above : (k d : ℕ) (xs : List ℕ) → IsBelow k xs → among xs d ≡ true → k < d
above k d [] below there = cc
above k d (x ∷ xs) below there = elim (eqb_tells x d) [
  | inl same ↦ let at : x ≡ d = same.1 in let first : k < x = below.0 in omega arith
  | inr apart ↦ above k d xs below.1 (rw apart.0 at there)
]

itself : (x : ℕ) (xs : List ℕ) → among (x ∷ xs) x ≡ true
itself x xs = ap (λ b. b || among xs x) (eq-eqb x x refl)

not_among : (k : ℕ) (xs : List ℕ) → IsBelow k xs → among xs k ≡ false
not_among k xs below = elim (cases_Bool (among xs k)) [
  | inl there ↦ let wrong : k < k = above k k xs below there in absurd (omega arith)
  | inr none ↦ none
]

-- the first is no greater than what is among them
first_least : (y x : ℕ) (ys : List ℕ) → IsBelow y ys → among (y ∷ ys) x ≡ true → y ≤ x
first_least y x ys below there = elim (eqb_tells y x) [
  | inl same ↦ let at : y ≡ x = same.1 in omega arith
  | inr apart ↦ let later : y < x = above y x ys below (rw apart.0 at there) in omega arith
]

same_tails : (x : ℕ) (xs ys : List ℕ) → IsBelow x xs → IsBelow x ys → ((d : ℕ) → among (x ∷ xs) d ≡ among (x ∷ ys) d) → (d : ℕ) → among xs d ≡ among ys d
same_tails x xs ys below_xs below_ys same d = elim (eqb_tells x d) [
  | inl at ↦ rw (← at.1) (not_among x xs below_xs ∙ sym (not_among x ys below_ys))
  | inr apart ↦ rw apart.0 at (same d)
]

same_lists : (xs ys : List ℕ) → Rises xs → Rises ys → ((d : ℕ) → among xs d ≡ among ys d) → xs ≡ ys
same_lists [] [] rises_xs rises_ys same = refl
same_lists [] (y ∷ ys) rises_xs rises_ys same = let wrong : false ≡ true = same y ∙ itself y ys in cc
same_lists (x ∷ xs) [] rises_xs rises_ys same = let wrong : true ≡ false = sym (itself x xs) ∙ same x in cc
same_lists (x ∷ xs) (y ∷ ys) rises_xs rises_ys same =
    let low : y ≤ x = first_least y x ys rises_ys.0 (sym (same x) ∙ itself x xs) in
    let high : x ≤ y = first_least x y xs rises_xs.0 (same y ∙ itself y ys) in
    let heads : x ≡ y = omega arith in
    let tails = same_tails y xs ys (rw heads at rises_xs.0) rises_ys.0 (rw heads at same) in
    rw heads (ap (λ l. y ∷ l) (same_lists xs ys rises_xs.1 rises_ys.1 tails))

pub same_rising : (xs ys : List ℕ) → IsStrictlyIncreasing xs → IsStrictlyIncreasing ys
    → ((d : ℕ) → list_any (λ other. other == d) xs ≡ list_any (λ other. other == d) ys) → xs ≡ ys
same_rising xs ys rising_xs rising_ys same =
    same_lists xs ys (rises_by_pairs xs (AllPairs-from_increasing xs rising_xs)) (rises_by_pairs ys (AllPairs-from_increasing ys rising_ys)) same

-- two functions that agree on the members of a list
pub flat_same : (f g : ℕ → List ℕ) (xs : List ℕ) → ((d : ℕ) → list_any (λ other. other == d) xs ≡ true → f d ≡ g d) → flat_map f xs ≡ flat_map g xs
flat_same f g [] agree = refl
flat_same f g (x ∷ xs) agree =
    let more = flat_same f g xs (λ d there. agree d (ap (λ b. (x == d) || b) there ∙ or_true (x == d))) in
    ap (λ l. f x ++ l) more ∙ ap (λ l. l ++ flat_map g xs) (agree x (itself x xs))
  where
    or_true : (b : Bool) → (b || true) ≡ true
    or_true true = refl
    or_true false = refl
