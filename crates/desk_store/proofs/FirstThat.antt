-- The first item that passes a test, with its number.
use Rattle.std.proofs.Common.{◌≡◌, ℕ, suc, ◌+◌, Bool, true, false, cond, List, [], ◌∷◌, ◌++◌, length, slice_get, Option, Some, None, option_map, option_and_then, refl, sym, ◌∙◌, ap, arith, add-zero}
use Rattle.std.specs.Option.{option_or, unwrap_or}
use Rattle.registry_core.specs.Numbered.{first_from, first_that, item_at}
use Rattle.desk_store.specs.steps.Uplinks.{number_of}

-- ---- of one item more

first_from_by : {X : Type 0} (first : ℕ) (test : X → Bool) (y : X) (ys : List X) (x : X) (b : Bool)
    → first_from (first + 1) test (ys ++ x ∷ []) ≡ option_or (first_from (first + 1) test ys) (cond (test x) (Some ((first + 1) + length ys, x)) None)
    → cond b (Some (first, y)) (first_from (first + 1) test (ys ++ x ∷ []))
    ≡ option_or (cond b (Some (first, y)) (first_from (first + 1) test ys)) (cond (test x) (Some (first + suc (length ys), x)) None)
first_from_by first test y ys x true rest = refl
first_from_by first test y ys x false rest =
    let place : (first + 1) + length ys ≡ first + suc (length ys) = omega arith in
    rest ∙ ap (λ number. option_or (first_from (first + 1) test ys) (cond (test x) (Some (number, x)) None)) place

first_from_more : {X : Type 0} (first : ℕ) (test : X → Bool) (xs : List X) (x : X)
    → first_from first test (xs ++ x ∷ []) ≡ option_or (first_from first test xs) (cond (test x) (Some (first + length xs, x)) None)
first_from_more first test [] x = ap (λ number. cond (test x) (Some (number, x)) None) (sym (add-zero first))
first_from_more first test (y ∷ ys) x = first_from_by first test y ys x (test y) (first_from_more (first + 1) test ys x)

number_more : {X : Type 0} (found : Option (ℕ × X)) (number : ℕ) (x : X) (b : Bool)
    → cond b (Some (unwrap_or (number_of found) number)) (number_of found) ≡ number_of (option_or found (cond b (Some (number, x)) None))
number_more None number x true = refl
number_more None number x false = refl
number_more (Some p) number x true = refl
number_more (Some p) number x false = refl

-- an item that passes and goes to the end is the first where there was none
pub number_of-append : {X : Type 0} (test : X → Bool) (xs : List X) (x : X) (number : ℕ) → number ≡ length xs + 1
    → cond (test x) (Some (unwrap_or (number_of (first_that test xs)) number)) (number_of (first_that test xs)) ≡ number_of (first_that test (xs ++ x ∷ []))
number_of-append test xs x number last =
    let place : number ≡ 1 + length xs = omega arith in
    number_more (first_that test xs) number x (test x)
    ∙ ap (λ n. number_of (option_or (first_that test xs) (cond (test x) (Some (n, x)) None))) place
    ∙ ap number_of (sym (first_from_more 1 test xs x))

-- ---- what was found, by its number

found_by : {X : Type 0} (first : ℕ) (test : X → Bool) (y : X) (ys : List X) (n : ℕ) (x : X) (b : Bool)
    → (first_from (first + 1) test ys ≡ Some (n, x) → (place : ℕ) × (n ≡ (first + 1) + place) × (slice_get ys place ≡ Some x))
    → cond b (Some (first, y)) (first_from (first + 1) test ys) ≡ Some (n, x) → (place : ℕ) × (n ≡ first + place) × (slice_get (y ∷ ys) place ≡ Some x)
found_by {X} first test y ys n x true rest is =
    let same : (first, y) ≡ (n, x) = cc in
    let number : first ≡ n = ap (λ (p : ℕ × X). p.0) same in
    let place : n ≡ first + 0 = sym number ∙ sym (add-zero first) in
    (0, place, ap (λ (p : ℕ × X). Some p.1) same)
found_by first test y ys n x false rest is =
    let found = rest is in
    let number : n ≡ first + suc found.0 = omega (arith, found.1) in
    (suc found.0, number, found.2)

pub found_at : {X : Type 0} (first : ℕ) (test : X → Bool) (xs : List X) (n : ℕ) (x : X) → first_from first test xs ≡ Some (n, x)
    → (place : ℕ) × (n ≡ first + place) × (slice_get xs place ≡ Some x)
found_at first test [] n x is = let no : ⊥ = cc in absurd no
found_at first test (y ∷ ys) n x is = found_by first test y ys n x (test y) (found_at (first + 1) test ys n x) is

-- by its number the list has the item that was found
found_numbered : {X : Type 0} (test : X → Bool) (xs : List X) (found : Option (ℕ × X)) → first_that test xs ≡ found
    → option_and_then (λ (n : ℕ). option_map (λ (x : X). (n, x)) (item_at xs n)) (number_of found) ≡ found
found_numbered test xs None is = refl
found_numbered test xs (Some p) is =
    let at_place = found_at 1 test xs p.0 p.1 is in
    let number : p.0 ≡ suc at_place.0 = omega (arith, at_place.1) in
    let item : item_at xs p.0 ≡ Some p.1 = rw number at_place.2 in
    ap (option_map (λ x. (p.0, x))) item

pub numbered_first : {X : Type 0} (test : X → Bool) (xs : List X) (number : Option ℕ) → number ≡ number_of (first_that test xs)
    → option_and_then (λ (n : ℕ). option_map (λ (x : X). (n, x)) (item_at xs n)) number ≡ first_that test xs
numbered_first test xs number is =
    ap (option_and_then (λ (n : ℕ). option_map (λ x. (n, x)) (item_at xs n))) is ∙ found_numbered test xs (first_that test xs) refl
