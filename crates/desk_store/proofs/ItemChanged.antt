-- A write at a place changes the item with the number of that place.
use Rattle.std.proofs.Common.{◌≡◌, ℕ, zero, suc, ◌-◌, ◌<◌, ◌≤◌, List, [], ◌∷◌, length, slice_get, None, refl, ap, arith}
use Rattle.std.specs.Prelude.{slice_index_or, slice_set}
use Rattle.registry_core.specs.Numbered.{item_at, item_changed, place_changed}

place_changed_by : {X : Type 0} (f : X → X) (xs : List X) (n : ℕ) (d : X) → n < length xs → slice_set xs n (f (slice_index_or xs n d)) ≡ place_changed f xs n
place_changed_by f [] n d within = absurd (omega arith)
place_changed_by f (x ∷ xs) zero d within = refl
place_changed_by f (x ∷ xs) (suc n) d within = ap (λ rest. x ∷ rest) (place_changed_by f xs n d (omega arith))

pub item_changed_by : {X : Type 0} (f : X → X) (xs : List X) (number : ℕ) (d : X) → 1 ≤ number → number ≤ length xs
    → slice_set xs (number - 1) (f (slice_index_or xs (number - 1) d)) ≡ item_changed f xs number
item_changed_by f xs zero d some within = absurd (omega arith)
item_changed_by f xs (suc n) d some within =
    let place : suc n - 1 ≡ n = omega arith in
    let below : n < length xs = omega arith in
    rw place (place_changed_by f xs n d below)

place_changed_past : {X : Type 0} (f : X → X) (xs : List X) (n : ℕ) → length xs ≤ n → place_changed f xs n ≡ xs
place_changed_past f [] n past = refl
place_changed_past f (x ∷ xs) zero past = absurd (omega arith)
place_changed_past f (x ∷ xs) (suc n) past = ap (λ rest. x ∷ rest) (place_changed_past f xs n (omega arith))

pub item_changed_none : {X : Type 0} (f : X → X) (xs : List X) (number : ℕ) → number < 1 → item_changed f xs number ≡ xs
item_changed_none f xs zero none = refl
item_changed_none f xs (suc n) none = absurd (omega arith)

pub item_changed_past : {X : Type 0} (f : X → X) (xs : List X) (number : ℕ) → length xs < number → item_changed f xs number ≡ xs
item_changed_past f xs zero past = refl
item_changed_past f xs (suc n) past = place_changed_past f xs n (omega arith)

place_changed_absent : {X : Type 0} (f : X → X) (xs : List X) (n : ℕ) → slice_get xs n ≡ None → place_changed f xs n ≡ xs
place_changed_absent f [] n none = refl
place_changed_absent f (x ∷ xs) zero none = let no : ⊥ = cc in absurd no
place_changed_absent f (x ∷ xs) (suc n) none = ap (λ rest. x ∷ rest) (place_changed_absent f xs n none)

pub item_changed_absent : {X : Type 0} (f : X → X) (xs : List X) (number : ℕ) → item_at xs number ≡ None → item_changed f xs number ≡ xs
item_changed_absent f xs zero none = refl
item_changed_absent f xs (suc n) none = place_changed_absent f xs n none
