-- Items that are numbered by their place from 1.
use Rattle.std.specs.Prelude.{ℕ, zero, suc, ◌+◌, Bool, List, [], ◌∷◌, max, Option, Some, None, slice_get, if◌then◌else◌}
use Rattle.std.specs.Option.{option_map_or}

-- the item with this number
abbrev pub item_at : {X : Type 0} → List X → ℕ → Option X
item_at xs zero = None
item_at xs (suc n) = slice_get xs n

-- the first item that passes the test, with its number; the items are numbered from `first` on
abbrev pub first_from : {X : Type 0} → ℕ → (X → Bool) → List X → Option (ℕ × X)
first_from first test [] = None
first_from first test (x ∷ xs) = if test x then Some (first, x) else first_from (first + 1) test xs

-- the same, numbered from 1
abbrev pub first_that : {X : Type 0} → (X → Bool) → List X → Option (ℕ × X)
first_that test xs = first_from 1 test xs

-- the greatest number, if there is one
abbrev pub greatest : List ℕ → Option ℕ
greatest [] = None
greatest (n ∷ ns) = Some (option_map_or (max n) (greatest ns) n)

-- the items with this change of the one at a place, counted from 0
abbrev pub place_changed : {X : Type 0} → (X → X) → List X → ℕ → List X
place_changed f [] n = []
place_changed f (x ∷ xs) zero = f x ∷ xs
place_changed f (x ∷ xs) (suc n) = x ∷ place_changed f xs n

-- the items with this change of the one with this number
abbrev pub item_changed : {X : Type 0} → (X → X) → List X → ℕ → List X
item_changed f xs zero = xs
item_changed f xs (suc n) = place_changed f xs n
