-- Lists ordered by an integer that each item has, its key.
use Rattle.std.specs.Prelude.{◌≡◌, ℤ, int_lt, false, List, [], ◌∷◌, if◌then◌else◌}
use Rattle.std.specs.List.{AllByRecursion}

module _ {X : Type 0} (key : X → ℤ) where
  -- no key is below that of x
  abbrev pub NoneBelow : X → List X → Type 0
  NoneBelow x xs = AllByRecursion (λ y. int_lt (key y) (key x) ≡ false) xs

  -- no key is below one before it
  abbrev pub Rises : List X → Type 0
  Rises [] = Unit {0}
  Rises (x ∷ xs) = NoneBelow x xs × Rises xs

  -- one item more, before the first whose key isn't below its own
  abbrev pub put_before : X → List X → List X
  put_before x [] = x ∷ []
  put_before x (y ∷ ys) = if int_lt (key y) (key x) then y ∷ put_before x ys else x ∷ y ∷ ys

  -- one item more, before the first whose key is above its own
  abbrev pub put_after : X → List X → List X
  put_after x [] = x ∷ []
  put_after x (y ∷ ys) = if int_lt (key x) (key y) then x ∷ y ∷ ys else y ∷ put_after x ys

  -- ordered by key; items with the same key stay in the order that they have
  abbrev pub in_order : List X → List X
  in_order [] = []
  in_order (x ∷ xs) = put_before x (in_order xs)
