-- What a loop collects of a list whose items have a value or none: one value more, one item skipped, all items.
use Rattle.std.proofs.Common.{◌≡◌, ◌∙◌, ◌<◌, ◌+◌, ◌≤◌, ℕ, List, [], ◌∷◌, ◌++◌, Option, Some, None, length, get_or, drop, refl, sym, ap, append_assoc, append-nil, add-one, drop-cons}
use Rattle.std.specs.List.{filter_map}
use Rattle.std.proofs.lemmas.List.{at_drop_all}

module _ {X Y : Type 0} (f : X → Option Y) where
  first_mapped : (x : X) (xs : List X) (y : Y) → f x ≡ Some y → filter_map f (x ∷ xs) ≡ y ∷ filter_map f xs
  first_mapped x xs y is = rw is refl

  first_untold : (x : X) (xs : List X) → f x ≡ None → filter_map f (x ∷ xs) ≡ filter_map f xs
  first_untold x xs is = rw is refl

  -- one more is found
  pub told_on : (told all : List Y) (xs : List X) (i : ℕ) (d : X) (y : Y) → i < length xs → f (get_or xs i d) ≡ Some y
      → told ++ filter_map f (drop i xs) ≡ all → (told ++ y ∷ []) ++ filter_map f (drop (i + 1) xs) ≡ all
  told_on told all xs i d y within is so =
      let next : drop i xs ≡ get_or xs i d ∷ drop (i + 1) xs = rw (add-one, drop-cons xs i d) refl in
      rw append_assoc (ap (λ rest. told ++ rest) (sym (ap (filter_map f) next ∙ first_mapped _ _ y is)) ∙ so)

  -- nothing is found of one
  pub untold_on : (told all : List Y) (xs : List X) (i : ℕ) (d : X) → i < length xs → f (get_or xs i d) ≡ None
      → told ++ filter_map f (drop i xs) ≡ all → told ++ filter_map f (drop (i + 1) xs) ≡ all
  untold_on told all xs i d within is so =
      let next : drop i xs ≡ get_or xs i d ∷ drop (i + 1) xs = rw (add-one, drop-cons xs i d) refl in
      ap (λ rest. told ++ rest) (sym (ap (filter_map f) next ∙ first_untold _ _ is)) ∙ so

  -- no item is left
  pub all_mapped : (told all : List Y) (xs : List X) (i : ℕ) → length xs ≤ i → told ++ filter_map f (drop i xs) ≡ all → told ≡ all
  all_mapped told all xs i past so = sym (ap (λ rest. told ++ rest) (at_drop_all (filter_map f) xs i past) ∙ append-nil told) ∙ so
