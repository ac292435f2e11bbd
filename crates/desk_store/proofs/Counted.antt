-- Counts of those that pass a test, updated as the list changes.
use Rattle.std.proofs.Common.{◌≡◌, ℕ, zero, suc, ◌+◌, ◌≤◌, Bool, true, false, cond, List, [], ◌∷◌, ◌++◌, slice_get, Some, refl, subst, sym, ◌∙◌, ap, arith}
use Rattle.std.specs.Prelude.{◌==◌, ◌||◌, count_by, nat_lt}
use Rattle.std.specs.List.{list_any}
use Rattle.std.proofs.lemmas.Bool.{eqb-true, lt-ltb}
use Rattle.std.proofs.lemmas.List.Sums.{sum_by-cons, sum_by_push}
use Rattle.registry_core.specs.Numbered.{item_at, item_changed, place_changed}

-- with one count set, and all others as they were
pub set_is : (old new goal : ℕ → ℕ) (key count : ℕ) → ((n : ℕ) → new n ≡ cond (key == n) count (old n)) → count ≡ goal key
    → ((n : ℕ) → (key == n) ≡ false → old n ≡ goal n) → (n : ℕ) → new n ≡ goal n
set_is old new goal key count is here other n = is n ∙ by (key == n) refl
  where
    by : (b : Bool) → (key == n) ≡ b → cond b count (old n) ≡ goal n
    by true same = here ∙ ap goal (eqb-true key n same)
    by false apart = other n apart

module _ {X : Type 0} (test : X → Bool) where
  pub count_cons : (x : X) (xs : List X) → count_by test (x ∷ xs) ≡ cond (test x) 1 0 + count_by test xs
  count_cons x xs = sum_by-cons (λ y. cond (test y) 1 0) x xs

  pub count_more : (xs : List X) (x : X) → count_by test (xs ++ x ∷ []) ≡ count_by test xs + cond (test x) 1 0
  count_more xs x = sum_by_push (λ y. cond (test y) 1 0) xs x

  count_changed_at : (f : X → X) (xs : List X) (n : ℕ) (x : X) → slice_get xs n ≡ Some x
      → count_by test (place_changed f xs n) + cond (test x) 1 0 ≡ count_by test xs + cond (test (f x)) 1 0
  count_changed_at f [] n x is = let no : ⊥ = cc in absurd no
  count_changed_at f (y ∷ ys) zero x is =
      let same : y ≡ x = cc in
      let P : X → Type 0 = λ z. count_by test (f z ∷ ys) + cond (test x) 1 0 ≡ count_by test (z ∷ ys) + cond (test (f x)) 1 0 in
      subst P (sym same) (omega (arith, count_cons (f x) ys, count_cons x ys))
  count_changed_at f (y ∷ ys) (suc n) x is =
      omega (arith, count_changed_at f ys n x is, count_cons y ys, count_cons y (place_changed f ys n))

  pub count_changed : (f : X → X) (xs : List X) (number : ℕ) (x : X) → item_at xs number ≡ Some x
      → count_by test (item_changed f xs number) + cond (test x) 1 0 ≡ count_by test xs + cond (test (f x)) 1 0
  count_changed f xs zero x is = let no : ⊥ = cc in absurd no
  count_changed f xs (suc n) x is = count_changed_at f xs n x is

  count_same_at : (f : X → X) → ((x : X) → test (f x) ≡ test x) → (xs : List X) (n : ℕ) → count_by test (place_changed f xs n) ≡ count_by test xs
  count_same_at f same [] n = refl
  count_same_at f same (y ∷ ys) zero = count_cons (f y) ys ∙ ap (λ b. cond b 1 0 + count_by test ys) (same y) ∙ sym (count_cons y ys)
  count_same_at f same (y ∷ ys) (suc n) = omega (arith, count_same_at f same ys n, count_cons y ys, count_cons y (place_changed f ys n))

  -- a change after which the same items pass
  pub count_same : (f : X → X) → ((x : X) → test (f x) ≡ test x) → (xs : List X) (number : ℕ) → count_by test (item_changed f xs number) ≡ count_by test xs
  count_same f same xs zero = refl
  count_same f same xs (suc n) = count_same_at f same xs n

  count_has_at : (xs : List X) (n : ℕ) (x : X) → slice_get xs n ≡ Some x → cond (test x) 1 0 ≤ count_by test xs
  count_has_at [] n x is = let no : ⊥ = cc in absurd no
  count_has_at (y ∷ ys) zero x is =
      let same : y ≡ x = cc in
      let P : X → Type 0 = λ z. cond (test x) 1 0 ≤ count_by test (z ∷ ys) in
      subst P (sym same) (omega (arith, count_cons x ys))
  count_has_at (y ∷ ys) (suc n) x is = omega (arith, count_has_at ys n x is, count_cons y ys)

  -- an item that passes is one of those counted
  pub count_has : (xs : List X) (number : ℕ) (x : X) → item_at xs number ≡ Some x → cond (test x) 1 0 ≤ count_by test xs
  count_has xs zero x is = let no : ⊥ = cc in absurd no
  count_has xs (suc n) x is = count_has_at xs n x is

  any_by : (b any : Bool) (count : ℕ) → any ≡ nat_lt 0 count → (b || any) ≡ nat_lt 0 (cond b 1 0 + count)
  any_by true any count rest = sym (lt-ltb 0 (1 + count) (omega arith))
  any_by false any count rest = let none : 0 + count ≡ count = omega arith in rw none rest

  pub any_counted : (xs : List X) → list_any test xs ≡ nat_lt 0 (count_by test xs)
  any_counted [] = refl
  any_counted (x ∷ xs) = any_by (test x) (list_any test xs) (count_by test xs) (any_counted xs) ∙ ap (nat_lt 0) (sym (count_cons x xs))
