-- What is true of each row, and of each two, in a list with one more row, or with its rows changed.
use Rattle.std.proofs.Common.{◌≡◌, ℕ, zero, suc, Bool, true, false, cond, List, [], ◌∷◌, ◌++◌, map, filter, find, Option, Some, None, refl, sym, ◌∙◌, ap, subst, slice_get, ◌<◌, arith}
use Rattle.std.specs.List.{AllByRecursion, IsDistinct, list_any}
use Rattle.std.proofs.lemmas.Bool.{both_ways, or_parts}
use Rattle.registry_core.specs.Numbered.{item_at, item_changed, place_changed}

-- ---- each row

module _ {X : Type 0} (P : X → Type 0) where
  pub all_with : (xs : List X) (x : X) → AllByRecursion P xs → P x → AllByRecursion P (xs ++ x ∷ [])
  all_with [] x each new = (new, tt)
  all_with (y ∷ ys) x each new = (each.0, all_with ys x each.1 new)

  place_all : (f : X → X) → ((x : X) → P x → P (f x)) → (xs : List X) (n : ℕ) → AllByRecursion P xs → AllByRecursion P (place_changed f xs n)
  place_all f keeps [] n each = tt
  place_all f keeps (x ∷ xs) zero each = (keeps x each.0, each.1)
  place_all f keeps (x ∷ xs) (suc n) each = (each.0, place_all f keeps xs n each.1)

  pub all_changed : (f : X → X) → ((x : X) → P x → P (f x)) → (xs : List X) (n : ℕ) → AllByRecursion P xs → AllByRecursion P (item_changed f xs n)
  all_changed f keeps xs zero each = each
  all_changed f keeps xs (suc n) each = place_all f keeps xs n each

  pub holds_at : (xs : List X) (n : ℕ) (x : X) → slice_get xs n ≡ Some x → AllByRecursion P xs → P x
  holds_at [] n x is each = let no : None ≡ Some x = is in cc
  holds_at (y ∷ ys) zero x is each = let same : y ≡ x = cc in subst P same each.0
  holds_at (y ∷ ys) (suc n) x is each = holds_at ys n x is each.1

  pub all_at : (xs : List X) (n : ℕ) (x : X) → item_at xs n ≡ Some x → AllByRecursion P xs → P x
  all_at xs zero x is each = let no : None ≡ Some x = is in cc
  all_at xs (suc n) x is each = holds_at xs n x is each

  found_by : (p : X → Bool) (y x : X) (b : Bool) (rest : Option X) → P y → (rest ≡ Some x → P x) → cond b (Some y) rest ≡ Some x → P x
  found_by p y x true rest here later is = let same : y ≡ x = cc in subst P same here
  found_by p y x false rest here later is = later is

  pub all_found : (p : X → Bool) (xs : List X) (x : X) → find p xs ≡ Some x → AllByRecursion P xs → P x
  all_found p [] x is each = let no : None ≡ Some x = is in cc
  all_found p (y ∷ ys) x is each = found_by p y x (p y) (find p ys) each.0 (λ later. all_found p ys x later each.1) is

pub all_map : {X Y : Type 0} (P : X → Type 0) (Q : Y → Type 0) (f : X → Y) → ((x : X) → P x → Q (f x)) → (xs : List X) → AllByRecursion P xs
    → AllByRecursion Q (map f xs)
all_map P Q f so [] each = tt
all_map P Q f so (x ∷ xs) each = (so x each.0, all_map P Q f so xs each.1)

pub all_so : {X : Type 0} (P Q : X → Type 0) → ((x : X) → P x → Q x) → (xs : List X) → AllByRecursion P xs → AllByRecursion Q xs
all_so P Q so [] each = tt
all_so P Q so (x ∷ xs) each = (so x each.0, all_so P Q so xs each.1)

pub all_both : {X : Type 0} (P Q : X → Type 0) (xs : List X) → AllByRecursion P xs → AllByRecursion Q xs → AllByRecursion (λ x. P x × Q x) xs
all_both P Q [] each other = tt
all_both P Q (x ∷ xs) each other = ((each.0, other.0), all_both P Q xs each.1 other.1)

pub all_shown : {X Y : Type 0} (f : X → Y) (P : Y → Type 0) (xs : List X) → AllByRecursion P (map f xs) → AllByRecursion (λ x. P (f x)) xs
all_shown f P [] each = tt
all_shown f P (x ∷ xs) each = (each.0, all_shown f P xs each.1)

module _ {X : Type 0} (P : X → Type 0) (p : X → Bool) where
  kept_by : (x : X) (kept : List X) (b : Bool) → p x ≡ b → (p x ≡ true → P x) → AllByRecursion P kept → AllByRecursion P (cond b (x ∷ kept) kept)
  kept_by x kept true is here each = (here is, each)
  kept_by x kept false is here each = each

  -- of those that pass a test
  pub all_kept : (xs : List X) → AllByRecursion (λ x. p x ≡ true → P x) xs → AllByRecursion P (filter p xs)
  all_kept [] each = tt
  all_kept (x ∷ xs) each = kept_by x (filter p xs) (p x) refl each.0 (all_kept xs each.1)

  pub all_passing : (xs : List X) → AllByRecursion P xs → AllByRecursion P (filter p xs)
  all_passing xs each = all_kept xs (all_so P (λ x. p x ≡ true → P x) (λ x is passes. is) xs each)

  was_by : (x : X) (kept : List X) (b : Bool) → p x ≡ b → AllByRecursion P (cond b (x ∷ kept) kept) → (p x ≡ true → P x) × AllByRecursion P kept
  was_by x kept true is each = (λ passes. each.0, each.1)
  was_by x kept false is each = ((λ passes. absurd (both_ways (p x) is passes)), each)

  pub all_were : (xs : List X) → AllByRecursion P (filter p xs) → AllByRecursion (λ x. p x ≡ true → P x) xs
  all_were [] each = tt
  all_were (x ∷ xs) each = let parts = was_by x (filter p xs) (p x) refl each in (parts.0, all_were xs parts.1)

-- ---- each two rows

-- each with each later one
abbrev pub EachTwo : {X : Type 0} → (X → X → Type 0) → List X → Type 0
EachTwo R [] = Unit {0}
EachTwo R (x ∷ xs) = AllByRecursion (R x) xs × EachTwo R xs

-- of those that pass a test
pub two_passing : {X : Type 0} (R : X → X → Type 0) (p : X → Bool) (xs : List X) → EachTwo R xs → EachTwo R (filter p xs)
two_passing R p [] each = tt
two_passing R p (x ∷ xs) each = by (p x) (two_passing R p xs each.1)
  where
    by : (b : Bool) → EachTwo R (filter p xs) → EachTwo R (cond b (x ∷ filter p xs) (filter p xs))
    by true rest = (all_passing (R x) p xs each.0, rest)
    by false rest = rest

module _ {X : Type 0} (same : X → X → Bool) where
  pub distinct_with : (xs : List X) (x : X) → IsDistinct same xs → AllByRecursion (λ y. same y x ≡ false) xs → IsDistinct same (xs ++ x ∷ [])
  unfolding IsDistinct
  distinct_with [] x apart new = (tt, tt)
  distinct_with (y ∷ ys) x apart new = (all_with (λ z. same y z ≡ false) ys x apart.0 new.0, distinct_with ys x apart.1 new.1)

-- those at two places differ
pub apart_at : {X : Type 0} (same : X → X → Bool) (xs : List X) (m n : ℕ) (a b : X) → IsDistinct same xs → slice_get xs m ≡ Some a → slice_get xs n ≡ Some b
    → m < n → same a b ≡ false
unfolding IsDistinct
apart_at same [] m n a b apart at_m at_n less = let no : None ≡ Some a = at_m in cc
apart_at same (x ∷ xs) m zero a b apart at_m at_n less = absurd (omega arith)
apart_at same (x ∷ xs) zero (suc n) a b apart at_m at_n less =
    let here : x ≡ a = cc in
    ap (λ y. same y b) (sym here) ∙ holds_at (λ y. same x y ≡ false) xs n b at_n apart.0
apart_at same (x ∷ xs) (suc m) (suc n) a b apart at_m at_n less = apart_at same xs m n a b apart.1 at_m at_n (omega arith)

-- ---- rows that pass no test

none_by : {X : Type 0} (p : X → Bool) (y : X) (b : Bool) (rest : Option X) → p y ≡ b → cond b (Some y) rest ≡ None → (p y ≡ false) × (rest ≡ None)
none_by p y true rest here is = let no : Some y ≡ None = is in cc
none_by p y false rest here is = (here, is)

pub none_found : {X : Type 0} (p : X → Bool) (xs : List X) → find p xs ≡ None → AllByRecursion (λ x. p x ≡ false) xs
none_found p [] is = tt
none_found p (y ∷ ys) is = let parts = none_by p y (p y) (find p ys) refl is in (parts.0, none_found p ys parts.1)

pub none_of : {X : Type 0} (p : X → Bool) (xs : List X) → list_any p xs ≡ false → AllByRecursion (λ x. p x ≡ false) xs
none_of p [] none = tt
none_of p (x ∷ xs) none = let parts = or_parts (p x) (list_any p xs) none in (parts.0, none_of p xs parts.1)
