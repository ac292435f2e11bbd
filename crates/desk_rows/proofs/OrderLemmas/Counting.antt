-- Counts and greatest numbers of the items that pass a test.
use Rattle.std.proofs.Common.{◌≡◌, ℕ, zero, suc, ◌+◌, ◌<◌, ◌&&◌, Bool, true, false, cond, List, [], ◌∷◌, ◌++◌, map, filter, Option, Some, None, refl, sym, ◌∙◌, ap, ap₂, arith}
use Rattle.std.specs.Prelude.{count_by, max}
use Rattle.std.specs.List.{AllByRecursion}
use Rattle.std.specs.Option.{option_map_or}
use Rattle.std.proofs.lemmas.List.{append-nil, map-append}
use Rattle.std.proofs.lemmas.List.Elements.{filter-append}
use Rattle.std.proofs.lemmas.List.Sums.{sum_by-cons, sum_by_push}
use Rattle.std.proofs.lemmas.Bool.{both_ways, ltb-true, lt-ltb}
use Rattle.registry_core.specs.Derived.{is_above}
use Rattle.registry_core.specs.Numbered.{greatest, item_changed, place_changed}

-- ---- counts

pub count_cons : {X : Type 0} (p : X → Bool) (x : X) (xs : List X) → count_by p (x ∷ xs) ≡ cond (p x) 1 0 + count_by p xs
count_cons p x xs = sum_by-cons (λ y. cond (p y) 1 0) x xs

pub count_with : {X : Type 0} (p : X → Bool) (xs : List X) (x : X) → count_by p (xs ++ x ∷ []) ≡ count_by p xs + cond (p x) 1 0
count_with p xs x = sum_by_push (λ y. cond (p y) 1 0) xs x

-- two tests that each item passes alike
pub count_alike : {X Y : Type 0} (P : X → Type 0) (f : X → Y) (p q : Y → Bool) → ((x : X) → P x → p (f x) ≡ q (f x)) → (xs : List X) → AllByRecursion P xs
    → count_by p (map f xs) ≡ count_by q (map f xs)
count_alike P f p q same [] each = refl
count_alike P f p q same (x ∷ xs) each =
    count_cons p (f x) (map f xs)
    ∙ ap₂ (λ b n. cond b 1 0 + n) (same x each.0) (count_alike P f p q same xs each.1)
    ∙ sym (count_cons q (f x) (map f xs))

pub count_none : {X : Type 0} (p : X → Bool) → ((x : X) → p x ≡ false) → (xs : List X) → count_by p xs ≡ 0
count_none p none [] = refl
count_none p none (x ∷ xs) = count_cons p x xs ∙ ap₂ (λ b n. cond b 1 0 + n) (none x) (count_none p none xs)

place_count : {X : Type 0} (p : X → Bool) (f : X → X) → ((x : X) → p (f x) ≡ p x) → (xs : List X) (n : ℕ) → count_by p (place_changed f xs n) ≡ count_by p xs
place_count p f same [] n = refl
place_count p f same (x ∷ xs) zero = count_cons p (f x) xs ∙ ap (λ b. cond b 1 0 + count_by p xs) (same x) ∙ sym (count_cons p x xs)
place_count p f same (x ∷ xs) (suc n) =
    count_cons p x (place_changed f xs n) ∙ ap (λ m. cond (p x) 1 0 + m) (place_count p f same xs n) ∙ sym (count_cons p x xs)

-- a change after which the same items pass
pub count_changed : {X : Type 0} (p : X → Bool) (f : X → X) → ((x : X) → p (f x) ≡ p x) → (xs : List X) (n : ℕ)
    → count_by p (item_changed f xs n) ≡ count_by p xs
count_changed p f same xs zero = refl
count_changed p f same xs (suc n) = place_count p f same xs n

-- ---- greatest numbers

max_of_three : (m n : ℕ) (rest : Option ℕ) → max m (option_map_or (max n) rest n) ≡ max n (option_map_or (max m) rest m)
max_of_three m n None = grind arith
max_of_three m n (Some r) = grind arith

greatest_with : (ns : List ℕ) (n : ℕ) → greatest (ns ++ n ∷ []) ≡ Some (option_map_or (max n) (greatest ns) n)
greatest_with [] n = refl
greatest_with (m ∷ ns) n = ap (λ rest. Some (option_map_or (max m) rest m)) (greatest_with ns n) ∙ ap Some (max_of_three m n (greatest ns))

greatest_by : {X : Type 0} (f : X → ℕ) (kept : List X) (x : X) (b : Bool)
    → greatest (map f (kept ++ cond b (x ∷ []) [])) ≡ cond b (Some (option_map_or (max (f x)) (greatest (map f kept)) (f x))) (greatest (map f kept))
greatest_by f kept x true = ap greatest (map-append f kept (x ∷ [])) ∙ greatest_with (map f kept) (f x)
greatest_by f kept x false = ap (λ items. greatest (map f items)) (append-nil kept)

-- of those that pass a test, with one item more that passes or not
pub greatest-append : {X : Type 0} (f : X → ℕ) (p : X → Bool) (xs : List X) (x : X)
    → greatest (map f (filter p (xs ++ x ∷ [])))
    ≡ cond (p x) (Some (option_map_or (max (f x)) (greatest (map f (filter p xs))) (f x))) (greatest (map f (filter p xs)))
greatest-append f p xs x = ap (λ kept. greatest (map f kept)) (filter-append p xs (x ∷ [])) ∙ greatest_by f (filter p xs) x (p x)

filter_by : {X : Type 0} (x : X) (kept more : List X) (b c : Bool) → b ≡ c → kept ≡ more → cond b (x ∷ kept) kept ≡ cond c (x ∷ more) more
filter_by x kept more b c same rest = ap₂ (λ d ys. cond d (x ∷ ys) ys) same rest

-- two tests that each item passes alike
pub filter_alike : {X : Type 0} (P : X → Type 0) (p q : X → Bool) → ((x : X) → P x → p x ≡ q x) → (xs : List X) → AllByRecursion P xs
    → filter p xs ≡ filter q xs
filter_alike P p q same [] each = refl
filter_alike P p q same (x ∷ xs) each = filter_by x (filter p xs) (filter q xs) (p x) (q x) (same x each.0) (filter_alike P p q same xs each.1)

twice_by : {X : Type 0} (q : X → Bool) (x : X) (kept more : List X) (b : Bool) → filter q kept ≡ more
    → filter q (cond b (x ∷ kept) kept) ≡ cond (b && q x) (x ∷ more) more
twice_by q x kept more true rest = ap (λ ys. cond (q x) (x ∷ ys) ys) rest
twice_by q x kept more false rest = rest

-- one test after another
pub filter_twice : {X : Type 0} (p q : X → Bool) (xs : List X) → filter q (filter p xs) ≡ filter (λ x. p x && q x) xs
filter_twice p q [] = refl
filter_twice p q (x ∷ xs) = twice_by q x (filter p xs) _ (p x) (filter_twice p q xs)

mapped_by : {X Y : Type 0} (f : X → Y) (x : X) (kept : List X) (more : List Y) (b : Bool) → more ≡ map f kept
    → cond b (f x ∷ more) more ≡ map f (cond b (x ∷ kept) kept)
mapped_by f x kept more true rest = ap (λ ys. f x ∷ ys) rest
mapped_by f x kept more false rest = rest

pub filter-map : {X Y : Type 0} (f : X → Y) (p : Y → Bool) (xs : List X) → filter p (map f xs) ≡ map f (filter (λ x. p (f x)) xs)
filter-map f p [] = refl
filter-map f p (x ∷ xs) = mapped_by f x _ _ (p (f x)) (filter-map f p xs)

pub filter_none : {X : Type 0} (p : X → Bool) (xs : List X) → AllByRecursion (λ x. p x ≡ false) xs → filter p xs ≡ []
filter_none p [] each = refl
filter_none p (x ∷ xs) each = ap (λ b. cond b (x ∷ filter p xs) (filter p xs)) each.0 ∙ filter_none p xs each.1

-- a number above the greatest is above each
above_by : (m n : ℕ) (rest : Option ℕ) → is_above n (Some (option_map_or (max m) rest m)) ≡ true → (m < n) × (is_above n rest ≡ true)
above_by m n None is = (ltb-true m n is, refl)
above_by m n (Some r) is =
    let below : max m r < n = ltb-true (max m r) n is in
    (omega arith, lt-ltb r n (omega arith))

above_kept : {X : Type 0} (f : X → ℕ) (p : X → Bool) (n : ℕ) (x : X) (kept : List X) (b : Bool) → p x ≡ b
    → is_above n (greatest (map f (cond b (x ∷ kept) kept))) ≡ true
    → (p x ≡ true → f x < n) × (is_above n (greatest (map f kept)) ≡ true)
above_kept f p n x kept true here is = let parts = above_by (f x) n (greatest (map f kept)) is in (λ passes. parts.0, parts.1)
above_kept f p n x kept false here is = ((λ passes. absurd (both_ways (p x) here passes)), is)

pub above_each : {X : Type 0} (f : X → ℕ) (p : X → Bool) (n : ℕ) (xs : List X) → is_above n (greatest (map f (filter p xs))) ≡ true
    → AllByRecursion (λ x. p x ≡ true → f x < n) xs
above_each f p n [] is = tt
above_each f p n (x ∷ xs) is =
    let parts = above_kept f p n x (filter p xs) (p x) refl is in
    (parts.0, above_each f p n xs parts.1)
