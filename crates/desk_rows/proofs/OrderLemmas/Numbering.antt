-- Items by their numbers: in a list with one item more, shown otherwise, or with one of them changed.
use Rattle.std.proofs.Common.{◌≡◌, ℕ, zero, suc, ◌+◌, ◌<◌, ◌≤◌, ◌≢◌, List, [], ◌∷◌, ◌++◌, map, length, Option, Some, None, option_map, is_some, true, refl, sym, ◌∙◌, ap, subst, slice_get, inl, inr, add-one, arith}
use Rattle.std.specs.Prelude.{◌⊎◌}
use Rattle.std.specs.Option.{option_map_or}
use Rattle.std.proofs.lemmas.Option.{slice_get_past}
use Rattle.registry_core.specs.Numbered.{item_at, item_changed, place_changed}

-- ---- one item more

place_within : {X : Type 0} (xs : List X) (n : ℕ) (x : X) → slice_get xs n ≡ Some x → suc n ≤ length xs
place_within [] n x is = let no : None ≡ Some x = is in cc
place_within (y ∷ ys) zero x is = omega arith
place_within (y ∷ ys) (suc n) x is = omega (arith, place_within ys n x is)

-- an item's number is from 1 up to the length
pub item_within : {X : Type 0} (xs : List X) (n : ℕ) (x : X) → item_at xs n ≡ Some x → (1 ≤ n) × (n ≤ length xs)
item_within xs zero x is = let no : None ≡ Some x = is in cc
item_within xs (suc n) x is = (omega arith, place_within xs n x is)

place_kept : {X : Type 0} (xs ys : List X) (n : ℕ) (x : X) → slice_get xs n ≡ Some x → slice_get (xs ++ ys) n ≡ Some x
place_kept [] ys n x is = let no : None ≡ Some x = is in cc
place_kept (y ∷ xs) ys zero x is = is
place_kept (y ∷ xs) ys (suc n) x is = place_kept xs ys n x is

pub item_kept : {X : Type 0} (xs ys : List X) (n : ℕ) (x : X) → item_at xs n ≡ Some x → item_at (xs ++ ys) n ≡ Some x
item_kept xs ys zero x is = is
item_kept xs ys (suc n) x is = place_kept xs ys n x is

place_end : {X : Type 0} (xs : List X) (x : X) → slice_get (xs ++ x ∷ []) (length xs) ≡ Some x
place_end [] x = refl
place_end (y ∷ ys) x = place_end ys x

pub item_end : {X : Type 0} (xs : List X) (x : X) → item_at (xs ++ x ∷ []) (length xs + 1) ≡ Some x
item_end xs x = rw add-one (place_end xs x)

place_with : {X : Type 0} (xs : List X) (x : X) (n : ℕ) (y : X) → slice_get (xs ++ x ∷ []) n ≡ Some y
    → (slice_get xs n ≡ Some y) ⊎ ((n ≡ length xs) × (x ≡ y))
place_with [] x zero y is = inr (refl, cc)
place_with [] x (suc n) y is = let no : None ≡ Some y = is in cc
place_with (z ∷ zs) x zero y is = inl is
place_with (z ∷ zs) x (suc n) y is = elim (place_with zs x n y is) [ inl before ↦ inl before | inr new ↦ inr (ap suc new.0, new.1) ]

-- it was there, or it is the new one
pub item_with : {X : Type 0} (xs : List X) (x : X) (n : ℕ) (y : X) → item_at (xs ++ x ∷ []) n ≡ Some y
    → (item_at xs n ≡ Some y) ⊎ ((n ≡ length xs + 1) × (x ≡ y))
item_with xs x zero y is = inl is
item_with xs x (suc n) y is = elim (place_with xs x n y is) [ inl before ↦ inl before | inr new ↦ inr (ap suc new.0 ∙ sym (add-one _), new.1) ]

pub item_past : {X : Type 0} (xs : List X) (n : ℕ) → length xs < n → item_at xs n ≡ None
item_past xs zero past = refl
item_past xs (suc n) past = slice_get_past xs n (omega arith)

-- the item that is there
pub item_there : {X : Type 0} (xs : List X) (n : ℕ) (found : Option X) → item_at xs n ≡ found → is_some found ≡ true → (x : X) × (item_at xs n ≡ Some x)
item_there {X} xs n None at some = let no : is_some {T = X} None ≡ true = some in cc
item_there xs n (Some x) at some = (x, at)

-- an item's number is one more than its place
pub item_place : {X : Type 0} (xs : List X) (n : ℕ) (x : X) → item_at xs n ≡ Some x → (k : ℕ) × (n ≡ suc k) × (slice_get xs k ≡ Some x)
item_place xs zero x is = let no : None ≡ Some x = is in cc
item_place xs (suc k) x is = (k, refl, is)

-- ---- items shown otherwise

slice_get-map : {X Y : Type 0} (f : X → Y) (xs : List X) (n : ℕ) → slice_get (map f xs) n ≡ option_map f (slice_get xs n)
slice_get-map f [] n = refl
slice_get-map f (x ∷ xs) zero = refl
slice_get-map f (x ∷ xs) (suc n) = slice_get-map f xs n

pub item_at-map : {X Y : Type 0} (f : X → Y) (xs : List X) (n : ℕ) → item_at (map f xs) n ≡ option_map f (item_at xs n)
item_at-map f xs zero = refl
item_at-map f xs (suc n) = slice_get-map f xs n

shown_or : {X Y V : Type 0} (f : X → Y) (g : Y → V) (none : V) (found : Option X)
    → option_map_or g (option_map f found) none ≡ option_map_or (λ x. g (f x)) found none
shown_or f g none None = refl
shown_or f g none (Some x) = refl

-- what the item with a number shows
pub item_shown : {X Y V : Type 0} (f : X → Y) (g : Y → V) (none : V) (xs : List X) (n : ℕ)
    → option_map_or g (item_at (map f xs) n) none ≡ option_map_or (λ x. g (f x)) (item_at xs n) none
item_shown f g none xs n = ap (λ found. option_map_or g found none) (item_at-map f xs n) ∙ shown_or f g none (item_at xs n)

row_by : {X Y : Type 0} (f : X → Y) (y : Y) (found : Option X) → option_map f found ≡ Some y → (x : X) × (found ≡ Some x) × (f x ≡ y)
row_by f y None is = let no : None ≡ Some y = is in cc
row_by f y (Some x) is = (x, refl, cc)

-- the row that shows what is there
pub row_there : {X Y : Type 0} (f : X → Y) (xs : List X) (n : ℕ) (y : Y) → item_at (map f xs) n ≡ Some y → (x : X) × (item_at xs n ≡ Some x) × (f x ≡ y)
row_there f xs n y there = row_by f y (item_at xs n) (sym (item_at-map f xs n) ∙ there)

-- ---- one item changed

place_shown : {X Y : Type 0} (f : X → Y) (g : X → X) (h : Y → Y) → ((x : X) → f (g x) ≡ h (f x)) → (xs : List X) (n : ℕ)
    → map f (place_changed g xs n) ≡ place_changed h (map f xs) n
place_shown f g h same [] n = refl
place_shown f g h same (x ∷ xs) zero = ap (λ y. y ∷ map f xs) (same x)
place_shown f g h same (x ∷ xs) (suc n) = ap (λ ys. f x ∷ ys) (place_shown f g h same xs n)

pub map-item_changed : {X Y : Type 0} (f : X → Y) (g : X → X) (h : Y → Y) → ((x : X) → f (g x) ≡ h (f x)) → (xs : List X) (n : ℕ)
    → map f (item_changed g xs n) ≡ item_changed h (map f xs) n
map-item_changed f g h same xs zero = refl
map-item_changed f g h same xs (suc n) = place_shown f g h same xs n

place_same : {X : Type 0} (h : X → X) → ((x : X) → h x ≡ x) → (xs : List X) (n : ℕ) → place_changed h xs n ≡ xs
place_same h same [] n = refl
place_same h same (x ∷ xs) zero = ap (λ y. y ∷ xs) (same x)
place_same h same (x ∷ xs) (suc n) = ap (λ ys. x ∷ ys) (place_same h same xs n)

-- a change that isn't shown
pub map_unchanged : {X Y : Type 0} (f : X → Y) (g : X → X) → ((x : X) → f (g x) ≡ f x) → (xs : List X) (n : ℕ) → map f (item_changed g xs n) ≡ map f xs
map_unchanged f g same xs zero = refl
map_unchanged f g same xs (suc n) = place_shown f g (λ y. y) same xs n ∙ place_same (λ y. y) (λ y. refl) (map f xs) n

place_length : {X : Type 0} (g : X → X) (xs : List X) (n : ℕ) → length (place_changed g xs n) ≡ length xs
place_length g [] n = refl
place_length g (x ∷ xs) zero = refl
place_length g (x ∷ xs) (suc n) = ap suc (place_length g xs n)

pub length-item_changed : {X : Type 0} (g : X → X) (xs : List X) (n : ℕ) → length (item_changed g xs n) ≡ length xs
length-item_changed g xs zero = refl
length-item_changed g xs (suc n) = place_length g xs n

place_at : {X : Type 0} (g : X → X) (xs : List X) (n : ℕ) → slice_get (place_changed g xs n) n ≡ option_map g (slice_get xs n)
place_at g [] n = refl
place_at g (x ∷ xs) zero = refl
place_at g (x ∷ xs) (suc n) = place_at g xs n

-- the one with the number
pub item_at-changed : {X : Type 0} (g : X → X) (xs : List X) (n : ℕ) → item_at (item_changed g xs n) n ≡ option_map g (item_at xs n)
item_at-changed g xs zero = refl
item_at-changed g xs (suc n) = place_at g xs n

place_other : {X : Type 0} (g : X → X) (xs : List X) (n m : ℕ) → n ≢ m → slice_get (place_changed g xs n) m ≡ slice_get xs m
place_other g [] n m apart = refl
place_other g (x ∷ xs) zero zero apart = absurd (apart refl)
place_other g (x ∷ xs) zero (suc m) apart = refl
place_other g (x ∷ xs) (suc n) zero apart = refl
place_other g (x ∷ xs) (suc n) (suc m) apart = place_other g xs n m (λ same. apart (ap suc same))

-- and all else as it was
pub item_at-other : {X : Type 0} (g : X → X) (xs : List X) (n m : ℕ) → n ≢ m → item_at (item_changed g xs n) m ≡ item_at xs m
item_at-other g xs zero m apart = refl
item_at-other g xs (suc n) zero apart = refl
item_at-other g xs (suc n) (suc m) apart = place_other g xs n m (λ same. apart (ap suc same))

place_as : {X : Type 0} (f g : X → X) (xs : List X) (n : ℕ) (x : X) → slice_get xs n ≡ Some x → f x ≡ g x → place_changed f xs n ≡ place_changed g xs n
place_as f g [] n x is same = refl
place_as f g (y ∷ ys) zero x is same = let here : y ≡ x = cc in ap (λ z. z ∷ ys) (subst (λ z. f z ≡ g z) (sym here) same)
place_as f g (y ∷ ys) (suc n) x is same = ap (λ zs. y ∷ zs) (place_as f g ys n x is same)

-- two changes that do the same to the item
pub item_changed_as : {X : Type 0} (f g : X → X) (xs : List X) (n : ℕ) (x : X) → item_at xs n ≡ Some x → f x ≡ g x → item_changed f xs n ≡ item_changed g xs n
item_changed_as f g xs zero x is same = refl
item_changed_as f g xs (suc n) x is same = place_as f g xs n x is same

-- a change that does nothing
pub item_changed_none : {X : Type 0} (f : X → X) (xs : List X) (n : ℕ) (x : X) → item_at xs n ≡ Some x → f x ≡ x → item_changed f xs n ≡ xs
item_changed_none f xs zero x is same = refl
item_changed_none f xs (suc n) x is same = place_as f (λ y. y) xs n x is same ∙ place_same (λ y. y) (λ y. refl) xs n
