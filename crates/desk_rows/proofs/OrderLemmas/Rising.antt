-- Sorted rows: they rise strictly, and show what rows in any order show.
use Rattle.std.proofs.Common.{◌≡◌, ℕ, ◌+◌, ◌&&◌, ◌||◌, Bool, true, false, cond, List, [], ◌∷◌, map, filter, refl, ap, ◌∙◌, Ordering, Less}
use Rattle.std.specs.List.{AllByRecursion, list_any}
use Rattle.std.specs.List.Sorted.{IsStrictlySortedBy}
use Rattle.std.specs.Ordering.{is_gt}
use Rattle.sqlite_keyed.specs.Lists.{insert_sorted, sort_by}
use Rattle.desk_rows.specs.order.Listed.{listed}
use Rattle.desk_rows.specs.order.LookUps.{rows_by, zip_from}
use Rattle.desk_rows.proofs.OrderLemmas.Each.{EachTwo, all_map, all_so}
use Rattle.desk_rows.proofs.OrderLemmas.Sorting.{all_inserted, all_sorted}

-- ---- sorted rows

swap : (p q r : Bool) → (q || (p || r)) ≡ (p || (q || r))
swap true true r = refl
swap true false r = refl
swap false true r = refl
swap false false r = refl

module _ {A : Type 0} (order : A → A → Ordering) where
  any_inserted : (test : A → Bool) (x : A) (ys : List A) → list_any test (insert_sorted order x ys) ≡ (test x || list_any test ys)
  any_inserted test x [] = refl
  any_inserted test x (y ∷ ys) = by (is_gt (order x y)) (any_inserted test x ys)
    where
      by : (t : Bool) → list_any test (insert_sorted order x ys) ≡ (test x || list_any test ys)
          → list_any test (cond t (y ∷ insert_sorted order x ys) (x ∷ y ∷ ys)) ≡ (test x || (test y || list_any test ys))
      by true rest = ap (λ t. test y || t) rest ∙ swap (test x) (test y) (list_any test ys)
      by false rest = refl

  -- some row passes a test, sorted or not
  pub any_sorted : (test : A → Bool) (xs : List A) → list_any test (sort_by order xs) ≡ list_any test xs
  any_sorted test [] = refl
  any_sorted test (x ∷ xs) = any_inserted test x (sort_by order xs) ∙ ap (λ t. test x || t) (any_sorted test xs)

  -- rows in a range whose keys differ rise strictly
  module _ (P : A → Type 0) (Apart Below : A → A → Type 0) (after : (a b : A) → P a → P b → Apart a b → is_gt (order a b) ≡ true → Below b a)
      (before : (a b : A) → P a → P b → Apart a b → is_gt (order a b) ≡ false → Below a b) (chain : (a b c : A) → Below a b → Below b c → Below a c) where
    rises_by : (a b : A) (bs : List A) (t : Bool) → is_gt (order a b) ≡ t → P a → P b → Apart a b → EachTwo Below (b ∷ bs) → EachTwo Below (insert_sorted order a bs)
        → EachTwo Below (cond t (b ∷ insert_sorted order a bs) (a ∷ b ∷ bs))
    rises_by a b bs true is own other apart up rest = (all_inserted order (Below b) a bs (after a b own other apart is) up.0, rest)
    rises_by a b bs false is own other apart up rest =
        let low : Below a b = before a b own other apart is in
        ((low, all_so (Below b) (Below a) (λ c high. chain a b c low high) bs up.0), up)

    rises_inserted : (a : A) (bs : List A) → P a → AllByRecursion P bs → AllByRecursion (Apart a) bs → EachTwo Below bs → EachTwo Below (insert_sorted order a bs)
    rises_inserted a [] own others apart up = (tt, tt)
    rises_inserted a (b ∷ bs) own others apart up =
        rises_by a b bs (is_gt (order a b)) refl own others.0 apart.0 up (rises_inserted a bs own others.1 apart.1 up.1)

    pub rises_sorted : (rows : List A) → AllByRecursion P rows → EachTwo Apart rows → EachTwo Below (sort_by order rows)
    rises_sorted [] each apart = tt
    rises_sorted (a ∷ rows) each apart =
        rises_inserted a (sort_by order rows) each.0 (all_sorted order P rows each.1) (all_sorted order (Apart a) rows apart.0) (rises_sorted rows each.1 apart.1)

-- ---- what rows show

pub all_pass : {A : Type 0} (xs : List A) → filter (λ x. true) xs ≡ xs
all_pass [] = refl
all_pass (x ∷ xs) = ap (λ ys. x ∷ ys) (all_pass xs)

pub any_map : {A B : Type 0} (f : A → B) (test : B → Bool) (xs : List A) → list_any test (map f xs) ≡ list_any (λ x. test (f x)) xs
any_map f test [] = refl
any_map f test (x ∷ xs) = ap (λ t. test (f x) || t) (any_map f test xs)

-- of those that pass a test
pub any_passing : {A : Type 0} (p test : A → Bool) (xs : List A) → list_any test (filter p xs) ≡ list_any (λ x. p x && test x) xs
any_passing p test [] = refl
any_passing p test (x ∷ xs) = by (p x) (any_passing p test xs)
  where
    by : (b : Bool) → list_any test (filter p xs) ≡ list_any (λ x. p x && test x) xs
        → list_any test (cond b (x ∷ filter p xs) (filter p xs)) ≡ ((b && test x) || list_any (λ x. p x && test x) xs)
    by true rest = ap (λ t. test x || t) rest
    by false rest = rest

any_zipped : {X : Type 0} (test : X → Bool) (n : ℕ) (xs : List X) → list_any (λ (b : ℕ × X). test b.1) (zip_from n xs) ≡ list_any test xs
any_zipped test n [] = refl
any_zipped test n (x ∷ xs) = ap (λ t. test x || t) (any_zipped test (n + 1) xs)

-- what the rows show is what they show in any order
pub any_listed : {X Y : Type 0} (show : X → Y) (order : ℕ × X → ℕ × X → Ordering) (p : X → Bool) (test : Y → Bool) (xs : List X)
    → list_any test (listed show order p xs) ≡ list_any (λ x. p x && test (show x)) xs
any_listed {X} show order p test xs =
    any_map (λ (b : ℕ × X). show b.1) test (rows_by order p xs)
    ∙ any_sorted order (λ (b : ℕ × X). test (show b.1)) (filter (λ (b : ℕ × X). p b.1) (zip_from 1 xs))
    ∙ any_passing (λ (b : ℕ × X). p b.1) (λ b. test (show b.1)) (zip_from 1 xs)
    ∙ any_zipped (λ x. p x && test (show x)) 1 xs

-- rows that rise show what rises
pub strictly : {A K : Type 0} (cmp : K → K → Ordering) (show : A → K) (rows : List A) → EachTwo (λ a b. cmp (show a) (show b) ≡ Less) rows
    → IsStrictlySortedBy cmp (map show rows)
unfolding IsStrictlySortedBy
strictly cmp show [] up = tt
strictly cmp show (a ∷ rows) up =
    (all_map (λ b. cmp (show a) (show b) ≡ Less) (λ k. cmp (show a) k ≡ Less) show (λ b is. is) rows up.0, strictly cmp show rows up.1)
