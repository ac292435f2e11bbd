-- A list in order of key: what is left out of it leaves the order, and one more at the end goes in after those it isn't below.
use Rattle.std.proofs.Common.{◌≡◌, ℕ, zero, suc, ◌+◌, ◌<◌, Bool, true, false, cond, List, [], ◌∷◌, ◌++◌, length, Option, Some, None, refl, sym, ◌∙◌, ap, arith}
use Rattle.std.specs.Prelude.{ℤ, int_lt, ◌≤ℤ◌, slice_index_or, filter, IsPermutation}
use Rattle.std.specs.List.{cons_option, filter_map}
use Rattle.std.specs.Ordering.{int_eq}
use Rattle.std.specs.Option.{option_map_or}
use Rattle.std.proofs.lemmas.Int.{ints}
use Rattle.std.proofs.lemmas.Bool.{both_ways}
use Rattle.std.proofs.lemmas.List.Sorted.{IsPermutation-refl, IsPermutation-cons, IsPermutation-middle, IsPermutation-sym, IsPermutation-trans}
use Rattle.desk_store.specs.steps.ByKey.{put_before, put_after, in_order, NoneBelow, Rises}

-- ---- of three numbers

not_below : (a b c : ℤ) → int_lt a b ≡ false → int_lt c a ≡ false → int_lt c b ≡ false
not_below a b c ab ca = grind (arith, ints)

below_above : (a b c : ℤ) → int_lt a b ≡ true → int_lt c a ≡ true → int_lt c b ≡ true
below_above a b c ab ca = grind (arith, ints)

pub not_both : (a b : ℤ) → int_lt a b ≡ true → int_lt b a ≡ false
not_both a b ab = grind (arith, ints)

below_not_below : (a b c : ℤ) → int_lt a b ≡ false → int_lt c b ≡ true → int_lt c a ≡ true
below_not_below a b c ab cb = grind (arith, ints)

at_most : (a b : ℤ) → int_lt b a ≡ false → a ≤ℤ b
at_most a b ba = grind (arith, ints)

below_apart : (a b c : ℤ) → int_lt a b ≡ true → int_eq b c ≡ true → int_eq a c ≡ false
below_apart a b c ab bc = grind (arith, ints)

module _ {X : Type 0} (key : X → ℤ) where
  -- ---- a list in order rises

  none_below : (x y : X) (ys : List X) → int_lt (key y) (key x) ≡ false → NoneBelow key y ys → NoneBelow key x ys
  none_below x y [] above all = tt
  none_below x y (z ∷ zs) above all = (not_below (key y) (key x) (key z) above all.0, none_below x y zs above all.1)

  none_below_put_by : (y x z : X) (zs : List X) (b : Bool) → int_lt (key x) (key y) ≡ false → NoneBelow key y (z ∷ zs) → NoneBelow key y (put_before key x zs)
      → NoneBelow key y (cond b (z ∷ put_before key x zs) (x ∷ z ∷ zs))
  none_below_put_by y x z zs true above all rest = (all.0, rest)
  none_below_put_by y x z zs false above all rest = (above, all)

  none_below_put : (y x : X) (zs : List X) → int_lt (key x) (key y) ≡ false → NoneBelow key y zs → NoneBelow key y (put_before key x zs)
  none_below_put y x [] above all = (above, tt)
  none_below_put y x (z ∷ zs) above all = none_below_put_by y x z zs (int_lt (key z) (key x)) above all (none_below_put y x zs above all.1)

  rises_by : (x y : X) (ys : List X) (b : Bool) → int_lt (key y) (key x) ≡ b → Rises key (y ∷ ys) → Rises key (put_before key x ys)
      → Rises key (cond b (y ∷ put_before key x ys) (x ∷ y ∷ ys))
  rises_by x y ys true is rises rest = (none_below_put y x ys (not_both (key y) (key x) is) rises.0, rest)
  rises_by x y ys false is rises rest = ((is, none_below x y ys is rises.0), rises)

  rises_put : (x : X) (ys : List X) → Rises key ys → Rises key (put_before key x ys)
  rises_put x [] rises = (tt, tt)
  rises_put x (y ∷ ys) rises = rises_by x y ys (int_lt (key y) (key x)) refl rises (rises_put x ys rises.1)

  pub in_order_rises : (xs : List X) → Rises key (in_order key xs)
  in_order_rises [] = tt
  in_order_rises (x ∷ xs) = rises_put x (in_order key xs) (in_order_rises xs)

  -- ---- the same items

  permutation_by : (x y : X) (ys : List X) (b : Bool) → IsPermutation (x ∷ ys) (put_before key x ys)
      → IsPermutation (x ∷ y ∷ ys) (cond b (y ∷ put_before key x ys) (x ∷ y ∷ ys))
  permutation_by x y ys true rest =
      IsPermutation-trans (x ∷ y ∷ ys) (y ∷ x ∷ ys) _
      (IsPermutation-sym (y ∷ x ∷ ys) (x ∷ y ∷ ys) (IsPermutation-middle (y ∷ []) x ys)) (IsPermutation-cons y (x ∷ ys) _ rest)
  permutation_by x y ys false rest = IsPermutation-refl (x ∷ y ∷ ys)

  permutation_put : (x : X) (ys : List X) → IsPermutation (x ∷ ys) (put_before key x ys)
  permutation_put x [] = IsPermutation-refl (x ∷ [])
  permutation_put x (y ∷ ys) = permutation_by x y ys (int_lt (key y) (key x)) (permutation_put x ys)

  pub in_order_permutation : (xs : List X) → IsPermutation xs (in_order key xs)
  in_order_permutation [] = IsPermutation-refl []
  in_order_permutation (x ∷ xs) =
      IsPermutation-trans (x ∷ xs) (x ∷ in_order key xs) _ (IsPermutation-cons x xs _ (in_order_permutation xs)) (permutation_put x (in_order key xs))

  -- ---- items with one key stay in the order that they have

  abbrev same_key : ℤ → X → Bool
  same_key k x = int_eq (key x) k

  together_step : (k : ℤ) (x y : X) (ys : List X) (b c : Bool) → same_key k x ≡ b → same_key k y ≡ c → int_lt (key y) (key x) ≡ true
      → cond c (y ∷ cond b (x ∷ filter (same_key k) ys) (filter (same_key k) ys)) (cond b (x ∷ filter (same_key k) ys) (filter (same_key k) ys))
      ≡ cond b (x ∷ cond c (y ∷ filter (same_key k) ys) (filter (same_key k) ys)) (cond c (y ∷ filter (same_key k) ys) (filter (same_key k) ys))
  together_step k x y ys true true is js below = absurd (both_ways (same_key k y) (below_apart (key y) (key x) k below is) js)
  together_step k x y ys true false is js below = refl
  together_step k x y ys false c is js below = refl

  together_by : (k : ℤ) (x y : X) (ys : List X) (b : Bool) → int_lt (key y) (key x) ≡ b
      → filter (same_key k) (put_before key x ys) ≡ filter (same_key k) (x ∷ ys)
      → filter (same_key k) (cond b (y ∷ put_before key x ys) (x ∷ y ∷ ys)) ≡ filter (same_key k) (x ∷ y ∷ ys)
  together_by k x y ys true is rest =
      ap (λ kept. cond (same_key k y) (y ∷ kept) kept) rest ∙ together_step k x y ys (same_key k x) (same_key k y) refl refl is
  together_by k x y ys false is rest = refl

  together_put : (k : ℤ) (x : X) (ys : List X) → filter (same_key k) (put_before key x ys) ≡ filter (same_key k) (x ∷ ys)
  together_put k x [] = refl
  together_put k x (y ∷ ys) = together_by k x y ys (int_lt (key y) (key x)) refl (together_put k x ys)

  pub in_order_together : (k : ℤ) (xs : List X) → filter (λ x. int_eq (key x) k) (in_order key xs) ≡ filter (λ x. int_eq (key x) k) xs
  in_order_together k [] = refl
  in_order_together k (x ∷ xs) = together_put k x (in_order key xs) ∙ ap (λ kept. cond (same_key k x) (x ∷ kept) kept) (in_order_together k xs)

  -- ---- neighbours

  neighbours_rise : (xs : List X) (k : ℕ) (d : X) → Rises key xs → k + 1 < length xs → key (slice_index_or xs k d) ≤ℤ key (slice_index_or xs (k + 1) d)
  neighbours_rise [] k d rises within = absurd (omega arith)
  neighbours_rise (x ∷ []) k d rises within = absurd (omega arith)
  neighbours_rise (x ∷ y ∷ ys) zero d rises within = at_most (key x) (key y) rises.0.0
  neighbours_rise (x ∷ y ∷ ys) (suc k) d rises within =
      let place : suc k + 1 ≡ suc (k + 1) = omega arith in
      rw place (neighbours_rise (y ∷ ys) k d rises.1 (omega arith))

  pub in_order_ascends : (xs : List X) (k : ℕ) (d : X) → k + 1 < length (in_order key xs)
      → key (slice_index_or (in_order key xs) k d) ≤ℤ key (slice_index_or (in_order key xs) (k + 1) d)
  in_order_ascends xs k d within = neighbours_rise (in_order key xs) k d (in_order_rises xs) within

  -- ---- one item more at the end

  swap_by : (x y z : X) (zs : List X) (yz xz xy : Bool) → int_lt (key z) (key y) ≡ yz → int_lt (key x) (key z) ≡ xz → int_lt (key x) (key y) ≡ xy
      → put_after key x (put_before key y zs) ≡ put_before key y (put_after key x zs)
      → put_after key x (cond yz (z ∷ put_before key y zs) (y ∷ z ∷ zs)) ≡ put_before key y (cond xz (x ∷ z ∷ zs) (z ∷ put_after key x zs))
  swap_by x y z zs true true xy zy xz is rest =
      let xy_is : int_lt (key x) (key y) ≡ true = below_above (key z) (key y) (key x) zy xz in
      rw (xz, xy_is, zy) refl
  swap_by x y z zs true false xy zy xz is rest = rw (xz, zy) (ap (λ ws. z ∷ ws) rest)
  swap_by x y z zs false true true zy xz is rest = rw (is, zy) refl
  swap_by x y z zs false true false zy xz is rest = rw (is, xz) refl
  swap_by x y z zs false false true zy xz is rest = absurd (both_ways (int_lt (key x) (key z)) xz (below_not_below (key z) (key y) (key x) zy is))
  swap_by x y z zs false false false zy xz is rest = rw (is, xz, zy) refl

  put_swap : (x y : X) (zs : List X) → put_after key x (put_before key y zs) ≡ put_before key y (put_after key x zs)
  put_swap x y [] = one (int_lt (key x) (key y)) refl
    where
      one : (b : Bool) → int_lt (key x) (key y) ≡ b → put_after key x (y ∷ []) ≡ put_before key y (x ∷ [])
      one true is = rw is refl
      one false is = rw is refl
  put_swap x y (z ∷ zs) = swap_by x y z zs (int_lt (key z) (key y)) (int_lt (key x) (key z)) (int_lt (key x) (key y)) refl refl refl (put_swap x y zs)

  pub in_order_more : (xs : List X) (x : X) → in_order key (xs ++ x ∷ []) ≡ put_after key x (in_order key xs)
  in_order_more [] x = refl
  in_order_more (y ∷ ys) x = ap (put_before key y) (in_order_more ys x) ∙ sym (put_swap x y (in_order key ys))

-- ---- some of the items, each shown as another with its key

module _ {X Y : Type 0} (key : X → ℤ) (key_of : Y → ℤ) (shown : X → Option Y) (keeps : (x : X) (y : Y) → shown x ≡ Some y → key_of y ≡ key x) where
  abbrev none_below_shown : X → Y → List X → Type 0
  none_below_shown x y xs = NoneBelow key x xs → put_before key_of y (filter_map shown xs) ≡ y ∷ filter_map shown xs

  first_by : (x z : X) (y : Y) (zs : List X) (found : Option Y) → shown x ≡ Some y → shown z ≡ found → int_lt (key z) (key x) ≡ false
      → put_before key_of y (filter_map shown zs) ≡ y ∷ filter_map shown zs
      → put_before key_of y (cons_option found (filter_map shown zs)) ≡ y ∷ cons_option found (filter_map shown zs)
  first_by x z y zs None is js above rest = rest
  first_by x z y zs (Some w) is js above rest = rw (keeps x y is, keeps z w js, above) refl

  first_shown : (x : X) (y : Y) (xs : List X) → shown x ≡ Some y → none_below_shown x y xs
  first_shown x y [] is all = refl
  first_shown x y (z ∷ zs) is all = first_by x z y zs (shown z) is refl all.0 (first_shown x y zs is all.1)

  abbrev put_shown : Option Y → List Y → List Y
  put_shown found ys = option_map_or (λ y. put_before key_of y ys) found ys

  put_by : (x z : X) (zs : List X) (b : Bool) (found next : Option Y) → int_lt (key z) (key x) ≡ b → shown x ≡ found → shown z ≡ next → Rises key (z ∷ zs)
      → filter_map shown (put_before key x zs) ≡ put_shown found (filter_map shown zs)
      → filter_map shown (cond b (z ∷ put_before key x zs) (x ∷ z ∷ zs)) ≡ put_shown found (cons_option next (filter_map shown zs))
  put_by x z zs true None None is js ks rises rest = rw (ks) rest
  put_by x z zs true None (Some w) is js ks rises rest = rw (ks) (ap (λ ys. w ∷ ys) rest)
  put_by x z zs true (Some y) None is js ks rises rest = rw (ks) rest
  put_by x z zs true (Some y) (Some w) is js ks rises rest = rw (ks, keeps x y js, keeps z w ks, is) (ap (λ ys. w ∷ ys) rest)
  put_by x z zs false None next is js ks rises rest = rw (js, ks) refl
  put_by x z zs false (Some y) next is js ks rises rest =
      rw (js, ks) (sym (ap (λ found. put_before key_of y (cons_option found (filter_map shown zs))) (sym ks)
      ∙ first_shown x y (z ∷ zs) js (is, none_below key x z zs is rises.0) ∙ ap (λ found. y ∷ cons_option found (filter_map shown zs)) ks))

  shown_put : (x : X) (xs : List X) → Rises key xs → filter_map shown (put_before key x xs) ≡ put_shown (shown x) (filter_map shown xs)
  shown_put x [] rises = one (shown x)
    where
      one : (found : Option Y) → cons_option found [] ≡ put_shown found []
      one None = refl
      one (Some y) = refl
  shown_put x (z ∷ zs) rises = put_by x z zs (int_lt (key z) (key x)) (shown x) (shown z) refl refl refl rises (shown_put x zs rises.1)

  put_cons : (found : Option Y) (ys : List Y) → put_shown found (in_order key_of ys) ≡ in_order key_of (cons_option found ys)
  put_cons None ys = refl
  put_cons (Some y) ys = refl

  pub in_order_shown : (xs : List X) → filter_map shown (in_order key xs) ≡ in_order key_of (filter_map shown xs)
  in_order_shown [] = refl
  in_order_shown (x ∷ xs) =
      shown_put x (in_order key xs) (in_order_rises key xs) ∙ ap (put_shown (shown x)) (in_order_shown xs) ∙ put_cons (shown x) (filter_map shown xs)
