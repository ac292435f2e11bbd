-- Pairs of the rows of two lists, if each of the second names one of the first by its number.
use Rattle.std.proofs.Common.{◌≡◌, ◌==◌, ◌&&◌, ◌||◌, ◌+◌, ◌<◌, ℕ, zero, suc, Bool, true, false, cond, List, [], ◌∷◌, ◌++◌, map, filter, slice_get}
use Rattle.std.proofs.Common.{eqb-true, true≢false, IsPermutation, refl, sym, ap, ◌∙◌, subst, arith}
use Rattle.std.specs.List.{list_any}
use Rattle.std.specs.Option.{option_map_or}
use Rattle.std.proofs.lemmas.Bool.{and_parts, eq-eqb}
use Rattle.std.proofs.lemmas.List.{map-append}
use Rattle.std.proofs.lemmas.List.Elements.{filter-append}
use Rattle.std.proofs.lemmas.List.Sorted.{IsPermutation-refl, IsPermutation-append_right, IsPermutation-cons, IsPermutation-middle, IsPermutation-trans}
use Rattle.registry_core.specs.Numbered.{item_at}
use Rattle.sqlite_keyed.specs.Lists.{pairs}
use Rattle.sqlite_keyed.proofs.ListLemmas.{filter_same}
use Rattle.desk_rows.proofs.Ordered.{apart_above, apart_below, zip_from}

-- ---- two tests; an element passes at most one of them

module _ {Y : Type 0} (a b : Y → Bool) (apart : (y : Y) → a y ≡ true → b y ≡ false) where
  passing_by : (y : Y) (ones others both : List Y) (s t : Bool) → (s ≡ true → t ≡ false) → IsPermutation (ones ++ others) both
      → IsPermutation (cond s (y ∷ ones) ones ++ cond t (y ∷ others) others) (cond (s || t) (y ∷ both) both)
  passing_by y ones others both true true once rest = absurd (true≢false (once refl))
  passing_by y ones others both true false once rest = IsPermutation-cons y (ones ++ others) both rest
  passing_by y ones others both false true once rest =
      IsPermutation-trans (ones ++ y ∷ others) (y ∷ (ones ++ others)) (y ∷ both) (IsPermutation-middle ones y others)
      (IsPermutation-cons y (ones ++ others) both rest)
  passing_by y ones others both false false once rest = rest

  passing_either : (ys : List Y) → IsPermutation (filter a ys ++ filter b ys) (filter (λ y. a y || b y) ys)
  passing_either [] = IsPermutation-refl []
  passing_either (y ∷ ys) = passing_by y (filter a ys) (filter b ys) (filter (λ y. a y || b y) ys) (a y) (b y) (apart y) (passing_either ys)

-- ---- pairs that pass a test, if an element of the second list is in at most one

module _ {X Y : Type 0} (p : X × Y → Bool) where
  -- whether it passes in a pair with one of these
  abbrev pub passes_beside : List X → Y → Bool
  passes_beside xs y = list_any (λ x. p (x, y)) xs

  -- what passes in a pair with one of them passes with no later one
  abbrev pub PassOnce : List X → Type 0
  PassOnce [] = Unit {0}
  PassOnce (x ∷ xs) = ((y : Y) → p (x, y) ≡ true → passes_beside xs y ≡ false) × PassOnce xs

  beside_one : (x : X) (ys : List Y) → map (λ (a : X × Y). a.1) (filter p (map (λ y. (x, y)) ys)) ≡ filter (λ y. p (x, y)) ys
  beside_one x [] = refl
  beside_one x (y ∷ ys) = go (p (x, y)) (beside_one x ys)
    where
      go : (b : Bool) → map (λ (a : X × Y). a.1) (filter p (map (λ y. (x, y)) ys)) ≡ filter (λ y. p (x, y)) ys
          → map (λ (a : X × Y). a.1) (cond b ((x, y) ∷ filter p (map (λ y. (x, y)) ys)) (filter p (map (λ y. (x, y)) ys)))
          ≡ cond b (y ∷ filter (λ y. p (x, y)) ys) (filter (λ y. p (x, y)) ys)
      go true later = ap (λ l. y ∷ l) later
      go false later = later

  none_passes : (ys : List Y) → filter (λ y. false) ys ≡ []
  none_passes [] = refl
  none_passes (y ∷ ys) = none_passes ys

  -- so the second ones of those pairs are the elements that pass
  pub second_ones : (xs : List X) (ys : List Y) → PassOnce xs → IsPermutation (map (λ (a : X × Y). a.1) (filter p (pairs xs ys))) (filter (passes_beside xs) ys)
  second_ones [] ys once = subst (IsPermutation []) (sym (none_passes ys)) (IsPermutation-refl [])
  second_ones (x ∷ xs) ys once =
      let here = map (λ y. (x, y)) ys in
      let is : map (λ (a : X × Y). a.1) (filter p (here ++ pairs xs ys)) ≡ filter (λ y. p (x, y)) ys ++ map (λ (a : X × Y). a.1) (filter p (pairs xs ys)) =
      ap (map (λ (a : X × Y). a.1)) (filter-append p here (pairs xs ys)) ∙ map-append (λ (a : X × Y). a.1) (filter p here) (filter p (pairs xs ys))
      ∙ ap (λ l. l ++ map (λ (a : X × Y). a.1) (filter p (pairs xs ys))) (beside_one x ys) in
      subst (λ l. IsPermutation l (filter (passes_beside (x ∷ xs)) ys)) (sym is) (
      IsPermutation-trans _ (filter (λ y. p (x, y)) ys ++ filter (passes_beside xs) ys) _
      (IsPermutation-append_right (filter (λ y. p (x, y)) ys) _ (filter (passes_beside xs) ys) (second_ones xs ys once.1))
      (passing_either (λ y. p (x, y)) (passes_beside xs) once.0 ys))

-- ---- numbered rows: the one with a number has to pass

module _ {X : Type 0} (t : X → Bool) (r : Bool) (n : ℕ) where
  abbrev named : ℕ × X → Bool
  named b = n == b.0 && (t b.1 && r)

  or_false : (b : Bool) → (b || false) ≡ b
  or_false true = refl
  or_false false = refl

  pub none_before : (m : ℕ) (xs : List X) → n < m → list_any named (zip_from m xs) ≡ false
  none_before m [] low = refl
  none_before m (x ∷ xs) low = rw (apart_above m n low) (none_before (m + 1) xs (omega (arith, low)))

  one_named : (m k : ℕ) (xs : List X) → n ≡ m + k → list_any named (zip_from m xs) ≡ (option_map_or t (slice_get xs k) false && r)
  one_named m k [] is = refl
  one_named m zero (x ∷ xs) is =
      let same : n ≡ m = omega (arith, is) in
      rw (eq-eqb n m same, none_before (m + 1) xs (omega (arith, same))) (or_false (t x && r))
  one_named m (suc k) (x ∷ xs) is = rw (apart_below m n (omega (arith, is))) (one_named (m + 1) k xs (omega (arith, is)))

pub any_named : {X : Type 0} (t : X → Bool) (r : Bool) (n : ℕ) (xs : List X)
    → list_any (λ (b : ℕ × X). n == b.0 && (t b.1 && r)) (zip_from 1 xs) ≡ (option_map_or t (item_at xs n) false && r)
any_named t r zero xs = none_before t r zero 1 xs (omega arith)
any_named t r (suc k) xs = one_named t r (suc k) 1 k xs (omega arith)

-- ---- the rows that name one that passes

module _ {X Y : Type 0} (number : Y → ℕ) (t : X → Bool) (r : Y → Bool) where
  -- the one names the other, and both pass
  abbrev pub names_it : (ℕ × X) × (ℕ × Y) → Bool
  names_it b = number b.1.1 == b.0.0 && (t b.0.1 && r b.1.1)

  pub named_once : (m : ℕ) (xs : List X) → PassOnce names_it (zip_from m xs)
  named_once m [] = tt
  named_once m (x ∷ xs) = (
    λ y passes.
        let same : number y.1 ≡ m = eqb-true (number y.1) m (and_parts (number y.1 == m) (t x && r y.1) passes).0 in
        none_before t (r y.1) (number y.1) (m + 1) xs (omega (arith, same)),
    named_once (m + 1) xs,
  )

  pub named_ones : (xs : List X) (ys : List Y) → IsPermutation (map (λ (a : (ℕ × X) × (ℕ × Y)). a.1) (filter names_it (pairs (zip_from 1 xs) (zip_from 1 ys))))
      (filter (λ (y : ℕ × Y). option_map_or t (item_at xs (number y.1)) false && r y.1) (zip_from 1 ys))
  named_ones xs ys = subst (IsPermutation (map (λ (a : (ℕ × X) × (ℕ × Y)). a.1) (filter names_it (pairs (zip_from 1 xs) (zip_from 1 ys)))))
      (filter_same _ _ (λ y. any_named t (r y.1) (number y.1) xs) (zip_from 1 ys))
      (second_ones names_it (zip_from 1 xs) (zip_from 1 ys) (named_once 1 xs))
