-- Numbered rows, some of them changed, each in its place.
use Rattle.std.proofs.Common.{◌≡◌, inl, inr, ℕ, zero, suc, ◌+◌, ◌<◌, ◌≤◌, ◌==◌, pos, List, [], ◌∷◌, map, filter, length, Bool, true, false, cond, not, Greater, refl, sym, ap, ap₂, subst, ◌∙◌, arith, rules}
use Rattle.std.specs.Prelude.{nat_lt}
use Rattle.std.specs.List.{AllByRecursion}
use Rattle.std.specs.Ordering.{is_eq, match_ordering}
use Rattle.std.proofs.lemmas.Bool.{eq-eqb}
use Rattle.std.proofs.lemmas.Cmp.{tied_itself}
use Rattle.sqlite_value.specs.declared.value.Value.TheVariants.{Int}
use Rattle.sqlite_value.specs.Order.{Row, value_cmp}
use Rattle.sqlite_value.proofs.OrderLemmas.{value_cmp-Int, value_cmp_total}
use Rattle.sqlite_trees.specs.Tree.{put_row, without_rowid}
use Rattle.sqlite_rules.specs.Lists.{Has}
use Rattle.sqlite_rules.proofs.ListLemmas.{has_filtered}
use Rattle.sqlite_keyed.specs.Lists.{update_where}
use Rattle.registry_core.specs.Numbered.{item_changed, place_changed}
use Rattle.desk_rows.specs.Rows.{rowids_from}
use Rattle.desk_rows.proofs.NumberedLemmas.{ints_rise}
use Rattle.desk_rows.proofs.Ordered.{apart_above, apart_below, encode, zip_from}

-- ---- where a numbered row is

pub zip_low : {X : Type 0} (n : ℕ) (xs : List X) (b : ℕ × X) → Has (zip_from n xs) b → n ≤ b.0
zip_low n [] b h = absurd h
zip_low n (x ∷ xs) b (inl first) = let is : b.0 ≡ n = ap (λ (c : ℕ × _). c.0) first in omega (arith, is)
zip_low n (x ∷ xs) b (inr later) = let low = zip_low (n + 1) xs b later in omega (arith, low)

pub zip_high : {X : Type 0} (n : ℕ) (xs : List X) (b : ℕ × X) → Has (zip_from n xs) b → b.0 < n + length xs
zip_high n [] b h = absurd h
zip_high n (x ∷ xs) b (inl first) = let is : b.0 ≡ n = ap (λ (c : ℕ × _). c.0) first in omega (arith, is)
zip_high n (x ∷ xs) b (inr later) = let low = zip_high (n + 1) xs b later in omega (arith, low)

pub zip_stands : {X : Type 0} (cells : X → Row) (n : ℕ) (xs : List X) (b : ℕ × X) → Has (zip_from n xs) b
    → Has (rowids_from n (map cells xs)) (encode cells b)
zip_stands cells n [] b h = absurd h
zip_stands cells n (x ∷ xs) b (inl first) = inl (ap (encode cells) first)
zip_stands cells n (x ∷ xs) b (inr later) = inr (zip_stands cells (n + 1) xs b later)

-- ---- a row put again at its number

ints_fall : (n m : ℕ) → n < m → value_cmp (Int (pos m)) (Int (pos n)) ≡ Greater
ints_fall n m low = value_cmp-Int (pos m) (pos n) ∙ (let a : nat_lt m n ≡ false = search rules in let b : nat_lt n m ≡ true = search rules in rw (a, b))

gone_below : (n m : ℕ) (xs : List Row) → n < m → without_rowid (pos n) (rowids_from m xs) ≡ rowids_from m xs
gone_below n m [] low = refl
gone_below n m (x ∷ xs) low =
    let left = without_rowid (pos n) (rowids_from (m + 1) xs) in
    ap (λ o. cond (not (is_eq o)) ((Int (pos m) ∷ x) ∷ left) left) (ints_fall n m low)
    ∙ ap (λ l. (Int (pos m) ∷ x) ∷ l) (gone_below n (m + 1) xs (omega (arith, low)))

put_front : (n m : ℕ) (xs : List Row) (c : Row) → n < m → put_row (Int (pos n) ∷ c) (rowids_from m xs) ≡ (Int (pos n) ∷ c) ∷ rowids_from m xs
put_front n m [] c low = refl
put_front n m (x ∷ xs) c low =
    let new = Int (pos n) ∷ c in
    let rest = rowids_from (m + 1) xs in
    ap (λ o. match_ordering o ((Int (pos m) ∷ x) ∷ put_row new rest) (new ∷ rest) (new ∷ (Int (pos m) ∷ x) ∷ rest)) (ints_fall n m low)

module _ {X : Type 0} (p : ℕ × X → Bool) (f : X → X) where
  -- the rows, with this done to those that pass
  abbrev pub numbered_changed : ℕ → List X → List X
  numbered_changed n [] = []
  numbered_changed n (x ∷ xs) = cond (p (n, x)) (f x) x ∷ numbered_changed (n + 1) xs

  abbrev passing : ℕ → List X → List (ℕ × X)
  passing n xs = filter p (zip_from n xs)

  pub none_changed : (n : ℕ) (xs : List X) → passing n xs ≡ [] → numbered_changed n xs ≡ xs
  none_changed n [] none = refl
  none_changed n (x ∷ xs) none = go (p (n, x)) none (none_changed (n + 1) xs)
    where
      go : (t : Bool) → cond t ((n, x) ∷ passing (n + 1) xs) (passing (n + 1) xs) ≡ [] → (passing (n + 1) xs ≡ [] → numbered_changed (n + 1) xs ≡ xs)
          → cond t (f x) x ∷ numbered_changed (n + 1) xs ≡ x ∷ xs
      go true is later = cc
      go false is later = ap (λ l. x ∷ l) (later is)

  pub put_changed : (cells : X → Row) (n : ℕ) (xs : List X) (b : ℕ × X) → passing n xs ≡ b ∷ []
      → put_row (encode cells (b.0, f b.1)) (without_rowid (pos b.0) (rowids_from n (map cells xs))) ≡ rowids_from n (map cells (numbered_changed n xs))
  put_changed cells n [] b one = cc
  put_changed cells n (x ∷ xs) b one = go (p (n, x)) one (put_changed cells (n + 1) xs b)
    where
      rest : List Row
      rest = rowids_from (n + 1) (map cells xs)

      after : List Row
      after = rowids_from (n + 1) (map cells (numbered_changed (n + 1) xs))

      -- the row b put again where the first row is too
      Puts : ℕ × X → X → Type 0
      Puts b y = put_row (encode cells (b.0, f b.1)) (without_rowid (pos b.0) (encode cells (n, x) ∷ rest)) ≡ encode cells (n, y) ∷ after

      go : (t : Bool) → cond t ((n, x) ∷ passing (n + 1) xs) (passing (n + 1) xs) ≡ b ∷ []
          → (passing (n + 1) xs ≡ b ∷ [] → put_row (encode cells (b.0, f b.1)) (without_rowid (pos b.0) rest) ≡ after) → Puts b (cond t (f x) x)
      go true is later =
          let first : b ≡ (n, x) = cc in
          let none : passing (n + 1) xs ≡ [] = cc in
          let new = encode cells (n, f x) in
          let left = without_rowid (pos n) rest in
          subst (λ c. Puts c (f x)) (sym first) (
          ap (λ o. put_row new (cond (not (is_eq o)) (encode cells (n, x) ∷ left) left)) (tied_itself value_cmp_total (Int (pos n)))
          ∙ ap (put_row new) (gone_below n (n + 1) (map cells xs) (omega arith)) ∙ put_front n (n + 1) (map cells xs) (cells (f x)) (omega arith)
          ∙ ap (λ l. new ∷ rowids_from (n + 1) (map cells l)) (sym (none_changed (n + 1) xs none)))
      go false is later =
          let low : n + 1 ≤ b.0 = zip_low (n + 1) xs b (has_filtered p (zip_from (n + 1) xs) b (subst (λ l. Has l b) (sym is) (inl refl))).0 in
          let before : n < b.0 = omega (arith, low) in
          let new = encode cells (b.0, f b.1) in
          let left = without_rowid (pos b.0) rest in
          ap (λ o. put_row new (cond (not (is_eq o)) (encode cells (n, x) ∷ left) left)) (ints_rise n b.0 before)
          ∙ ap (λ o. match_ordering o (encode cells (n, x) ∷ put_row new left) (new ∷ left) (new ∷ encode cells (n, x) ∷ left)) (ints_rise n b.0 before)
          ∙ ap (λ l. encode cells (n, x) ∷ l) (later is)

  pub all_changed : (P : X → Type 0) → ((x : X) → P x → P (f x)) → (n : ℕ) (xs : List X) → AllByRecursion P xs → AllByRecursion P (numbered_changed n xs)
  all_changed P keeps n [] all = tt
  all_changed P keeps n (x ∷ xs) all = (go (p (n, x)), all_changed P keeps (n + 1) xs all.1)
    where
      go : (t : Bool) → P (cond t (f x) x)
      go true = keeps x all.0
      go false = all.0

-- ---- those that pass by what they are, or by their number

pub changed_where : {X : Type 0} (P : X → Type 0) (p : ℕ × X → Bool) (test : X → Bool) (f : X → X) → ((b : ℕ × X) → P b.1 → p b ≡ test b.1)
    → (n : ℕ) (xs : List X) → AllByRecursion P xs → numbered_changed p f n xs ≡ update_where test f xs
changed_where P p test f same n [] all = refl
changed_where P p test f same n (x ∷ xs) all = ap₂ (λ t l. cond t (f x) x ∷ l) (same (n, x) all.0) (changed_where P p test f same (n + 1) xs all.1)

changed_before : {X : Type 0} (f : X → X) (k n : ℕ) (xs : List X) → k < n → numbered_changed (λ b. b.0 == k) f n xs ≡ xs
changed_before f k n [] low = refl
changed_before f k n (x ∷ xs) low = rw (apart_below k n low) (ap (λ l. x ∷ l) (changed_before f k (n + 1) xs (omega (arith, low))))

pub changed_at : {X : Type 0} (f : X → X) (k : ℕ) (xs : List X) → numbered_changed (λ b. b.0 == k) f 1 xs ≡ item_changed f xs k
changed_at f zero xs = changed_before f 0 1 xs (omega arith)
changed_at f (suc j) xs = at 1 (suc j) j xs (omega arith)
  where
    at : (n k j : ℕ) (xs : List _) → k ≡ n + j → numbered_changed (λ b. b.0 == k) f n xs ≡ place_changed f xs j
    at n k j [] is = refl
    at n k zero (x ∷ xs) is =
        let same : n ≡ k = omega (arith, is) in
        rw (eq-eqb n k same) (ap (λ l. f x ∷ l) (changed_before f k (n + 1) xs (omega (arith, is))))
    at n k (suc j) (x ∷ xs) is = rw (apart_above k n (omega (arith, is))) (ap (λ l. x ∷ l) (at (n + 1) k j xs (omega (arith, is))))
