-- A cursor that gives the rows of a tree one after another, and two such cursors in step that compare two trees.
use Rattle.std.proofs.Common.{◌≡◌, ℕ, zero, suc, ◌+◌, ◌≤◌, List, [], ◌∷◌, ◌++◌, length, take, drop, slice_get, Some, None, Option, true, false, Bool, refl, sym, ap, ap₂, subst, ◌∙◌, arith}
use Rattle.std.specs.Prelude.{IsSome}
use Rattle.sqlite_value.specs.Order.{Row}
use Rattle.sqlite_value.specs.declared.keys.Order.{Order}
use Rattle.sqlite_trees.specs.declared.store.Direction.TheVariants.{Forward}
use Rattle.sqlite_trees.specs.Tree.{from_key, sought}
use Rattle.sqlite_trees.specs.View.{View, IsClean, Advances, Moves, StayLive, doubt, with_cursor}
use Rattle.desk_cli.specs.steps.Audit.{DifferFirst, OnlyMoves}

-- the cursor has given `n` rows of the tree, and nothing but cursors has moved
pub record IsAt (old now : View) (tree n : ℕ) : Type 0 where
  pub clean : doubt old.is_clean ≤ doubt now.is_clean
  pub live : IsSome (now.cursors 0)
  pub same : IsClean now → now ≡ record old { cursors = now.cursors }
  pub rest : IsClean now → now.cursors 0 ≡ Some (drop n (old.trees tree))
  pub within : IsClean now → n ≤ length (old.trees tree)

-- what a call gave: a row, or that there is none left
abbrev pub given : Bool → Row → Option Row
given true row = Some row
given false row = None

-- ---- lists

dropped : (n : ℕ) (xs : List Row) (x : Row) (left : List Row) → drop n xs ≡ x ∷ left → (drop (suc n) xs ≡ left) × (slice_get xs n ≡ Some x)
dropped zero [] x left is = absurd (let e : ◌≡◌ {A = List Row} [] (x ∷ left) = is in cc)
dropped (suc n) [] x left is = absurd (let e : ◌≡◌ {A = List Row} [] (x ∷ left) = is in cc)
dropped zero (y ∷ xs) x left is = (ap (drop 1) is, ap (λ l. slice_get l 0) is)
dropped (suc n) (y ∷ xs) x left is = dropped n xs x left is

none_dropped : (n : ℕ) (xs : List Row) → drop n xs ≡ [] → slice_get xs n ≡ None
none_dropped zero [] is = refl
none_dropped (suc n) [] is = refl
none_dropped zero (y ∷ xs) is = absurd (let e : ◌≡◌ {A = List Row} (y ∷ xs) [] = is in cc)
none_dropped (suc n) (y ∷ xs) is = none_dropped n xs is

taken : (n : ℕ) (xs : List Row) (x : Row) → slice_get xs n ≡ Some x → take (suc n) xs ≡ take n xs ++ x ∷ []
taken zero [] x is = absurd (let e : ◌≡◌ {A = Option Row} None (Some x) = is in cc)
taken (suc n) [] x is = absurd (let e : ◌≡◌ {A = Option Row} None (Some x) = is in cc)
taken zero (y ∷ xs) x is = let e : ◌≡◌ {A = Option Row} (Some y) (Some x) = is in let same : y ≡ x = cc in ap (λ l. l ∷ []) same
taken (suc n) (y ∷ xs) x is = ap (λ l. y ∷ l) (taken n xs x is)

longer : (n : ℕ) (xs : List Row) (x : Row) → slice_get xs n ≡ Some x → n + 1 ≤ length xs
longer zero [] x is = absurd (let e : ◌≡◌ {A = Option Row} None (Some x) = is in cc)
longer (suc n) [] x is = absurd (let e : ◌≡◌ {A = Option Row} None (Some x) = is in cc)
longer zero (y ∷ xs) x is = omega arith
longer (suc n) (y ∷ xs) x is = omega (arith, longer n xs x is)

all_taken : (n : ℕ) (xs : List Row) → slice_get xs n ≡ None → (take n xs ≡ xs) × (length xs ≤ n)
all_taken zero [] is = (refl, omega arith)
all_taken (suc n) [] is = (refl, omega arith)
all_taken zero (y ∷ xs) is = absurd (let e : ◌≡◌ {A = Option Row} (Some y) None = is in cc)
all_taken (suc n) (y ∷ xs) is = let it = all_taken n xs is in (ap (λ l. y ∷ l) it.0, omega (arith, it.1))

-- ---- two lists of rows

module _ (n : ℕ) (one other : List Row) (front : take n one ≡ take n other) where
  pub front_more : (a b : Row) → a ≡ b → slice_get one n ≡ Some a → slice_get other n ≡ Some b → take (n + 1) one ≡ take (n + 1) other
  front_more a b same left right =
      let next : n + 1 ≡ suc n = omega arith in
      ap (λ k. take k one) next ∙ taken n one a left ∙ ap₂ (λ l x. l ++ x ∷ []) front same ∙ sym (taken n other b right) ∙ sym (ap (λ k. take k other) next)

  pub both_ended : n ≤ length one → slice_get one n ≡ None → slice_get other n ≡ None → (one ≡ other) × (length one ≡ n)
  both_ended within left right =
      let a = all_taken n one left in
      let b = all_taken n other right in
      (sym a.0 ∙ front ∙ b.0, omega (arith, a.1, within))

  differ_there : (slice_get one n ≡ slice_get other n → ⊥) → DifferFirst one other (n + 1)
  differ_there there = record { before = n; next = refl; front = front; there = there }

  pub one_ended : (a b : Row) (has_one has_other : Bool) → (has_one ≡ has_other → ⊥) → slice_get one n ≡ given has_one a → slice_get other n ≡ given has_other b
      → DifferFirst one other (n + 1)
  one_ended a b true true other left right = absurd (other refl)
  one_ended a b false false other left right = absurd (other refl)
  one_ended a b true false other left right =
      differ_there (λ same. let e : ◌≡◌ {A = Option Row} (Some a) None = sym left ∙ same ∙ right in cc)
  one_ended a b false true other left right =
      differ_there (λ same. let e : ◌≡◌ {A = Option Row} None (Some b) = sym left ∙ same ∙ right in cc)

  pub rows_differ : (a b : Row) → (a ≡ b → ⊥) → slice_get one n ≡ Some a → slice_get other n ≡ Some b → DifferFirst one other (n + 1)
  rows_differ a b apart left right =
      differ_there (λ same. apart (let e : ◌≡◌ {A = Option Row} (Some a) (Some b) = sym left ∙ same ∙ right in cc))

-- ---- at the beginning

from_first : (o : Order) (es : List Row) → from_key o [] es ≡ es
from_first o [] = refl
from_first o (e ∷ es) = refl

pub started : (old new : View) (tree : ℕ) (o : Order) (key : Row) → key ≡ [] → doubt old.is_clean ≤ doubt new.is_clean → IsSome (new.cursors 0)
    → (IsClean new → new ≡ with_cursor old 0 (sought o Forward key (old.trees tree))) → IsAt old new tree 0
started old new tree o key none clean live is = record {
  clean = clean;
  live = live;
  same = λ sure. is sure ∙ ap (λ (v : View). let w : View = record old { cursors = v.cursors } in w) (sym (is sure));
  rest = λ sure. ap (λ (v : View). v.cursors 0) (is sure) ∙ ap (λ k. Some (from_key o k (old.trees tree))) none ∙ ap (λ l. Some l) (from_first o (old.trees tree));
  within = λ sure. omega arith;
}

-- ---- on

module _ (old mid new : View) (tree n : ℕ) (row : Row) (at : IsAt old mid tree n) (clean : doubt mid.is_clean ≤ doubt new.is_clean) where
  early : IsClean new → IsClean mid
  early sure = omega (arith, clean, sure)

  pub only_moved : (ok : Bool) → (IsClean new → Moves mid new 0) → OnlyMoves old new ok
  only_moved ok moves = record {
    clean = omega (arith, at.clean, clean);
    same = λ sure done. (moves sure).same ∙ ap (λ (v : View). let w : View = record v { cursors = new.cursors } in w) (at.same (early sure));
  }

  -- the row at the place, or none
  it_gave : (found : Bool) → (IsClean new → Advances mid new 0 row found) → IsClean new → slice_get (old.trees tree) n ≡ given found row
  it_gave true gave sure =
      let both : ◌≡◌ {A = Option (List Row)} (Some (drop n (old.trees tree))) (Some (row ∷ (gave sure).0)) = sym (at.rest (early sure)) ∙ (gave sure).1 in
      let left : drop n (old.trees tree) ≡ row ∷ (gave sure).0 = cc in
      (dropped n (old.trees tree) row (gave sure).0 left).1
  it_gave false gave sure =
      let both : ◌≡◌ {A = Option (List Row)} (Some (drop n (old.trees tree))) (Some []) = sym (at.rest (early sure)) ∙ (gave sure).0 in
      let left : drop n (old.trees tree) ≡ [] = cc in
      none_dropped n (old.trees tree) left

  pub item : (found is : Bool) → found ≡ is → (IsClean new → Advances mid new 0 row found) → IsClean new → slice_get (old.trees tree) n ≡ given is row
  item found is e gave sure = subst (λ f. slice_get (old.trees tree) n ≡ given f row) e (it_gave found gave sure)

  on : StayLive mid new → (IsClean new → Moves mid new 0) → (IsClean new → Advances mid new 0 row true) → IsAt old new tree (n + 1)
  on stay moves gave = record {
    clean = omega (arith, at.clean, clean);
    live = stay 0 at.live;
    same = λ sure. (only_moved true moves).same sure refl;
    rest = λ sure.
        let both : ◌≡◌ {A = Option (List Row)} (Some (drop n (old.trees tree))) (Some (row ∷ (gave sure).0)) = sym (at.rest (early sure)) ∙ (gave sure).1 in
        let left : drop n (old.trees tree) ≡ row ∷ (gave sure).0 = cc in
        let next : suc n ≡ n + 1 = omega arith in
        ap (λ (v : View). v.cursors 0) (gave sure).2
        ∙ ap (λ l. Some l) (sym (dropped n (old.trees tree) row (gave sure).0 left).0)
        ∙ ap (λ k. Some (drop k (old.trees tree))) next;
    within = λ sure. longer n (old.trees tree) row (it_gave true gave sure);
  }

  pub one_more : (found : Bool) → found ≡ true → StayLive mid new → (IsClean new → Moves mid new 0) → (IsClean new → Advances mid new 0 row found) → IsAt old new tree (n + 1)
  one_more found e stay moves gives = on stay moves (λ sure. subst (λ f. Advances mid new 0 row f) e (gives sure))
