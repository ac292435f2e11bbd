-- Queries over tables that are joined, and of those the ones over one table: the first row, in the order of the rowids or in another that
-- leaves no tie.
use Rattle.std.proofs.Common.{◌≡◌, ◌==◌, ℕ, zero, suc, slice_get, eqb-true, ◌+◌, ◌<◌, ℤ, ◌<ℤ◌, pos, List, [], ◌∷◌, map, filter, find, Bool, true, false, cond, ◌||◌, Option, Some, None, option_map, refl, sym, ap, ◌∙◌, arith, Ordering, Less, Equal, Greater, int_cmp, map-id}
use Rattle.std.specs.List.{list_all, list_any, AllByRecursion}
use Rattle.std.specs.Prelude.{IfSome, is_some}
use Rattle.std.specs.Ordering.{ordering_then}
use Rattle.std.proofs.lemmas.Bool.{eq-eqb, false_from_ne_true}
use Rattle.std.proofs.lemmas.Int.{ints}
use Rattle.registry_core.specs.Numbered.{item_at}
use Rattle.sqlite_value.specs.declared.value.Value.TheVariants.{Int}
use Rattle.sqlite_value.specs.Order.{Row}
use Rattle.sqlite_value.proofs.OrderLemmas.{value_cmp-Int}
use Rattle.sqlite_trees.specs.Tree.{Trees}
use Rattle.sqlite_sql.specs.Term.{col, holds, eval_all}
use Rattle.sqlite_sql.specs.Query.{Query, inner, end, IsAnswer, output, output_cmp, page}
use Rattle.sqlite_keyed.specs.Keyed.{IsKeyedBy}
use Rattle.sqlite_keyed.specs.Lists.{sort_by}
use Rattle.sqlite_typed.proofs.AnswerLemmas.{Source, IsNoTie, at_end, last_table, answer_by_keys, answer_sorted}
use Rattle.desk_rows.specs.Rows.{rowids_from, table_of}
pub use Rattle.desk_rows.specs.order.LookUps.{zip_from}
pub use Rattle.desk_rows.specs.steps.Texts.{Asked, by_rowid, falling, joined, query_of, rising}

abbrev pub head : {X : Type 0} → List X → Option X
head [] = None
head (x ∷ xs) = Some x

pub page_head : {trees : List ℕ} (a : Asked trees) (params : Row) (l : List Row) → head (page (query_of a) params l) ≡ head l
page_head a params l = go a.one l
  where
    go : (one : Bool) (l : List Row) → head (page (query_of (record a { one = one })) params l) ≡ head l
    go false l = refl
    go true [] = refl
    go true (r ∷ l) = refl

pub head_map : {X Y : Type 0} (f : X → Y) (xs : List X) → head (map f xs) ≡ option_map f (head xs)
head_map f [] = refl
head_map f (x ∷ xs) = refl

-- ---- numbered rows

abbrev pub encode : {X : Type 0} → (X → Row) → ℕ × X → Row
encode cells b = Int (pos b.0) ∷ cells b.1

abbrev pub number_of : {A : Type 0} → ℕ × A → ℤ
number_of b = pos b.0

pub encoded : {X : Type 0} (cells : X → Row) (n : ℕ) (xs : List X) → rowids_from n (map cells xs) ≡ map (encode cells) (zip_from n xs)
encoded cells n [] = refl
encoded cells n (x ∷ xs) = ap (λ l. encode cells (n, x) ∷ l) (encoded cells (n + 1) xs)

past : {X : Type 0} (n m : ℕ) (xs : List X) → n < m → AllByRecursion (λ (b : ℕ × X). pos n <ℤ number_of b) (zip_from m xs)
past n m [] low = tt
past n m (x ∷ xs) low = (omega (ints, arith, low), past n (m + 1) xs (omega (arith, low)))

pub rises : {X : Type 0} (n : ℕ) (xs : List X) → IsKeyedBy (number_of {A = X}) (zip_from n xs)
rises n [] = tt
rises n (x ∷ xs) = (past n (n + 1) xs (omega arith), rises (n + 1) xs)

then_equal : (o : Ordering) → ordering_then o Equal ≡ o
then_equal Less = refl
then_equal Equal = refl
then_equal Greater = refl

pub find_head : {X : Type 0} (p : X → Bool) (xs : List X) → head (filter p xs) ≡ find p xs
find_head p [] = refl
find_head p (x ∷ xs) = go (p x) (find_head p xs)
  where
    go : (b : Bool) → head (filter p xs) ≡ find p xs → head (cond b (x ∷ filter p xs) (filter p xs)) ≡ cond b (Some x) (find p xs)
    go true later = refl
    go false later = later

-- ---- the answer of one table

module _ {tree : ℕ} {X : Type 0} (a : Asked (tree ∷ [])) (db : Trees) (cells : X → Row) (xs : List X) (stored : db tree ≡ table_of cells xs) (params : Row)
    (p : ℕ × X → Bool) (tests : (b : ℕ × X) → list_all (holds (params ∷ encode cells b ∷ [])) a.terms ≡ p b)
    (show : ℕ × X → Row) (shows : (b : ℕ × X) → eval_all a.project (params ∷ encode cells b ∷ []) ≡ show b) where
  abbrev q : Query
  q = query_of a

  abbrev source : Source db (inner tree end) (ℕ × X)
  source = last_table db tree (encode cells) (number_of {A = X}) (zip_from 1 xs) (stored ∙ encoded cells 1 xs) (rises 1 xs) (at_end db)

  -- the order in which the query shows two rows
  abbrev OrdersBy : (ℕ × X → ℕ × X → Ordering) → Type 0
  OrdersBy cmp = (b c : ℕ × X) → output_cmp q (output q (params ∷ encode cells b ∷ [])) (output q (params ∷ encode cells c ∷ [])) ≡ cmp b c

  by_rowids : a.order ≡ (col 1 0, rising) ∷ [] → OrdersBy (λ b c. int_cmp (number_of b) (number_of c))
  by_rowids is b c = rw is (ap (λ o. ordering_then o Equal) (value_cmp-Int (pos b.0) (pos c.0)) ∙ then_equal (int_cmp (number_of b) (number_of c)))

  pub rows_by_rowid : a.order ≡ (col 1 0, rising) ∷ [] → (rows : List Row) → IsAnswer q db params rows → rows ≡ page q params (map show (filter p (zip_from 1 xs)))
  rows_by_rowid is rows answer = sym (map-id rows) ∙ answer_by_keys q db params source p tests (λ r. r) show shows refl refl (by_rowids is) rows answer

  pub first_by_rowid : a.order ≡ (col 1 0, rising) ∷ [] → (rows : List Row) → IsAnswer q db params rows → head rows ≡ option_map show (find p (zip_from 1 xs))
  first_by_rowid is rows answer =
      ap head (rows_by_rowid is rows answer) ∙ page_head a params _ ∙ head_map show (filter p (zip_from 1 xs)) ∙ ap (option_map show) (find_head p (zip_from 1 xs))

  module _ (cmp : ℕ × X → ℕ × X → Ordering) (untied : (b c : ℕ × X) → int_cmp (number_of b) (number_of c) ≡ Less → IsNoTie (cmp b c)) (orders : OrdersBy cmp) where
    pub rows_sorted : (rows : List Row) → IsAnswer q db params rows → rows ≡ page q params (map show (sort_by cmp (filter p (zip_from 1 xs))))
    rows_sorted rows answer = sym (map-id rows) ∙ answer_sorted q db params source p tests (λ r. r) show shows refl refl cmp untied orders rows answer

    pub first_sorted : (rows : List Row) → IsAnswer q db params rows → head rows ≡ option_map show (head (sort_by cmp (filter p (zip_from 1 xs))))
    first_sorted rows answer = ap head (rows_sorted rows answer) ∙ page_head a params _ ∙ head_map show _

-- ---- what is found among numbered rows

module _ {X : Type 0} (p : X → Bool) where
  -- by what the row is, without its number
  pub found_row : (n : ℕ) (xs : List X) → option_map (λ (b : ℕ × X). b.1) (find (λ b. p b.1) (zip_from n xs)) ≡ find p xs
  found_row n [] = refl
  found_row n (x ∷ xs) = go (p x) (found_row (n + 1) xs)
    where
      go : (b : Bool) → option_map (λ (b : ℕ × X). b.1) (find (λ b. p b.1) (zip_from (n + 1) xs)) ≡ find p xs
          → option_map (λ (b : ℕ × X). b.1) (cond b (Some (n, x)) (find (λ b. p b.1) (zip_from (n + 1) xs))) ≡ cond b (Some x) (find p xs)
      go true later = refl
      go false later = later

  pub found_any : (n : ℕ) (xs : List X) → is_some (find (λ (b : ℕ × X). p b.1) (zip_from n xs)) ≡ list_any p xs
  found_any n [] = refl
  found_any n (x ∷ xs) = go (p x) (found_any (n + 1) xs)
    where
      go : (b : Bool) → is_some (find (λ (b : ℕ × X). p b.1) (zip_from (n + 1) xs)) ≡ list_any p xs
          → is_some (cond b (Some (n, x)) (find (λ (b : ℕ × X). p b.1) (zip_from (n + 1) xs))) ≡ (b || list_any p xs)
      go true later = refl
      go false later = later

pub some_map : {X Y : Type 0} (f : X → Y) (o : Option X) → is_some (option_map f o) ≡ is_some o
some_map f None = refl
some_map f (Some x) = refl

pub map_twice : {X Y Z : Type 0} (g : Y → Z) (f : X → Y) (o : Option X) → option_map g (option_map f o) ≡ option_map (λ x. g (f x)) o
map_twice g f None = refl
map_twice g f (Some x) = refl

pub map_same : {X : Type 0} (o : Option X) → option_map (λ x. x) o ≡ o
map_same None = refl
map_same (Some x) = refl

-- what is found is one of the list
pub found_holds : {X : Type 0} (P : X → Type 0) (p : X → Bool) (xs : List X) → AllByRecursion P xs → IfSome (find p xs) P
found_holds P p [] all = tt
found_holds P p (x ∷ xs) all = go (p x) (found_holds P p xs all.1)
  where
    go : (b : Bool) → IfSome (find p xs) P → IfSome (cond b (Some x) (find p xs)) P
    go true later = all.0
    go false later = later

pub zip_all : {X : Type 0} (P : X → Type 0) (n : ℕ) (xs : List X) → AllByRecursion P xs → AllByRecursion (λ (b : ℕ × X). P b.1) (zip_from n xs)
zip_all P n [] all = tt
zip_all P n (x ∷ xs) all = (all.0, zip_all P (n + 1) xs all.1)

pub mapped_holds : {X Y : Type 0} (P : X → Type 0) (Q : Y → Type 0) (f : X → Y) → ((x : X) → P x → Q (f x)) → (o : Option X) → IfSome o P → IfSome (option_map f o) Q
mapped_holds P Q f each None h = tt
mapped_holds P Q f each (Some x) h = each x h

pub every : {X : Type 0} (xs : List X) → AllByRecursion (λ x. Unit {0}) xs
every [] = tt
every (x ∷ xs) = (tt, every xs)

pub apart_below : (n m : ℕ) → n < m → (m == n) ≡ false
apart_below n m low = false_from_ne_true _ (λ e. let same : m ≡ n = eqb-true m n e in omega (arith, low, same))

pub apart_above : (n m : ℕ) → m < n → (m == n) ≡ false
apart_above n m low = false_from_ne_true _ (λ e. let same : m ≡ n = eqb-true m n e in omega (arith, low, same))

-- by its number
pub found_number : {X : Type 0} (n : ℕ) (xs : List X) → find (λ (b : ℕ × X). b.0 == n) (zip_from 1 xs) ≡ option_map (λ x. (n, x)) (item_at xs n)
found_number zero xs = before 0 1 xs (omega arith)
  where
    before : {X : Type 0} (n m : ℕ) (xs : List X) → n < m → find (λ (b : ℕ × X). b.0 == n) (zip_from m xs) ≡ None
    before n m [] low = refl
    before n m (x ∷ xs) low = rw (apart_below n m low) (before n (m + 1) xs (omega (arith, low)))
found_number (suc k) xs = at 1 (suc k) k xs (omega arith)
  where
    at : {X : Type 0} (m n k : ℕ) (xs : List X) → n ≡ m + k → find (λ (b : ℕ × X). b.0 == n) (zip_from m xs) ≡ option_map (λ x. (n, x)) (slice_get xs k)
    at m n k [] is = refl
    at m n zero (x ∷ xs) is = let same : m ≡ n = omega (arith, is) in rw (eq-eqb m n same) (ap (λ j. Some (j, x)) same)
    at m n (suc k) (x ∷ xs) is = rw (apart_above n m (omega (arith, is))) (at (m + 1) n k xs (omega (arith, is)))

-- two tests that agree on the rows of a list find the same
pub found_same : {X : Type 0} (P : X → Type 0) (p q : X → Bool) → ((x : X) → P x → p x ≡ q x) → (xs : List X) → AllByRecursion P xs → find p xs ≡ find q xs
found_same P p q same [] all = refl
found_same P p q same (x ∷ xs) all = (λ i. cond (same x all.0 i) (Some x) (find p xs)) ∙ ap (λ o. cond (q x) (Some x) o) (found_same P p q same xs all.1)
