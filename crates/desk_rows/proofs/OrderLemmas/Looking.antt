-- What look-ups in the rows return, by the facts: counters, last ones, numbers, frames.
use Rattle.std.proofs.Common.{◌≡◌, ℕ, zero, suc, ◌+◌, ◌<◌, ◌≤◌, ◌==◌, ◌&&◌, ◌||◌, Bool, true, false, cond, List, [], ◌∷◌, map, filter, find, length, Option, Some, None, option_map, slice_get, refl, ap, ap₂, ◌∙◌, arith, Ordering}
use Rattle.std.specs.Prelude.{max, nat_lt}
use Rattle.std.specs.List.{list_any}
use Rattle.std.specs.Option.{option_map_or}
use Rattle.std.specs.Ordering.{is_gt}
use Rattle.std.proofs.lemmas.Bool.{eq-eqb, le-ltb, lt-ltb, ltb-false, ltb-true, ne_eqb}
use Rattle.registry_core.specs.declared.facts.Session.{Session}
use Rattle.registry_core.specs.declared.facts.Uplink.{Uplink}
use Rattle.registry_core.specs.Derived.{is_below, is_below_floor, is_data, is_of_device, is_session_of, last_nonce}
use Rattle.registry_core.specs.Numbered.{first_from, greatest, item_at}
use Rattle.sqlite_keyed.specs.Lists.{insert_sorted, sort_by}
use Rattle.desk_rows.specs.Rows.{SessionRow}
use Rattle.desk_rows.specs.order.Facts.{sessions_in}
use Rattle.desk_rows.specs.order.LookUps.{Falls, first_by, first_number, row_at, zip_from}
use Rattle.desk_rows.specs.order.RowsOf.{floor_of, is_data_from}

-- ---- the floor

below_max : (n m : ℕ) (rest : Option ℕ) → is_below n (Some (option_map_or (max m) rest m)) ≡ (nat_lt n m || is_below n rest)
below_max n m None = or_none (nat_lt n m)
  where
    or_none : (b : Bool) → b ≡ (b || false)
    or_none true = refl
    or_none false = refl
below_max n m (Some r) = by (nat_lt n m) (nat_lt n r) refl refl
  where
    by : (a b : Bool) → nat_lt n m ≡ a → nat_lt n r ≡ b → nat_lt n (max m r) ≡ (a || b)
    by true b is js = let low : n < m = ltb-true n m is in lt-ltb n (max m r) (omega arith)
    by false true is js = let low : n < r = ltb-true n r js in lt-ltb n (max m r) (omega arith)
    by false false is js = let a : m ≤ n = ltb-false n m is in let b : r ≤ n = ltb-false n r js in le-ltb n (max m r) (omega arith)

-- some uplink that passes is above a number exactly where the greatest is
module _ {X : Type 0} (f : X → ℕ) (p : X → Bool) (n : ℕ) where
  below_by : (x : X) (kept : List X) (any b : Bool) → is_below n (greatest (map f kept)) ≡ any
      → is_below n (greatest (map f (cond b (x ∷ kept) kept))) ≡ ((b && nat_lt n (f x)) || any)
  below_by x kept any true rest = below_max n (f x) (greatest (map f kept)) ∙ ap (λ c. nat_lt n (f x) || c) rest
  below_by x kept any false rest = rest

  below_greatest : (xs : List X) → is_below n (greatest (map f (filter p xs))) ≡ list_any (λ x. p x && nat_lt n (f x)) xs
  below_greatest [] = refl
  below_greatest (x ∷ xs) = below_by x (filter p xs) (list_any (λ y. p y && nat_lt n (f y)) xs) (p x) (below_greatest xs)

pub any_alike : {X : Type 0} (p q : X → Bool) → ((x : X) → p x ≡ q x) → (xs : List X) → list_any p xs ≡ list_any q xs
any_alike p q same [] = refl
any_alike p q same (x ∷ xs) = ap₂ (λ a b. a || b) (same x) (any_alike p q same xs)

pub below_floor : (uplinks : List Uplink) (sessions : List Session) (dev_eui n : ℕ)
    → is_below n (floor_of uplinks sessions dev_eui) ≡ is_below_floor uplinks sessions dev_eui n
below_floor uplinks sessions dev_eui n =
    below_greatest (λ (u : Uplink). u.session) (is_data_from sessions dev_eui) n uplinks
    ∙ any_alike _ _ (λ (u : Uplink). turned (is_data u.kind) (is_of_device sessions dev_eui u.session) (nat_lt n u.session)) uplinks
  where
    turned : (a b c : Bool) → ((a && b) && c) ≡ ((a && c) && b)
    turned true true true = refl
    turned true true false = refl
    turned true false true = refl
    turned true false false = refl
    turned false b c = refl

-- ---- rows that are shown otherwise

shown_kept : {X Y Z : Type 0} (f : X → Y) (g : Y → Z) (x : X) (kept : List X) (more : List Y) (b : Bool) → map (λ x. g (f x)) kept ≡ map g more
    → map (λ x. g (f x)) (cond b (x ∷ kept) kept) ≡ map g (cond b (f x ∷ more) more)
shown_kept f g x kept more true rest = ap (λ zs. g (f x) ∷ zs) rest
shown_kept f g x kept more false rest = rest

-- rows without their numbers
zipped_kept : {X Z : Type 0} (g : X → Z) (n : ℕ) (x : X) (kept : List (ℕ × X)) (more : List X) (b : Bool) → map (λ a. g a.1) kept ≡ map g more
    → map (λ a. g a.1) (cond b ((n, x) ∷ kept) kept) ≡ map g (cond b (x ∷ more) more)
zipped_kept g n x kept more true rest = ap (λ zs. g x ∷ zs) rest
zipped_kept g n x kept more false rest = rest

pub zipped_shown : {X Z : Type 0} (g : X → Z) (test : X → Bool) (n : ℕ) (xs : List X)
    → map (λ a. g a.1) (filter (λ a. test a.1) (zip_from n xs)) ≡ map g (filter test xs)
zipped_shown g test n [] = refl
zipped_shown g test n (x ∷ xs) = zipped_kept g n x _ _ (test x) (zipped_shown g test (n + 1) xs)

-- a filter of rows by what they show
pub filter_shown : {X Y Z : Type 0} (f : X → Y) (g : Y → Z) (p : Y → Bool) (xs : List X)
    → map (λ x. g (f x)) (filter (λ x. p (f x)) xs) ≡ map g (filter p (map f xs))
filter_shown f g p [] = refl
filter_shown f g p (x ∷ xs) = shown_kept f g x _ _ (p (f x)) (filter_shown f g p xs)

-- ---- the first in falling order

module _ {A : Type 0} (key : A → ℕ) (order : A → A → Ordering) (falls : Falls key order) where
  inserted_by : (a b : A) (bs : List A) (t : Bool) → is_gt (order a b) ≡ t
      → option_map key (slice_get (cond t (b ∷ insert_sorted order a bs) (a ∷ b ∷ bs)) 0) ≡ Some (max (key a) (key b))
  inserted_by a b bs true is = let low : key a ≤ key b = falls.after a b is in ap Some (omega arith)
  inserted_by a b bs false is = let low : key b ≤ key a = falls.before a b is in ap Some (omega arith)

  inserted : (a : A) (bs : List A)
      → option_map key (slice_get (insert_sorted order a bs) 0) ≡ Some (option_map_or (max (key a)) (option_map key (slice_get bs 0)) (key a))
  inserted a [] = refl
  inserted a (b ∷ bs) = inserted_by a b bs (is_gt (order a b)) refl

  -- the key of the first row in falling order is the greatest
  pub first_greatest : (rows : List A) → option_map key (slice_get (sort_by order rows) 0) ≡ greatest (map key rows)
  first_greatest [] = refl
  first_greatest (a ∷ rows) = inserted a (sort_by order rows) ∙ ap (λ rest. Some (option_map_or (max (key a)) rest (key a))) (first_greatest rows)

pub first_falling : {X : Type 0} (key : X → ℕ) (order : ℕ × X → ℕ × X → Ordering) → Falls (λ a. key a.1) order → (test : X → Bool) (rows : List X)
    → first_by key order test rows ≡ greatest (map key (filter test rows))
first_falling key order falls test rows =
    first_greatest (λ a. key a.1) order falls (filter (λ row. test row.1) (zip_from 1 rows)) ∙ ap greatest (zipped_shown key test 1 rows)

-- the last number is how many there are
last_by : (n : ℕ) (m : ℕ) (rest : Option ℕ) → rest ≡ Some (n + 1 + m) → Some (option_map_or (max n) rest n) ≡ Some (n + suc m)
last_by n m rest is = ap (λ o. Some (option_map_or (max n) o n)) is ∙ ap Some (omega arith)

last_zipped : {X : Type 0} (n : ℕ) (x : X) (xs : List X) → greatest (map (λ (a : ℕ × X). a.0) (zip_from n (x ∷ xs))) ≡ Some (n + length xs)
last_zipped n x [] = ap Some (omega arith)
last_zipped n x (y ∷ ys) = last_by n (length ys) _ (last_zipped (n + 1) y ys)

pub last_number : {X : Type 0} (order : ℕ × X → ℕ × X → Ordering) → Falls (λ (a : ℕ × X). a.0) order → (rows : List X) → first_number order rows ≡ length rows
last_number order falls [] = refl
last_number {X} order falls (x ∷ xs) = shown (slice_get (sort_by order (zip_from 1 (x ∷ xs))) 0)
    (first_greatest (λ (a : ℕ × X). a.0) order falls (zip_from 1 (x ∷ xs)) ∙ last_zipped 1 x xs)
  where
    shown : (found : Option (ℕ × X)) → option_map (λ (a : ℕ × X). a.0) found ≡ Some (1 + length xs)
        → option_map_or (λ (a : ℕ × X). a.0) found 0 ≡ suc (length xs)
    shown None is = let no : None ≡ Some (1 + length xs) = is in cc
    shown (Some a) is = let same : a.0 ≡ 1 + length xs = cc in omega arith

-- ---- the row with a key or a number

-- the first that passes is found with its number
pub first_zipped : {X : Type 0} (test : X → Bool) (n : ℕ) (xs : List X) → find (λ (a : ℕ × X). test a.1) (zip_from n xs) ≡ first_from n test xs
first_zipped test n [] = refl
first_zipped test n (x ∷ xs) = ap (λ rest. cond (test x) (Some (n, x)) rest) (first_zipped test (n + 1) xs)

none_zipped : {X : Type 0} (m n : ℕ) (xs : List X) → m < n → find (λ (a : ℕ × X). a.0 == m) (zip_from n xs) ≡ None
none_zipped m n [] less = refl
none_zipped {X} m n (x ∷ xs) less =
    ap (λ b. cond b (Some (n, x)) (find (λ (a : ℕ × X). a.0 == m) (zip_from (n + 1) xs))) (ne_eqb n m (λ same. omega arith))
    ∙ none_zipped m (n + 1) xs (omega arith)

at_zipped : {X : Type 0} (n k m : ℕ) (xs : List X) → m ≡ n + k
    → option_map (λ (a : ℕ × X). a.1) (find (λ (a : ℕ × X). a.0 == m) (zip_from n xs)) ≡ slice_get xs k
at_zipped n k m [] is = refl
at_zipped {X} n zero m (x ∷ xs) is =
    ap (λ b. option_map (λ (a : ℕ × X). a.1) (cond b (Some (n, x)) (find (λ (a : ℕ × X). a.0 == m) (zip_from (n + 1) xs)))) (eq-eqb n m (omega arith))
at_zipped {X} n (suc k) m (x ∷ xs) is =
    ap (λ b. option_map (λ (a : ℕ × X). a.1) (cond b (Some (n, x)) (find (λ (a : ℕ × X). a.0 == m) (zip_from (n + 1) xs)))) (ne_eqb n m (λ same. omega arith))
    ∙ at_zipped (n + 1) k m xs (omega arith)

pub row_numbered : {X : Type 0} (n : ℕ) (xs : List X) → row_at n xs ≡ item_at xs n
row_numbered {X} zero xs = ap (option_map (λ (a : ℕ × X). a.1)) (none_zipped 0 1 xs (omega arith))
row_numbered (suc k) xs = at_zipped 1 k (suc k) xs (omega arith)

-- ---- rows by what they show

pub nonces_shown : (sessions : List SessionRow) (dev_eui : ℕ)
    → greatest (map (λ (s : SessionRow). s.session.nonce) (filter (λ (s : SessionRow). s.session.device == dev_eui) sessions))
    ≡ last_nonce (sessions_in sessions) dev_eui
nonces_shown sessions dev_eui = ap greatest (filter_shown (λ (s : SessionRow). s.session) (λ (s : Session). s.nonce) (is_session_of dev_eui) sessions)

pub any_shown : {X Y : Type 0} (f : X → Y) (p : Y → Bool) (xs : List X) → list_any (λ x. p (f x)) xs ≡ list_any p (map f xs)
any_shown f p [] = refl
any_shown f p (x ∷ xs) = ap (λ b. p (f x) || b) (any_shown f p xs)
