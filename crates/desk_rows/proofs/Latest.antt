-- The look-ups of the greatest: the last number of a table, a device's last nonce, a session's last counter.
use Rattle.std.proofs.Common.{◌≡◌, ◌<◌, ◌≤◌, ◌+◌, ◌^◌, ◌==◌, ◌<ℤ◌, ℕ, pos, max, List, [], ◌∷◌, codes, ◌&&◌, true, false, true≢false, map, filter, length, cond, Option, Some, None, option_map, refl, sym, ap, ap₂, subst, ◌∙◌, arith, Bool, Result, Ordering, Less, Equal, Greater, int_cmp}
use Rattle.std.specs.List.{list_all, AllByRecursion}
use Rattle.std.specs.Prelude.{IfSome}
use Rattle.std.specs.Ordering.{is_eq, is_gt, ordering_then, MatchOrdering}
use Rattle.std.specs.Option.{option_map_or}
use Rattle.std.proofs.lemmas.Int.{ints}
use Rattle.std.specs.Cmp.{int_ranks}
use Rattle.sqlite_value.specs.declared.value.Value.TheVariants.{Int}
use Rattle.sqlite_value.specs.declared.keys.Key.{Key}
use Rattle.sqlite_value.specs.Order.{Row}
use Rattle.sqlite_value.proofs.OrderLemmas.{value_cmp-Int}
use Rattle.sqlite_value.specs.declared.keys.Collation.TheVariants.{Binary}
use Rattle.sqlite_sql.specs.declared.ops.BinaryOp.TheVariants.{Compare}
use Rattle.sqlite_sql.specs.declared.ops.CompareOp.TheVariants.{Eq}
use Rattle.sqlite_sql.specs.Term.{op2, Term, lit, col, holds, eval_all}
use Rattle.sqlite_sql.specs.Query.{output, output_cmp}
use Rattle.sqlite_schema.specs.declared.schema.Schema.{Schema}
use Rattle.sqlite.specs.Effect.{Database}
use Rattle.sqlite.specs.Listing.{understood}
use Rattle.sqlite.specs.Program.{overlay}
use Rattle.sqlite.specs.State.{State}
use Rattle.sqlite_tied.specs.Compute.{everything}
use Rattle.sqlite_keyed.specs.Lists.{insert_sorted, sort_by}
use Rattle.sqlite_typed.proofs.AnswerLemmas.{IsNoTie, no_tie_after}
use Rattle.sqlite_typing.specs.Types.{accepts_program}
use Rattle.registry_core.specs.declared.facts.Kind.{Kind}
use Rattle.registry_core.specs.declared.facts.Kind.TheVariants.{Join, Data}
use Rattle.registry_core.specs.declared.facts.Uplink.{Uplink}
use Rattle.registry_core.specs.Derived.{is_data, is_data_of, last_counter}
use Rattle.registry_core.specs.Numbered.{greatest}
use Rattle.registry_core.specs.Ranges.{IsEui}
use Rattle.desk_rows.specs.Calls.{ReadsRows, ReadsOf}
use Rattle.desk_rows.specs.Schema.{session_tree, uplink_tree}
use Rattle.desk_rows.specs.steps.Queries.{Finds}
use Rattle.desk_rows.specs.Rows.{Rows, Holds, SessionRow, IsSession, IsUplink, session_cells, uplink_cells, eui, number, kind_number, table_of, last_number}
use Rattle.desk_rows.specs.declared.faults.RowFault.{RowFault}
pub use Rattle.desk_rows.specs.steps.Latest.{latest}
use Rattle.desk_rows.proofs.Lookups.{IsLookup, IsLookupOf, finds_of, has_schema, says_so}
use Rattle.desk_rows.proofs.Ordered.{Asked, query_of, falling, encode, zip_from, head, first_sorted, map_same, map_twice}
use Rattle.desk_rows.proofs.OrderLemmas.Counting.{filter_alike}
use Rattle.desk_rows.proofs.Terms.{is, same, and_true, number_equal, eui_equal}

-- ---- the first in a falling order is the greatest

module _ {A : Type 0} (cmp : A → A → Ordering) (f : A → ℕ) (above : (a b : A) → is_gt (cmp a b) ≡ true → f a ≤ f b) (below : (a b : A) → is_gt (cmp a b) ≡ false → f b ≤ f a) where
  pub first_greatest : (xs : List A) → option_map f (head (sort_by cmp xs)) ≡ greatest (map f xs)
  first_greatest [] = refl
  first_greatest (x ∷ xs) = go (sort_by cmp xs) (first_greatest xs)
    where
      go : (ys : List A) → option_map f (head ys) ≡ greatest (map f xs) → option_map f (head (insert_sorted cmp x ys)) ≡ Some (option_map_or (max (f x)) (greatest (map f xs)) (f x))
      go [] is = ap (λ o. Some (option_map_or (max (f x)) o (f x))) is
      go (y ∷ ys) is = at (is_gt (cmp x y)) refl ∙ ap (λ o. Some (option_map_or (max (f x)) o (f x))) is
        where
          at : (b : Bool) → is_gt (cmp x y) ≡ b → option_map f (head (cond b (y ∷ insert_sorted cmp x ys) (x ∷ y ∷ ys))) ≡ Some (max (f x) (f y))
          at true gt = ap Some (omega (arith, above x y gt))
          at false le = ap Some (omega (arith, below x y le))

-- by a number that falls, and then by another
abbrev pub falling_by : {A : Type 0} → (A → ℕ) → (A → ℕ) → A → A → Ordering
falling_by f g a b = ordering_then (int_cmp (pos (f b)) (pos (f a))) (ordering_then (int_cmp (pos (g b)) (pos (g a))) Equal)

module _ {A : Type 0} (f g : A → ℕ) where
  pub above_falling : (a b : A) → is_gt (falling_by f g a b) ≡ true → f a ≤ f b
  above_falling a b = go (int_cmp (pos (f b)) (pos (f a))) (int_ranks (pos (f b)) (pos (f a)))
    where
      go : (o : Ordering) → MatchOrdering o (pos (f b) <ℤ pos (f a)) (pos (f b) ≡ pos (f a)) (pos (f a) <ℤ pos (f b)) → is_gt (ordering_then o (ordering_then (int_cmp (pos (g b)) (pos (g a))) Equal)) ≡ true → f a ≤ f b
      go Less rank gt = absurd (true≢false (sym gt))
      go Equal rank gt = omega (arith, ints, rank)
      go Greater rank gt = omega (arith, ints, rank)

  pub below_falling : (a b : A) → is_gt (falling_by f g a b) ≡ false → f b ≤ f a
  below_falling a b = go (int_cmp (pos (f b)) (pos (f a))) (int_ranks (pos (f b)) (pos (f a)))
    where
      go : (o : Ordering) → MatchOrdering o (pos (f b) <ℤ pos (f a)) (pos (f b) ≡ pos (f a)) (pos (f a) <ℤ pos (f b)) → is_gt (ordering_then o (ordering_then (int_cmp (pos (g b)) (pos (g a))) Equal)) ≡ false → f b ≤ f a
      go Less rank le = omega (arith, ints, rank)
      go Equal rank le = omega (arith, ints, rank)
      go Greater rank le = absurd (true≢false le)

  -- no tie where the other number rises
  pub untied_falling : (a b : A) → int_cmp (pos (g a)) (pos (g b)) ≡ Less → IsNoTie (falling_by f g a b)
  untied_falling a b less = no_tie_after (int_cmp (pos (f b)) (pos (f a))) (record { apart = go (int_cmp (pos (g b)) (pos (g a))) (int_ranks (pos (g b)) (pos (g a))) (subst (λ o. MatchOrdering o (pos (g a) <ℤ pos (g b)) (pos (g a) ≡ pos (g b)) (pos (g b) <ℤ pos (g a))) less (int_ranks (pos (g a)) (pos (g b)))) })
    where
      go : (o : Ordering) → MatchOrdering o (pos (g b) <ℤ pos (g a)) (pos (g b) ≡ pos (g a)) (pos (g a) <ℤ pos (g b)) → pos (g a) <ℤ pos (g b) → is_eq (ordering_then o Equal) ≡ false
      go Less rank low = refl
      go Equal rank low = absurd (omega (arith, ints, rank, low))
      go Greater rank low = refl

-- ---- lists

greatest_below : (most : ℕ) (ns : List ℕ) → AllByRecursion (λ n. n < most) ns → IfSome (greatest ns) (λ n. n < most)
greatest_below most [] all = tt
greatest_below most (n ∷ ns) all = go (greatest ns) (greatest_below most ns all.1)
  where
    go : (o : Option ℕ) → IfSome o (λ m. m < most) → option_map_or (max n) o n < most
    go None h = all.0
    go (Some m) h = omega (arith, all.0, h)

module _ {X : Type 0} (f : X → ℕ) (p : X → Bool) where
  pub unnumbered : (n : ℕ) (xs : List X) → map (λ (b : ℕ × X). f b.1) (filter (λ b. p b.1) (zip_from n xs)) ≡ map f (filter p xs)
  unnumbered n [] = refl
  unnumbered n (x ∷ xs) = go (p x) (unnumbered (n + 1) xs)
    where
      go : (t : Bool) → map (λ (b : ℕ × X). f b.1) (filter (λ b. p b.1) (zip_from (n + 1) xs)) ≡ map f (filter p xs)
          → map (λ (b : ℕ × X). f b.1) (cond t ((n, x) ∷ filter (λ b. p b.1) (zip_from (n + 1) xs)) (filter (λ b. p b.1) (zip_from (n + 1) xs))) ≡ map f (cond t (x ∷ filter p xs) (filter p xs))
      go true later = ap (λ l. f x ∷ l) later
      go false later = later

  all_passing : (P : X → Type 0) (most : ℕ) → ((x : X) → P x → f x < most) → (xs : List X) → AllByRecursion P xs → AllByRecursion (λ n. n < most) (map f (filter p xs))
  all_passing P most each [] all = tt
  all_passing P most each (x ∷ xs) all = go (p x) (all_passing P most each xs all.1)
    where
      go : (t : Bool) → AllByRecursion (λ n. n < most) (map f (filter p xs)) → AllByRecursion (λ n. n < most) (map f (cond t (x ∷ filter p xs) (filter p xs)))
      go true later = (each x all.0, later)
      go false later = later

numbers_of : {X : Type 0} (n : ℕ) (x : X) (xs : List X) → greatest (map (λ (b : ℕ × X). b.0) (filter (λ b. true) (zip_from n (x ∷ xs)))) ≡ Some (n + length xs)
numbers_of n x [] = ap Some (omega arith)
numbers_of n x (y ∷ xs) = ap (λ o. Some (option_map_or (max n) o n)) (numbers_of (n + 1) y xs) ∙ ap Some (omega arith)

last_is : {X : Type 0} (xs : List X) → greatest (map (λ (b : ℕ × X). b.0) (filter (λ b. true) (zip_from 1 xs))) ≡ last_number xs
last_is [] = refl
last_is (x ∷ xs) = numbers_of 1 x xs

-- ---- the one lemma of these look-ups: `f` is the key, and `show` how a row shows it

module _ {desk : Schema} (Have : Database → Rows → Type 0) (schema : (db : Database) (r : Rows) → Have db r → db.schema ≡ desk)
    {sql : List ℕ} {many tree : ℕ} {terms project : List Term} {order : List (Term × Key)} (text : IsLookupOf desk sql many (latest tree terms project order)) (params : Row) {old new : State}
    (many_is : many ≡ length params) (typed : accepts_program desk [] (query_of (latest tree terms project order)) params ≡ true)
    {X : Type 0} (cells : X → Row) (xs : Rows → List X) (stored : (r : Rows) → Have old.now r → overlay old.now.trees [] tree ≡ table_of cells (xs r))
    (p : ℕ × X → Bool) (tests : (b : ℕ × X) → list_all (holds (params ∷ encode cells b ∷ [])) terms ≡ p b)
    (f : ℕ × X → ℕ) (shown : (b : ℕ × X) → eval_all project (params ∷ encode cells b ∷ []) ≡ number (f b) ∷ [])
    (orders : (b c : ℕ × X) → output_cmp (query_of (latest tree terms project order)) (output (query_of (latest tree terms project order)) (params ∷ encode cells b ∷ []))
    (output (query_of (latest tree terms project order)) (params ∷ encode cells c ∷ [])) ≡ falling_by f (λ (b : ℕ × X). b.0) b c) where
  pub greatest_found : {result : Result (Option ℕ) RowFault} (Fits : ℕ → Type 0) → ((r : Rows) → Have old.now r → IfSome (greatest (map f (filter p (zip_from 1 (xs r))))) Fits)
      → Finds sql params old new (λ n. n) (λ n. number n ∷ []) Fits result → ReadsOf desk Have old new result (λ r n. n ≡ greatest (map f (filter p (zip_from 1 (xs r)))))
  greatest_found {result} Fits fits found = says_so (finds_of text Have schema params old new found.answer found.run many_is typed result found.is_read _
      (λ r has. (
        fits r has,
        λ rows answer. first_sorted (latest tree terms project order) (overlay old.now.trees []) cells (xs r) (stored r has) params p tests (λ b. number (f b) ∷ []) shown (falling_by f (λ (b : ℕ × X). b.0)) (untied_falling f (λ (b : ℕ × X). b.0)) orders rows answer
            ∙ sym (map_twice (λ n. number n ∷ []) f (head (sort_by (falling_by f (λ (b : ℕ × X). b.0)) (filter p (zip_from 1 (xs r))))))
            ∙ ap (option_map (λ n. number n ∷ [])) (first_greatest (falling_by f (λ (b : ℕ × X). b.0)) f (above_falling f (λ (b : ℕ × X). b.0)) (below_falling f (λ (b : ℕ × X). b.0)) (filter p (zip_from 1 (xs r)))),
      )))
      (λ r has n is. sym (map_same n) ∙ is)

-- ---- the last number of a table

-- the rowid of the row whose rowid is the greatest
abbrev pub last_of : (tree : ℕ) → Asked (tree ∷ [])
last_of tree = latest tree [] (col 1 0 ∷ []) ((col 1 0, falling) ∷ [])

-- one falling key is two, the same again
once : (a b : ℕ) → ordering_then (int_cmp (pos b) (pos a)) Equal ≡ ordering_then (int_cmp (pos b) (pos a)) (ordering_then (int_cmp (pos b) (pos a)) Equal)
once a b = go (int_cmp (pos b) (pos a)) refl
  where
    go : (o : Ordering) → int_cmp (pos b) (pos a) ≡ o → ordering_then o Equal ≡ ordering_then o (ordering_then (int_cmp (pos b) (pos a)) Equal)
    go Less is = refl
    go Equal is = sym (ap (λ u. ordering_then u Equal) is)
    go Greater is = refl

pub any : (o : Option ℕ) → IfSome o (λ n. Unit {0})
any None = tt
any (Some n) = tt

module _ {desk : Schema} (Have : Database → Rows → Type 0) (schema : (db : Database) (r : Rows) → Have db r → db.schema ≡ desk)
    {sql : List ℕ} {tree : ℕ} (text : IsLookupOf desk sql 0 (last_of tree)) (typed : accepts_program desk [] (query_of (last_of tree)) [] ≡ true)
    {X : Type 0} (cells : X → Row) (xs : Rows → List X) {old new : State} (stored : (r : Rows) → Have old.now r → overlay old.now.trees [] tree ≡ table_of cells (xs r)) where
  pub reads_last : {result : Result (Option ℕ) RowFault} → Finds sql [] old new (λ n. n) (λ n. number n ∷ []) (λ n. Unit {0}) result → ReadsOf desk Have old new result (λ r n. n ≡ last_number (xs r))
  reads_last found = says_so
      (greatest_found Have schema text [] refl typed cells xs stored (λ b. true) (λ b. refl) (λ b. b.0) (λ b. refl)
      (λ b c. ap (λ o. ordering_then o Equal) (value_cmp-Int (pos c.0) (pos b.0)) ∙ once b.0 c.0) (λ _. Unit {0}) (λ r has. any _) found)
      (λ r has n is. is ∙ last_is (xs r))

-- ---- the last nonce of a device, the last counter of a session

abbrev last_nonce_text : List ℕ
last_nonce_text = codes "SELECT nonce FROM session WHERE device = ?1 ORDER BY nonce DESC, number DESC LIMIT 1"

last_nonce_lookup : IsLookup last_nonce_text 1 (latest session_tree (is 2 0 ∷ []) (col 1 3 ∷ []) ((col 1 3, falling) ∷ (col 1 0, falling) ∷ []))
unfolding understood everything
last_nonce_lookup = record { names = _; compiled = _; means = refl; command = refl; plain = (refl, refl); whole = omega arith; given = refl; unlisted = refl }

abbrev last_counter_text : List ℕ
last_counter_text = codes "SELECT counter FROM uplink WHERE session = ?1 AND kind = 1 ORDER BY counter DESC, number DESC LIMIT 1"

last_counter_lookup : IsLookup last_counter_text 1 (latest uplink_tree (is 2 0 ∷ op2 (Compare Eq Binary) (col 1 3) (lit (Int (pos 1))) ∷ []) (col 1 4 ∷ []) ((col 1 4, falling) ∷ (col 1 0, falling) ∷ []))
unfolding understood everything
last_counter_lookup = record { names = _; compiled = _; means = refl; command = refl; plain = (refl, refl); whole = omega arith; given = refl; unlisted = refl }

-- a kind that is 1 is that of data
data_kind : (k : Kind) → (kind_number k == 1) ≡ is_data k
data_kind Join = refl
data_kind Data = refl

abbrev of_session : ℕ → Uplink → Bool
of_session session u = u.session == session && is_data u.kind

turned : (a b : Bool) → (a && b) ≡ (b && a)
turned true true = refl
turned true false = refl
turned false true = refl
turned false false = refl

abbrev of_device : ℕ → SessionRow → Bool
of_device device s = same (eui s.session.device) (eui device)

module _ {old new : State} where
  pub reads_last_nonce : (device : ℕ) → IsEui device → {result : Result (Option ℕ) RowFault} → Finds last_nonce_text (eui device ∷ []) old new (λ n. n) (λ n. number n ∷ []) (λ n. n < 2 ^ 16) result
      → ReadsRows old new result (λ r nonce. nonce ≡ greatest (map (λ (s : SessionRow). s.session.nonce) (filter (λ (s : SessionRow). s.session.device == device) r.sessions)))
  reads_last_nonce device in_range found = says_so
      (greatest_found Holds has_schema last_nonce_lookup (eui device ∷ []) refl refl session_cells (λ r. r.sessions) (λ r has. has.ten.session) (λ b. of_device device b.1) (λ b. and_true (of_device device b.1)) (λ b. b.1.session.nonce) (λ b. refl)
      (λ b c. ap₂ (λ u v. ordering_then u (ordering_then v Equal)) (value_cmp-Int (pos c.1.session.nonce) (pos b.1.session.nonce)) (value_cmp-Int (pos c.0) (pos b.0))) (λ n. n < 2 ^ 16)
      (λ r has. subst (λ o. IfSome o (λ n. n < 2 ^ 16)) (sym (ap greatest (unnumbered (λ (s : SessionRow). s.session.nonce) (of_device device) 1 r.sessions)))
      (greatest_below (2 ^ 16) _ (all_passing (λ (s : SessionRow). s.session.nonce) (of_device device) IsSession (2 ^ 16) (λ s fits. fits.nonce) r.sessions has.ten.in_range.sessions))) found)
      (λ r has n is. is ∙ ap greatest (unnumbered (λ (s : SessionRow). s.session.nonce) (of_device device) 1 r.sessions
      ∙ ap (map (λ (s : SessionRow). s.session.nonce)) (filter_alike IsSession (of_device device) (λ s. s.session.device == device) (λ s fits. eui_equal s.session.device device fits.device in_range) r.sessions has.ten.in_range.sessions)))

  pub reads_last_counter : (session : ℕ) → {result : Result (Option ℕ) RowFault} → Finds last_counter_text (number session ∷ []) old new (λ n. n) (λ n. number n ∷ []) (λ n. n < 2 ^ 32) result
      → ReadsRows old new result (λ r counter. counter ≡ last_counter r.uplinks session)
  reads_last_counter session found = says_so
      (greatest_found Holds has_schema last_counter_lookup (number session ∷ []) refl refl uplink_cells (λ r. r.uplinks) (λ r has. has.ten.uplink) (λ b. of_session session b.1)
      (λ b. ap₂ (λ s t. s && (t && true)) (number_equal b.1.session session) (number_equal (kind_number b.1.kind) 1 ∙ data_kind b.1.kind) ∙ ap (λ t. (b.1.session == session) && t) (and_true (is_data b.1.kind))) (λ b. b.1.counter) (λ b. refl)
      (λ b c. ap₂ (λ u v. ordering_then u (ordering_then v Equal)) (value_cmp-Int (pos c.1.counter) (pos b.1.counter)) (value_cmp-Int (pos c.0) (pos b.0))) (λ n. n < 2 ^ 32)
      (λ r has. subst (λ o. IfSome o (λ n. n < 2 ^ 32)) (sym (ap greatest (unnumbered (λ (u : Uplink). u.counter) (of_session session) 1 r.uplinks)))
      (greatest_below (2 ^ 32) _ (all_passing (λ (u : Uplink). u.counter) (of_session session) IsUplink (2 ^ 32) (λ u fits. fits.counter) r.uplinks has.ten.in_range.uplinks))) found)
      (λ r has n is. is ∙ ap greatest (unnumbered (λ (u : Uplink). u.counter) (of_session session) 1 r.uplinks
      ∙ ap (map (λ (u : Uplink). u.counter)) (filter_alike IsUplink (of_session session) (is_data_of session) (λ u fits. turned (u.session == session) (is_data u.kind)) r.uplinks has.ten.in_range.uplinks)))
