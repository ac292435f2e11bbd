-- The uplink of a frame by its session, kind and counter, and a join's session by its device and nonce.
use Rattle.std.proofs.Common.{◌≡◌, ℕ, zero, suc, ◌+◌, ◌==◌, ◌&&◌, Bool, true, false, cond, List, [], ◌∷◌, Option, Some, None, option_map, option_and_then, slice_get, refl, sym, ap, ◌∙◌, inl, inr, arith}
use Rattle.std.specs.List.{AllByRecursion}
use Rattle.std.specs.Option.{option_map_or}
use Rattle.std.specs.Cmp.{both_ways as same_tests}
use Rattle.std.proofs.lemmas.Bool.{and_from, and_parts, and_right, both_ways, cases_order, eq-eqb, eqb-true, false_from_ne_true}
use Rattle.std.proofs.Math.Bool.{and_assoc}
use Rattle.registry_core.specs.declared.facts.Kind.{Kind}
use Rattle.registry_core.specs.declared.facts.Kind.TheVariants.{Join, Data}
use Rattle.registry_core.specs.declared.facts.Session.{Session}
use Rattle.registry_core.specs.declared.facts.Uplink.{Uplink}
use Rattle.registry_core.specs.Derived.{data_with, is_data, is_data_of, is_data_with, is_join, is_join_with, is_of_device, is_session_of, join_with}
use Rattle.registry_core.specs.Numbered.{first_from, first_that}
use Rattle.desk_rows.specs.Rows.{Rows, SessionRow, kind_number, is_session, is_uplink}
use Rattle.desk_rows.specs.order.Facts.{sessions_in}
use Rattle.desk_rows.specs.order.LookUps.{is_data_row, row_with, uplink_joined}
use Rattle.desk_rows.specs.order.RowsOf.{IsKeyed, IsOfSession, NamesRows, same_join}
use Rattle.desk_rows.proofs.OrderLemmas.Each.{apart_at}
use Rattle.desk_rows.proofs.OrderLemmas.Looking.{first_zipped}
use Rattle.desk_rows.proofs.OrderLemmas.Numbering.{item_at-map, item_place, row_there}
use Rattle.desk_rows.proofs.Ordered.{every}

-- ---- the first that passes

first_by : {X : Type 0} (first : ℕ) (x : X) (b c : Bool) (p q : Option (ℕ × X)) → b ≡ c → p ≡ q → cond b (Some (first, x)) p ≡ cond c (Some (first, x)) q
first_by first x b c p q same rest = λ i. cond (same i) (Some (first, x)) (rest i)

-- two tests that each item passes alike
first_alike : {X : Type 0} (P : X → Type 0) (p q : X → Bool) → ((x : X) → P x → p x ≡ q x) → (first : ℕ) (xs : List X) → AllByRecursion P xs
    → first_from first p xs ≡ first_from first q xs
first_alike P p q same first [] each = refl
first_alike P p q same first (x ∷ xs) each = first_by first x (p x) (q x) _ _ (same x each.0) (first_alike P p q same (first + 1) xs each.1)

first_none : {X : Type 0} (first : ℕ) (xs : List X) → first_from first (λ x. false) xs ≡ None
first_none first [] = refl
first_none first (x ∷ xs) = first_none (first + 1) xs

-- what is found has its number and passes; where none is found, none passes
found_by : {X : Type 0} (p : X → Bool) (first n : ℕ) (y x : X) (ys : List X) (b : Bool) → p y ≡ b
    → (first_from (first + 1) p ys ≡ Some (n, x) → (k : ℕ) × (n ≡ (first + 1) + k) × (slice_get ys k ≡ Some x) × (p x ≡ true))
    → cond b (Some (first, y)) (first_from (first + 1) p ys) ≡ Some (n, x) → (k : ℕ) × (n ≡ first + k) × (slice_get (y ∷ ys) k ≡ Some x) × (p x ≡ true)
found_by {X} p first n y x ys true here rest is =
    let same : ◌≡◌ {A = ℕ × X} (first, y) (n, x) = cc in
    let number : first ≡ n = ap (λ (f : ℕ × X). f.0) same in
    let item : y ≡ x = ap (λ (f : ℕ × X). f.1) same in
    let place : n ≡ first + 0 = omega arith in
    (0, place, ap Some item, ap p (sym item) ∙ here)
found_by p first n y x ys false here rest is =
    let found = rest is in
    let place : n ≡ first + suc found.0 = omega (arith, found.1) in
    (suc found.0, place, found.2, found.3)

found_from : {X : Type 0} (p : X → Bool) (first : ℕ) (xs : List X) (n : ℕ) (x : X) → first_from first p xs ≡ Some (n, x)
    → (k : ℕ) × (n ≡ first + k) × (slice_get xs k ≡ Some x) × (p x ≡ true)
found_from {X} p first [] n x is = let no : ◌≡◌ {A = Option (ℕ × X)} None (Some (n, x)) = is in cc
found_from p first (y ∷ ys) n x is = found_by p first n y x ys (p y) refl (found_from p (first + 1) ys n x) is

none_by : {X : Type 0} (p : X → Bool) (first : ℕ) (y : X) (b : Bool) (rest : Option (ℕ × X)) → p y ≡ b → cond b (Some (first, y)) rest ≡ None
    → (p y ≡ false) × (rest ≡ None)
none_by {X} p first y true rest here is = let no : ◌≡◌ {A = Option (ℕ × X)} (Some (first, y)) None = is in cc
none_by p first y false rest here is = (here, is)

none_from : {X : Type 0} (p : X → Bool) (first : ℕ) (xs : List X) → first_from first p xs ≡ None → (k : ℕ) (x : X) → slice_get xs k ≡ Some x → p x ≡ false
none_from p first [] is k x at = let no : None ≡ Some x = at in cc
none_from p first (y ∷ ys) is zero x at =
    let same : y ≡ x = cc in
    ap p (sym same) ∙ (none_by p first y (p y) (first_from (first + 1) p ys) refl is).0
none_from p first (y ∷ ys) is (suc k) x at = none_from p (first + 1) ys (none_by p first y (p y) (first_from (first + 1) p ys) refl is).1 k x at

-- ---- data

pub data_row_alike : (n : ℕ) (u : Uplink) (k : Kind) → u.kind ≡ k → is_data_row n u ≡ is_data_of n u
data_row_alike n u Join is = and_right (u.session == n) _ (ap (λ k. kind_number k == 1) is) ∙ sym (ap (λ k. is_data k && u.session == n) is)
data_row_alike n u Data is = ap (λ k. u.session == n && kind_number k == 1) is ∙ true_last (u.session == n) ∙ ap (λ k. is_data k && u.session == n) (sym is)
  where
    true_last : (b : Bool) → (b && true) ≡ b
    true_last true = refl
    true_last false = refl

pub data_found : (uplinks : List Uplink) (n counter : ℕ) → row_with (is_uplink n Data counter) uplinks ≡ data_with uplinks n counter
data_found uplinks n counter = first_zipped (is_uplink n Data counter) 1 uplinks ∙
    first_alike (λ u. Unit {0}) (is_uplink n Data counter) (is_data_with n counter)
    (λ u done. sym (and_assoc (u.session == n) (kind_number u.kind == 1) (u.counter == counter))
    ∙ ap (λ b. b && u.counter == counter) (data_row_alike n u u.kind refl)) 1 uplinks (every uplinks)

-- ---- joins

kind_by : (k : Kind) → (kind_number k == 0) ≡ true → k ≡ Join
kind_by Join is = refl
kind_by Data is = let no : false ≡ true = is in cc

join_by : (k : Kind) → is_join k ≡ true → k ≡ Join
join_by Join is = refl
join_by Data is = let no : false ≡ true = is in cc

module _ (r : Rows) (names : NamesRows r) (keyed : IsKeyed r) (dev_eui nonce : ℕ) where
  abbrev sessions : List Session
  sessions = sessions_in r.sessions

  -- the session's row of a join of the device with the nonce
  joined_row : (u : Uplink) (of : IsOfSession sessions u) → is_join_with sessions dev_eui nonce u ≡ true
      → (k : ℕ) × (row : SessionRow) × (u.session ≡ suc k) × (slice_get r.sessions k ≡ Some row) × (row.session ≡ of.session) ×
      (is_session dev_eui nonce row ≡ true)
  joined_row u of is =
      let outer = and_parts (is_join u.kind && is_of_device sessions dev_eui u.session) (u.counter == nonce) is in
      let inner = and_parts (is_join u.kind) (is_of_device sessions dev_eui u.session) outer.0 in
      let own : (of.session.device == dev_eui) ≡ true = sym (ap (λ found. option_map_or (is_session_of dev_eui) found false) of.there) ∙ inner.1 in
      let same : of.session.nonce ≡ nonce = of.nonce (join_by u.kind inner.0) ∙ eqb-true u.counter nonce outer.1 in
      let row = row_there (λ (s : SessionRow). s.session) r.sessions u.session of.session of.there in
      let at = item_place r.sessions u.session row.0 row.1 in (
        at.0,
        row.0,
        at.1,
        at.2,
        row.2,
        and_from _ _ (ap (λ (s : Session). s.device == dev_eui) row.2 ∙ own) (ap (λ (s : Session). s.nonce == nonce) row.2
            ∙ eq-eqb of.session.nonce nonce same),
      )

  none_joined : first_that (is_session dev_eui nonce) r.sessions ≡ None → join_with r.uplinks sessions dev_eui nonce ≡ None
  none_joined none =
      first_alike (IsOfSession sessions) (is_join_with sessions dev_eui nonce) (λ u. false)
      (λ u of. false_from_ne_true _
      (λ is. let row = joined_row u of is in both_ways _ (none_from (is_session dev_eui nonce) 1 r.sessions none row.0 row.1 row.3) row.5))
      1 r.uplinks names.uplinks
      ∙ first_none 1 r.uplinks

  module _ (s : SessionRow) (k : ℕ) (at_k : slice_get r.sessions k ≡ Some s) (has : is_session dev_eui nonce s ≡ true) where
    shown_at : slice_get sessions k ≡ Some s.session
    shown_at = item_at-map (λ (x : SessionRow). x.session) r.sessions (suc k) ∙ ap (option_map (λ (x : SessionRow). x.session)) at_k

    same_place : (m : ℕ) (row : SessionRow) → slice_get r.sessions m ≡ Some row → is_session dev_eui nonce row ≡ true → m ≡ k
    same_place m row at_m is =
        let a = and_parts (s.session.device == dev_eui) (s.session.nonce == nonce) has in
        let b = and_parts (row.session.device == dev_eui) (row.session.nonce == nonce) is in
        let device : s.session.device ≡ row.session.device = eqb-true _ _ a.0 ∙ sym (eqb-true _ _ b.0) in
        let number : s.session.nonce ≡ row.session.nonce = eqb-true _ _ a.1 ∙ sym (eqb-true _ _ b.1) in
        let shown : slice_get sessions m ≡ Some row.session = item_at-map (λ (x : SessionRow). x.session) r.sessions (suc m)
        ∙ ap (option_map (λ (x : SessionRow). x.session)) at_m in
        elim (cases_order m k) [
          | inl same ↦ same
          | inr (inl less) ↦ absurd (both_ways _ (apart_at same_join sessions m k row.session s.session keyed.sessions shown shown_at less)
              (and_from _ _ (eq-eqb _ _ (sym device)) (eq-eqb _ _ (sym number))))
          | inr (inr more) ↦ absurd (both_ways _ (apart_at same_join sessions k m s.session row.session keyed.sessions shown_at shown more)
              (and_from _ _ (eq-eqb _ _ device) (eq-eqb _ _ number)))
        ]

    is_joined : (u : Uplink) → IsOfSession sessions u → is_uplink (suc k) Join nonce u ≡ true → is_join_with sessions dev_eui nonce u ≡ true
    is_joined u of is =
        let outer = and_parts (u.session == suc k) (kind_number u.kind == 0 && u.counter == nonce) is in
        let inner = and_parts (kind_number u.kind == 0) (u.counter == nonce) outer.1 in
        let number : u.session ≡ suc k = eqb-true u.session (suc k) outer.0 in
        let own : is_of_device sessions dev_eui u.session ≡ true =
        ap (is_of_device sessions dev_eui) number ∙ ap (λ found. option_map_or (is_session_of dev_eui) found false) shown_at
        ∙ (and_parts (s.session.device == dev_eui) (s.session.nonce == nonce) has).0 in
        and_from _ _ (and_from _ _ (ap is_join (kind_by u.kind inner.0)) own) inner.1

    has_row : (u : Uplink) → IsOfSession sessions u → is_join_with sessions dev_eui nonce u ≡ true → is_uplink (suc k) Join nonce u ≡ true
    has_row u of is =
        let outer = and_parts (is_join u.kind && is_of_device sessions dev_eui u.session) (u.counter == nonce) is in
        let inner = and_parts (is_join u.kind) (is_of_device sessions dev_eui u.session) outer.0 in
        let row = joined_row u of is in
        let number : u.session ≡ suc k = row.2 ∙ ap suc (same_place row.0 row.1 row.3 row.5) in
        and_from _ _ (eq-eqb u.session (suc k) number) (and_from _ _ (ap (λ kind. kind_number kind == 0) (join_by u.kind inner.0)) outer.1)

    some_joined : first_that (is_uplink (suc k) Join nonce) r.uplinks ≡ join_with r.uplinks sessions dev_eui nonce
    some_joined = first_alike (IsOfSession sessions) (is_uplink (suc k) Join nonce) (is_join_with sessions dev_eui nonce)
        (λ u of. same_tests _ _ (is_joined u of) (has_row u of)) 1 r.uplinks names.uplinks

  joined_by : (found : Option (ℕ × SessionRow)) → first_that (is_session dev_eui nonce) r.sessions ≡ found
      → option_and_then (λ (n : ℕ). first_that (is_uplink n Join nonce) r.uplinks) (option_map (λ (f : ℕ × SessionRow). f.0) found)
      ≡ join_with r.uplinks sessions dev_eui nonce
  joined_by None is = sym (none_joined is)
  joined_by (Some f) is =
      let found = found_from (is_session dev_eui nonce) 1 r.sessions f.0 f.1 is in
      let number : f.0 ≡ suc found.0 = omega (arith, found.1) in
      ap (λ n. first_that (is_uplink n Join nonce) r.uplinks) number ∙ some_joined f.1 found.0 found.2 found.3

  pub join_found : uplink_joined r dev_eui nonce ≡ join_with r.uplinks sessions dev_eui nonce
  join_found =
      (λ i. option_and_then (λ (n : ℕ). first_zipped (is_uplink n Join nonce) 1 r.uplinks i)
      (option_map (λ (f : ℕ × SessionRow). f.0) (first_zipped (is_session dev_eui nonce) 1 r.sessions i)))
      ∙ joined_by (first_that (is_session dev_eui nonce) r.sessions) refl
