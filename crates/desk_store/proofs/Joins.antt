-- The first join uplink of a device with a nonce, looked for in one session of the device after another.
use Rattle.std.proofs.Common.{◌≡◌, ℕ, ◌+◌, ◌<◌, Bool, true, false, cond, List, [], ◌∷◌, Option, Some, None, refl, sym, ◌∙◌, ap, arith}
use Rattle.std.specs.Prelude.{◌==◌, ◌&&◌, ◌||◌}
use Rattle.std.proofs.lemmas.Bool.{and_left, and_right, lt-ltb, le-ltb}
use Rattle.registry_core.specs.declared.facts.Session.{Session}
use Rattle.registry_core.specs.declared.facts.Uplink.{Uplink}
use Rattle.registry_core.specs.Derived.{is_join, is_of_device, is_join_with, join_with}
use Rattle.registry_core.specs.Numbered.{first_from, first_that}
use Rattle.desk_store.specs.steps.Sessions.{latest_of, same_before, is_later}
use Rattle.desk_store.specs.steps.Uplinks.{is_join_of, join_of, earlier_of}
use Rattle.desk_store.proofs.FirstThat.{found_at}
use Rattle.desk_store.proofs.DeviceSessions.{later_step, later_none, later_all}

-- ---- the first that passes one test or another

first_same_by : {X : Type 0} (first : ℕ) (x : X) (b c : Bool) (p q : Option (ℕ × X)) → b ≡ c → p ≡ q → cond b (Some (first, x)) p ≡ cond c (Some (first, x)) q
first_same_by first x b c p q same rest = λ i. cond (same i) (Some (first, x)) (rest i)

first_same : {X : Type 0} (first : ℕ) (p q : X → Bool) → ((x : X) → p x ≡ q x) → (xs : List X) → first_from first p xs ≡ first_from first q xs
first_same first p q same [] = refl
first_same first p q same (x ∷ xs) = first_same_by first x _ _ _ _ (same x) (first_same (first + 1) p q same xs)

first_none : {X : Type 0} (first : ℕ) (p : X → Bool) → ((x : X) → p x ≡ false) → (xs : List X) → first_from first p xs ≡ None
first_none first p none [] = refl
first_none first p none (x ∷ xs) = first_same_by first x _ false _ _ (none x) (first_none (first + 1) p none xs)

-- one that is found further on comes later
earlier_first : {X : Type 0} (first : ℕ) (x : X) (other : Option (ℕ × X)) → ((n : ℕ) (y : X) → other ≡ Some (n, y) → first < n) → earlier_of (Some (first, x)) other ≡ Some (first, x)
earlier_first first x None after = refl
earlier_first first x (Some found) after =
    let later : first < found.0 = after found.0 found.1 refl in
    ap (λ b. cond b (Some found) (Some (first, x))) (le-ltb found.0 first (omega arith))

earlier_other : {X : Type 0} (first : ℕ) (x : X) (other : Option (ℕ × X)) → ((n : ℕ) (y : X) → other ≡ Some (n, y) → first < n) → earlier_of other (Some (first, x)) ≡ Some (first, x)
earlier_other first x None after = refl
earlier_other first x (Some found) after =
    let later : first < found.0 = after found.0 found.1 refl in
    ap (λ b. cond b (Some (first, x)) (Some found)) (lt-ltb first found.0 later)

earlier_same : {X : Type 0} (first : ℕ) (x : X) → earlier_of (Some (first, x)) (Some (first, x)) ≡ Some (first, x)
earlier_same first x = ap (λ b. cond b (Some (first, x)) (Some (first, x))) (le-ltb first first (omega arith))

further_on : {X : Type 0} (first : ℕ) (p : X → Bool) (xs : List X) (n : ℕ) (y : X) → first_from (first + 1) p xs ≡ Some (n, y) → first < n
further_on first p xs n y is = let found = found_at (first + 1) p xs n y is in omega (arith, found.1)

first_either_by : {X : Type 0} (first : ℕ) (p q : X → Bool) (x : X) (xs : List X) (b c : Bool)
    → first_from (first + 1) (λ y. p y || q y) xs ≡ earlier_of (first_from (first + 1) q xs) (first_from (first + 1) p xs)
    → cond (b || c) (Some (first, x)) (first_from (first + 1) (λ y. p y || q y) xs)
    ≡ earlier_of (cond c (Some (first, x)) (first_from (first + 1) q xs)) (cond b (Some (first, x)) (first_from (first + 1) p xs))
first_either_by first p q x xs true true rest = sym (earlier_same first x)
first_either_by first p q x xs true false rest = sym (earlier_other first x (first_from (first + 1) q xs) (further_on first q xs))
first_either_by first p q x xs false true rest = sym (earlier_first first x (first_from (first + 1) p xs) (further_on first p xs))
first_either_by first p q x xs false false rest = rest

first_either : {X : Type 0} (first : ℕ) (p q : X → Bool) (xs : List X) → first_from first (λ x. p x || q x) xs ≡ earlier_of (first_from first q xs) (first_from first p xs)
first_either first p q [] = refl
first_either first p q (x ∷ xs) = first_either_by first p q x xs (p x) (q x) (first_either (first + 1) p q xs)

-- ---- join uplinks

-- a join with this nonce of a session of the device after session n
abbrev pub is_later_join : List Session → ℕ → ℕ → ℕ → Uplink → Bool
is_later_join sessions dev_eui nonce n uplink = is_join uplink.kind && is_later sessions dev_eui n uplink.session && uplink.counter == nonce

and_or_and : (d a b c : Bool) → ((d && (a || b)) && c) ≡ (((d && a) && c) || ((d && b) && c))
and_or_and false a b c = refl
and_or_and true false b c = refl
and_or_and true true b true = refl
and_or_and true true true false = refl
and_or_and true true false false = refl

module _ (uplinks : List Uplink) (sessions : List Session) (dev_eui nonce : ℕ) where
  -- none comes after the device's latest session
  pub join_none : first_that (is_later_join sessions dev_eui nonce (latest_of sessions dev_eui)) uplinks ≡ None
  join_none = first_none 1 _ (λ (u : Uplink). and_left _ (u.counter == nonce) (and_right (is_join u.kind) _ (later_none sessions dev_eui u.session))) uplinks

  -- after the session before it come it and those that come after it
  pub join_step : (n : ℕ) → is_of_device sessions dev_eui n ≡ true
      → first_that (is_later_join sessions dev_eui nonce (same_before sessions n)) uplinks
      ≡ earlier_of (first_that (is_later_join sessions dev_eui nonce n) uplinks) (join_of uplinks n nonce)
  join_step n own =
      first_same 1 _ (λ (u : Uplink). is_join_of n nonce u || is_later_join sessions dev_eui nonce n u)
      (λ (u : Uplink). ap (λ b. is_join u.kind && b && u.counter == nonce) (later_step sessions dev_eui n own u.session)
      ∙ and_or_and (is_join u.kind) (u.session == n) (is_later sessions dev_eui n u.session) (u.counter == nonce))
      uplinks
      ∙ first_either 1 (is_join_of n nonce) (is_later_join sessions dev_eui nonce n) uplinks

  -- and each comes after 0
  pub join_all : first_that (is_later_join sessions dev_eui nonce 0) uplinks ≡ join_with uplinks sessions dev_eui nonce
  join_all = first_same 1 _ (is_join_with sessions dev_eui nonce) (λ (u : Uplink). ap (λ b. is_join u.kind && b && u.counter == nonce) (later_all sessions dev_eui u.session)) uplinks
