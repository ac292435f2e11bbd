-- Whether a later session of a device has a data uplink, looked for in one session of the device after another.
use Rattle.std.proofs.Common.{◌≡◌, ℕ, ◌<◌, ◌≤◌, Bool, true, false, cond, List, [], ◌∷◌, map, filter, is_some, refl, sym, ◌∙◌, ap, arith}
use Rattle.std.specs.Prelude.{nat_lt, ◌==◌, ◌&&◌, ◌||◌}
use Rattle.std.specs.List.{list_any}
use Rattle.std.proofs.lemmas.Bool.{both_ways, and_parts, and_from, and_right, or_from, eqb-true, ltb-true, lt-ltb, false_from_ne_true}
use Rattle.registry_core.specs.declared.facts.Session.{Session}
use Rattle.registry_core.specs.declared.facts.Uplink.{Uplink}
use Rattle.registry_core.specs.Derived.{is_data, is_data_of, is_of_device, is_below_floor, last_counter}
use Rattle.registry_core.specs.Numbered.{greatest}
use Rattle.desk_store.specs.steps.Sessions.{latest_of, same_before, is_later}
use Rattle.desk_store.proofs.DeviceSessions.{later_step, later_none}

-- ---- whether any passes

any_same : {X : Type 0} (p q : X → Bool) → ((x : X) → p x ≡ q x) → (xs : List X) → list_any p xs ≡ list_any q xs
any_same p q same [] = refl
any_same p q same (x ∷ xs) = ap (λ b. b || list_any p xs) (same x) ∙ ap (λ rest. q x || rest) (any_same p q same xs)

any_none : {X : Type 0} (p : X → Bool) → ((x : X) → p x ≡ false) → (xs : List X) → list_any p xs ≡ false
any_none p none [] = refl
any_none p none (x ∷ xs) = or_from _ _ (none x) (any_none p none xs)

any_weaker_by : {X : Type 0} (p q : X → Bool) (x : X) (xs : List X) (b c : Bool) → p x ≡ b → q x ≡ c → (b ≡ true → c ≡ true)
    → (list_any p xs ≡ true → list_any q xs ≡ true) → (b || list_any p xs) ≡ true → (c || list_any q xs) ≡ true
any_weaker_by p q x xs b true is js weaker rest any = refl
any_weaker_by p q x xs true false is js weaker rest any = absurd (both_ways false refl (weaker refl))
any_weaker_by p q x xs false false is js weaker rest any = rest any

any_weaker : {X : Type 0} (p q : X → Bool) → ((x : X) → p x ≡ true → q x ≡ true) → (xs : List X) → list_any p xs ≡ true → list_any q xs ≡ true
any_weaker p q weaker [] any = any
any_weaker p q weaker (x ∷ xs) any = any_weaker_by p q x xs (p x) (q x) refl refl (weaker x) (any_weaker p q weaker xs) any

or_between : (a b c d : Bool) → ((a || b) || (c || d)) ≡ ((a || c) || (b || d))
or_between true b c d = refl
or_between false true true d = refl
or_between false true false d = refl
or_between false false c d = refl

any_either : {X : Type 0} (p q : X → Bool) (xs : List X) → list_any (λ x. p x || q x) xs ≡ (list_any p xs || list_any q xs)
any_either p q [] = refl
any_either p q (x ∷ xs) = ap (λ rest. (p x || q x) || rest) (any_either p q xs) ∙ or_between (p x) (q x) (list_any p xs) (list_any q xs)

some_by : {X : Type 0} (f : X → ℕ) (x : X) (kept : List X) (b any : Bool) → is_some (greatest (map f kept)) ≡ any
    → is_some (greatest (map f (cond b (x ∷ kept) kept))) ≡ (b || any)
some_by f x kept true any rest = refl
some_by f x kept false any rest = rest

-- a greatest number of those that pass is there exactly if any passes
some_greatest : {X : Type 0} (f : X → ℕ) (p : X → Bool) (xs : List X) → is_some (greatest (map f (filter p xs))) ≡ list_any p xs
some_greatest f p [] = refl
some_greatest f p (x ∷ xs) = some_by f x (filter p xs) (p x) (list_any p xs) (some_greatest f p xs)

-- ---- data uplinks

pub some_counter : (uplinks : List Uplink) (n : ℕ) → is_some (last_counter uplinks n) ≡ list_any (is_data_of n) uplinks
some_counter uplinks n = some_greatest (λ (u : Uplink). u.counter) (is_data_of n) uplinks

and_and : (d a b : Bool) → ((d && a) && b) ≡ (d && (a && b))
and_and true a b = refl
and_and false a b = refl

and_or : (d a b : Bool) → (d && (a || b)) ≡ ((d && a) || (d && b))
and_or true a b = refl
and_or false a b = refl

-- a data uplink of a session of the device after session n
abbrev is_later_data : List Session → ℕ → ℕ → Uplink → Bool
is_later_data sessions dev_eui n uplink = is_data uplink.kind && is_later sessions dev_eui n uplink.session

module _ (uplinks : List Uplink) (sessions : List Session) (dev_eui : ℕ) where
  floor_is : (n : ℕ) → is_below_floor uplinks sessions dev_eui n ≡ list_any (is_later_data sessions dev_eui n) uplinks
  floor_is n = any_same _ (is_later_data sessions dev_eui n) (λ (u : Uplink). and_and (is_data u.kind) (nat_lt n u.session) (is_of_device sessions dev_eui u.session)) uplinks

  -- none comes after the device's latest session
  pub floor_none : is_below_floor uplinks sessions dev_eui (latest_of sessions dev_eui) ≡ false
  floor_none = floor_is (latest_of sessions dev_eui)
      ∙ any_none (is_later_data sessions dev_eui (latest_of sessions dev_eui)) (λ (u : Uplink). and_right (is_data u.kind) _ (later_none sessions dev_eui u.session)) uplinks

  -- after the session before it come it and those that come after it
  pub floor_step : (n : ℕ) → is_of_device sessions dev_eui n ≡ true
      → is_below_floor uplinks sessions dev_eui (same_before sessions n) ≡ (list_any (is_data_of n) uplinks || is_below_floor uplinks sessions dev_eui n)
  floor_step n own =
      floor_is (same_before sessions n)
      ∙ any_same (is_later_data sessions dev_eui (same_before sessions n)) (λ (u : Uplink). is_data_of n u || is_later_data sessions dev_eui n u)
      (λ (u : Uplink). ap (λ b. is_data u.kind && b) (later_step sessions dev_eui n own u.session) ∙ and_or (is_data u.kind) (u.session == n) (is_later sessions dev_eui n u.session)) uplinks
      ∙ any_either (is_data_of n) (is_later_data sessions dev_eui n) uplinks
      ∙ ap (λ b. list_any (is_data_of n) uplinks || b) (sym (floor_is n))

  -- a data uplink of a later session of the device
  pub floor_found : (n later : ℕ) → n < later → is_of_device sessions dev_eui later ≡ true → list_any (is_data_of later) uplinks ≡ true
      → is_below_floor uplinks sessions dev_eui n ≡ true
  floor_found n later after own any = floor_is n ∙ any_weaker (is_data_of later) (is_later_data sessions dev_eui n)
      (λ (u : Uplink) is. let parts = and_parts (is_data u.kind) (u.session == later) is in
      let same : u.session ≡ later = eqb-true u.session later parts.1 in
      let here : is_later sessions dev_eui n u.session ≡ true = ap (is_later sessions dev_eui n) same ∙ and_from _ _ (lt-ltb n later after) own in
      and_from _ _ parts.0 here)
      uplinks any

  -- where none comes after a session, none comes after one that comes later
  pub floor_lower : (n before : ℕ) → before ≤ n → is_below_floor uplinks sessions dev_eui before ≡ false → is_below_floor uplinks sessions dev_eui n ≡ false
  floor_lower n before within none = floor_is n ∙ false_from_ne_true _ (λ any. both_ways _ (sym (floor_is before) ∙ none)
      (any_weaker (is_later_data sessions dev_eui n) (is_later_data sessions dev_eui before)
      (λ (u : Uplink) is. let parts = and_parts (is_data u.kind) (is_later sessions dev_eui n u.session) is in
      let later = and_parts (nat_lt n u.session) (is_of_device sessions dev_eui u.session) parts.1 in
      let above : n < u.session = ltb-true n u.session later.0 in
      and_from _ _ parts.0 (and_from _ _ (lt-ltb before u.session (omega arith)) later.1))
      uplinks any))
