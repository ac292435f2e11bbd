-- A walk through a device's sessions, from the latest to the first.
use Rattle.std.proofs.Common.{◌≡◌, ℕ, zero, suc, ◌+◌, ◌<◌, ◌≤◌, Bool, true, false, List, length, Option, Some, None, refl, sym, ◌∙◌, ap, arith, inl, inr}
use Rattle.std.specs.Prelude.{cond, nat_lt, ◌==◌, ◌&&◌, ◌||◌}
use Rattle.std.specs.Option.{option_map_or}
use Rattle.std.proofs.lemmas.Bool.{both_ways, cases_lt, cases_order, and_left, and_right, eqb-true, eq-eqb, ne_eqb, lt-ltb, le-ltb, or_from}
use Rattle.registry_core.specs.declared.facts.Session.{Session}
use Rattle.registry_core.specs.Derived.{is_of_device, is_session_of}
use Rattle.registry_core.specs.Numbered.{item_at}
use Rattle.desk_store.specs.steps.Sessions.{greatest_below, latest_before, latest_of, same_before, is_later}
use Rattle.desk_store.proofs.Linked.{item_at_past}

-- ---- the greatest number below one

greatest_by : (test : ℕ → Bool) (n k : ℕ) (b : Bool) → test n ≡ b → cond b n (greatest_below test n) < k → k < suc n
    → (greatest_below test n < k → k < n → test k ≡ false) → test k ≡ false
greatest_by test n k true is above below rest = absurd (omega arith)
greatest_by test n k false is above below rest = elim (cases_lt k n) [
  | inl less ↦ rest above less
  | inr last ↦ let same : n ≡ k = omega arith in ap test (sym same) ∙ is
]

-- no number between passes
greatest_below_least : (test : ℕ → Bool) (n k : ℕ) → greatest_below test n < k → k < n → test k ≡ false
greatest_below_least test zero k above below = absurd (omega arith)
greatest_below_least test (suc n) k above below = greatest_by test n k (test n) refl above below (greatest_below_least test n k)

greatest_within_by : (test : ℕ → Bool) (n : ℕ) (b : Bool) → (0 < n → greatest_below test n < n) → cond b n (greatest_below test n) < suc n
greatest_within_by test n true rest = omega arith
greatest_within_by test zero false rest = omega arith
greatest_within_by test (suc n) false rest = let less : greatest_below test (suc n) < suc n = rest (omega arith) in omega arith

greatest_below_within : (test : ℕ → Bool) (n : ℕ) → 0 < n → greatest_below test n < n
greatest_below_within test zero some = some
greatest_below_within test (suc n) some = greatest_within_by test n (test n) (greatest_below_within test n)

greatest_passes_by : (test : ℕ → Bool) (n : ℕ) (b : Bool) → test n ≡ b → 0 < cond b n (greatest_below test n)
    → (0 < greatest_below test n → test (greatest_below test n) ≡ true) → test (cond b n (greatest_below test n)) ≡ true
greatest_passes_by test n true is some rest = is
greatest_passes_by test n false is some rest = rest some

greatest_below_passes : (test : ℕ → Bool) (n : ℕ) → 0 < greatest_below test n → test (greatest_below test n) ≡ true
greatest_below_passes test zero some = absurd (omega arith)
greatest_below_passes test (suc n) some = greatest_passes_by test n (test n) refl some (greatest_below_passes test n)

-- ---- of one device

module _ (sessions : List Session) (dev_eui : ℕ) where
  within_by : (n : ℕ) (found : Option Session) → item_at sessions n ≡ found → option_map_or (is_session_of dev_eui) found false ≡ true → n ≤ length sessions
  within_by n None is passes = absurd (both_ways false refl passes)
  within_by n (Some session) is passes = elim (cases_lt (length sessions) n) [
    | inl past ↦ let none : None ≡ Some session = sym (item_at_past sessions n past) ∙ is in let no : ⊥ = cc in absurd no
    | inr within ↦ within
  ]

  -- a session of the device is one of the sessions, whose numbers are from 1
  is_within : (n : ℕ) → is_of_device sessions dev_eui n ≡ true → n ≤ length sessions
  is_within n own = within_by n (item_at sessions n) refl own

  is_numbered : (n : ℕ) → is_of_device sessions dev_eui n ≡ true → 0 < n
  is_numbered zero own = absurd (both_ways false refl own)
  is_numbered (suc n) own = omega arith

  pub latest_is_own : 0 < latest_of sessions dev_eui → is_of_device sessions dev_eui (latest_of sessions dev_eui) ≡ true
  latest_is_own some = greatest_below_passes (is_of_device sessions dev_eui) (length sessions + 1) some

  same_before_by : (n : ℕ) (found : Option Session) → option_map_or (is_session_of dev_eui) found false ≡ true
      → option_map_or (λ (session : Session). latest_before sessions session.device n) found 0 ≡ latest_before sessions dev_eui n
  same_before_by n None own = absurd (both_ways false refl own)
  same_before_by n (Some session) own = ap (λ d. latest_before sessions d n) (eqb-true session.device dev_eui own)

  module _ (n : ℕ) (own : is_of_device sessions dev_eui n ≡ true) where
    same_before_is : same_before sessions n ≡ latest_before sessions dev_eui n
    same_before_is = same_before_by n (item_at sessions n) own

    pub before_less : same_before sessions n < n
    before_less =
        let less : latest_before sessions dev_eui n < n = greatest_below_within (is_of_device sessions dev_eui) n (is_numbered n own) in
        rw same_before_is less

    pub before_is_own : 0 < same_before sessions n → is_of_device sessions dev_eui (same_before sessions n) ≡ true
    before_is_own some =
        let before_some : 0 < latest_before sessions dev_eui n = rw (sym same_before_is) some in
        rw same_before_is (greatest_below_passes (is_of_device sessions dev_eui) n before_some)

    -- none of the device lies between the session before it and it
    between : (m : ℕ) (b : Bool) → is_of_device sessions dev_eui m ≡ b → m < n → (nat_lt (latest_before sessions dev_eui n) m && b) ≡ false
    between m false is less = and_right _ false refl
    between m true is less = elim (cases_lt (latest_before sessions dev_eui n) m) [
      | inl above ↦ absurd (both_ways _ (greatest_below_least (is_of_device sessions dev_eui) n m above less) is)
      | inr below ↦ and_left _ true (le-ltb _ _ below)
    ]

    later_by : (m : ℕ) → (nat_lt (latest_before sessions dev_eui n) m && is_of_device sessions dev_eui m) ≡ ((m == n) || (nat_lt n m && is_of_device sessions dev_eui m))
    later_by m = elim (cases_order m n) [
      | inl same ↦
          let less : latest_before sessions dev_eui n < m = rw same (greatest_below_within (is_of_device sessions dev_eui) n (is_numbered n own)) in
          let here : is_of_device sessions dev_eui m ≡ true = rw same own in
          rw (lt-ltb _ _ less, here, eq-eqb m n same) refl
      | inr (inl less) ↦
          let apart : (m == n) ≡ false = ne_eqb m n (λ same. omega arith) in
          let none : (nat_lt n m && is_of_device sessions dev_eui m) ≡ false = and_left _ _ (le-ltb n m (omega arith)) in
          between m (is_of_device sessions dev_eui m) refl less ∙ sym (or_from _ _ apart none)
      | inr (inr more) ↦
          let apart : (m == n) ≡ false = ne_eqb m n (λ same. omega arith) in
          let below : latest_before sessions dev_eui n < n = greatest_below_within (is_of_device sessions dev_eui) n (is_numbered n own) in
          let above : nat_lt (latest_before sessions dev_eui n) m ≡ true = lt-ltb _ _ (omega arith) in
          let after : nat_lt n m ≡ true = lt-ltb n m more in
          rw (apart, above, after) refl
    ]

    -- those that come after the session before it are it and those that come after it
    pub later_step : (m : ℕ) → is_later sessions dev_eui (same_before sessions n) m ≡ ((m == n) || is_later sessions dev_eui n m)
    later_step m = ap (λ k. is_later sessions dev_eui k m) same_before_is ∙ later_by m

  none_by : (m : ℕ) (b : Bool) → is_of_device sessions dev_eui m ≡ b → (nat_lt (latest_of sessions dev_eui) m && b) ≡ false
  none_by m false is = and_right _ false refl
  none_by m true is = elim (cases_lt (latest_of sessions dev_eui) m) [
    | inl above ↦
        let within : m ≤ length sessions = is_within m is in
        absurd (both_ways _ (greatest_below_least (is_of_device sessions dev_eui) (length sessions + 1) m above (omega arith)) is)
    | inr below ↦ and_left _ true (le-ltb _ _ below)
  ]

  -- none comes after the latest
  pub later_none : (m : ℕ) → is_later sessions dev_eui (latest_of sessions dev_eui) m ≡ false
  later_none m = none_by m (is_of_device sessions dev_eui m) refl

  -- and each comes after 0
  pub later_all : (m : ℕ) → is_later sessions dev_eui 0 m ≡ is_of_device sessions dev_eui m
  later_all zero = refl
  later_all (suc m) = rw (lt-ltb 0 (suc m) (omega arith)) refl
