-- The lines of an owner's devices, one after another, in order of DevEUI.
use Rattle.std.proofs.Common.{◌≡◌, ◌∙◌, ◌+◌, ◌<◌, ◌≤◌, ◌-◌, inl, inr, ℕ, Bool, true, false, List, [], ◌∷◌, ◌++◌, Option, Some, None, ap, refl, sym, subst, length, get_or, arith}
use Rattle.std.specs.Prelude.{◌==◌, ◌&&◌, ◌||◌, not, nat_lt, ℤ}
use Rattle.std.specs.List.{flat_map, list_any}
use Rattle.std.specs.List.Sorted.{IsStrictlyIncreasing}
use Rattle.std.proofs.lemmas.Bool.{and_parts, eqb-true, eq-eqb, cases_lt}
use Rattle.std.proofs.lemmas.Bool.Decides.{nat_tests}
use Rattle.std.proofs.lemmas.List.{append-nil, length-append, append_assoc, get_or_append_left, get_or-append_right}
use Rattle.std.proofs.lemmas.Option.{same_Some}
use Rattle.std.proofs.lemmas.List.Folds.{list_any-append, list_any_at}
use Rattle.duty_core.specs.Laws.{PeakIsComputed}
use Rattle.registry_core.specs.Reports.{IsNextDevice, in_band, is_after, is_owned, uplinks_from}
use Rattle.registry_core.specs.State.{State}
use Rattle.desk_engine.specs.Reports.{IsOwnerReport, owner_header}
use Rattle.desk_engine.specs.steps.Uses.{HasLines, owner_report_line, use_computed}
use Rattle.desk_engine.proofs.AirUse.{flat_push, is_use}

-- ---- rising numbers

-- one more that is above all
pub rising_more : (xs : List ℕ) (n : ℕ) → IsStrictlyIncreasing xs → ((d : ℕ) → list_any (λ other. other == d) xs ≡ true → d < n) → IsStrictlyIncreasing (xs ++ n ∷ [])
rising_more xs n rising below = λ k within.
    let size : length (xs ++ n ∷ []) ≡ length xs + 1 = length-append xs (n ∷ []) in
    elim (cases_lt (k + 1) (length xs)) [
      | inl inside ↦
          let here : k < length xs = omega arith in
          rw (get_or_append_left xs (n ∷ []) 0 k here, get_or_append_left xs (n ∷ []) 0 (k + 1) inside) (rising k inside)
      | inr past ↦
          let here : k < length xs = omega (arith, size, within) in
          let at : length xs ≡ k + 1 = omega (arith, size, within) in
          rw (get_or_append_left xs (n ∷ []) 0 k here, get_or-append_right xs (n ∷ []) (k + 1) (k + 1) 0 at (omega arith))
          (let there : get_or (n ∷ []) (k + 1 - (k + 1)) 0 ≡ n = ap (λ i. get_or (n ∷ []) i 0) (let zero : k + 1 - (k + 1) ≡ 0 = omega arith in zero) in
          rw there (below (get_or xs k 0) (list_any_at (λ other. other == get_or xs k 0) xs k 0 here (eq-eqb _ _ refl))))
    ]

-- ---- an owner's devices, up to the last

pub and_false : (b : Bool) → (b && false) ≡ false
and_false true = refl
and_false false = refl

pub no_lines : (s : State) (owner : List ℕ) (from to : ℤ) → HasLines s owner from to None owner_header
no_lines s owner from to = record {
  devices = [];
  rising = λ k within. absurd (omega arith);
  owned = λ dev_eui. sym (and_false (is_owned s owner dev_eui));
  text_is = sym (append-nil owner_header);
}

-- what isn't above the last is below what is
below_next : (last : Option ℕ) (d n : ℕ) → not (is_after last d) ≡ true → is_after last n ≡ true → d < n
below_next None d n upto after = cc
below_next (Some m) d n upto after = grind (arith, nat_tests)

owned_step : (owned after past same : Bool) → (same ≡ true → owned ≡ true) → (same ≡ true → past ≡ false) → (owned ≡ true → after ≡ true → same ≡ false → past ≡ true) → (after ≡ false → past ≡ false)
    → ((owned && not after) || (same || false)) ≡ (owned && not past)
owned_step true true true true a b c d = let wrong = b refl in cc
owned_step true true true false a b c d = refl
owned_step true true false true a b c d = refl
owned_step true true false false a b c d = let wrong = c refl refl refl in cc
owned_step true false true same a b c d = let wrong = d refl in cc
owned_step true false false same a b c d = refl
owned_step false after past true a b c d = let wrong = a refl in cc
owned_step false after past false a b c d = refl

not_past : (n d : ℕ) → d ≤ n → nat_lt n d ≡ false
not_past n d upto = grind (arith, nat_tests)

is_past : (n d : ℕ) → n ≤ d → (n == d) ≡ false → nat_lt n d ≡ true
is_past n d upto apart = grind (arith, nat_tests)

least_is : (n m d : ℕ) → Some n ≡ Some m → m ≤ d → n ≤ d
least_is n m d same below = let e : n ≡ m = same_Some n m same in omega arith

-- the devices up to the next one: those up to the last one, and it
owned_more : (s : State) (owner : List ℕ) (last : Option ℕ) (n d : ℕ) → IsNextDevice s owner last (Some n)
    → ((is_owned s owner d && not (is_after last d)) || (n == d || false)) ≡ (is_owned s owner d && not (is_after (Some n) d))
owned_more s owner last n d next =
    let own = and_parts (is_owned s owner n) (is_after last n) (next.owned n refl) in
    owned_step (is_owned s owner d) (is_after last d) (nat_lt n d) (n == d)
    (λ same. subst (λ x. is_owned s owner x ≡ true) (eqb-true n d same) own.0)
    (λ same. let e : n ≡ d = eqb-true n d same in not_past n d (omega arith))
    (λ owned after apart.
    let both : (is_owned s owner d && is_after last d) ≡ true = rw (owned, after) refl in
    let least = next.least d both in
    is_past n d (least_is n least.0 d least.1 least.2) apart)
    (λ upto. let below = below_next last d n (ap not upto) own.1 in not_past n d (omega arith))

-- a line more of a text
text_more : (header all line text told : List ℕ) → text ≡ header ++ all → line ≡ told → text ++ line ≡ header ++ (all ++ told)
text_more header all line text told is same = rw (is, same) (append_assoc header all told)

more_lines : (s : State) (owner : List ℕ) (from to : ℤ) (last : Option ℕ) (text line : List ℕ) (n : ℕ) → HasLines s owner from to last text → IsNextDevice s owner last (Some n)
    → line ≡ owner_report_line s from to n → HasLines s owner from to (Some n) (text ++ line)
more_lines s owner from to last text line n has next told =
    let own = and_parts (is_owned s owner n) (is_after last n) (next.owned n refl) in
    record {
      devices = has.devices ++ n ∷ [];
      rising = rising_more has.devices n has.rising
          (λ d among. below_next last d n (and_parts (is_owned s owner d) (not (is_after last d)) (sym (has.owned d) ∙ among)).1 own.1);
      owned = λ d. list_any-append (λ other. other == d) has.devices (n ∷ []) ∙ ap (λ b. b || (n == d || false)) (has.owned d) ∙ owned_more s owner last n d next;
      text_is = text_more owner_header (flat_map (owner_report_line s from to) has.devices) line text (owner_report_line s from to n) has.text_is told
          ∙ ap (λ l. owner_header ++ l) (sym (flat_push (owner_report_line s from to) has.devices n));
    }

pub lines_on : (s : State) (owner : List ℕ) (from to : ℤ) (last : Option ℕ) (text new : List ℕ) (n : ℕ) → HasLines s owner from to last text → IsNextDevice s owner last (Some n)
    → new ≡ text ++ owner_report_line s from to n → HasLines s owner from to (Some n) new
lines_on s owner from to last text new n has next added = rw added (more_lines s owner from to last text (owner_report_line s from to n) n has next refl)

none_after : (owned after : Bool) → (owned ≡ true → after ≡ true → ⊥) → (owned && not after) ≡ owned
none_after true true none = absurd (none refl refl)
none_after true false none = refl
none_after false after none = refl

-- past the last device the text is the report
all_lines : PeakIsComputed → (s : State) (owner : List ℕ) (from to : ℤ) (last : Option ℕ) (text : List ℕ) → HasLines s owner from to last text → IsNextDevice s owner last None
    → IsOwnerReport s owner from to text
unfolding owner_report_line
all_lines computed s owner from to last text has next = record {
  devices = has.devices;
  rising = has.rising;
  owned = λ d. has.owned d ∙ none_after (is_owned s owner d) (is_after last d) (λ owned after.
      let both : (is_owned s owner d && is_after last d) ≡ true = rw (owned, after) refl in
      let least = next.least d both in
      let wrong : None ≡ Some least.0 = least.1 in cc);
  used = λ dev_eui band. use_computed (in_band band (uplinks_from s.uplinks s.sessions dev_eui from to));
  used_is = λ dev_eui band. is_use computed (in_band band (uplinks_from s.uplinks s.sessions dev_eui from to));
  text_is = has.text_is;
}

pub lines_end : PeakIsComputed → (s : State) (owner : List ℕ) (from to : ℤ) (last : Option ℕ) (text new : List ℕ) → HasLines s owner from to last text → IsNextDevice s owner last None
    → new ≡ text ++ [] → IsOwnerReport s owner from to new
lines_end computed s owner from to last text new has next is = rw (is, append-nil text) (all_lines computed s owner from to last text has next)

pub same_report : (s : State) (a b : List ℕ) (from since to until : ℤ) (text : List ℕ) → a ≡ b → from ≡ since → to ≡ until → IsOwnerReport s a from to text → IsOwnerReport s b since until text
same_report s a b from since to until text names begins ends report =
    subst (λ x. IsOwnerReport s x since until text) names (subst (λ x. IsOwnerReport s a since x text) ends (subst (λ x. IsOwnerReport s a x to text) begins report))
