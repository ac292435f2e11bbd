-- An input is split at each LF in one way only.
use Rattle.std.proofs.Common.{◌≡◌, ◌+◌, ◌<◌, ◌≤◌, ℕ, List, [], ◌∷◌, ◌++◌, Bool, true, false, Some, None, cond, length, take, drop, get_or, take-append-drop, refl, sym, ap, ◌∙◌, subst, arith}
use Rattle.std.specs.Prelude.{◌==◌}
use Rattle.std.specs.List.{list_any, position, position_or_len}
use Rattle.std.proofs.Math.Seq.{take-length}
use Rattle.std.proofs.lemmas.Bool.{eqb-true, or_parts}
use Rattle.std.proofs.lemmas.Grind.{common_steps}
use Rattle.std.proofs.lemmas.List.{drop_more, get_or-take, length-take}
use Rattle.std.proofs.lemmas.List.Elements.{All-from_get_or}
use Rattle.std.proofs.lemmas.List.Folds.{list_any_none}
use Rattle.std.proofs.lemmas.List.Quantifiers.{position-Some}
use Rattle.std.proofs.lemmas.List.Sums.{fails_before_first}
use Rattle.desk_engine.specs.Lines.{InputsAreCut, cut, has_line_feed, input_of, line_feed, with_octet}

-- the parts make the input, and none of them has an LF
abbrev IsParted : List ℕ → List (List ℕ) × List ℕ → Type 0
IsParted input c = (input ≡ input_of c.0 c.1) × (list_any has_line_feed c.0 ≡ false) × (has_line_feed c.1 ≡ false)

parted_by : (x : ℕ) (xs : List ℕ) (c : List (List ℕ) × List ℕ) (b : Bool) → (x == line_feed) ≡ b → IsParted xs c
    → IsParted (x ∷ xs) (cond b ([] ∷ c.0, c.1) (with_octet x c.0 c.1))
parted_by x xs c true is h = ((λ i. eqb-true x line_feed is i ∷ h.0 i), h.1, h.2)
parted_by x xs ([], rest) false is h = (ap (λ ys. x ∷ ys) h.0, refl, rw is h.2)
parted_by x xs (line ∷ lines, rest) false is h = (ap (λ ys. x ∷ ys) h.0, rw is h.1, h.2)

parted : (input : List ℕ) → IsParted input (cut input)
parted [] = (refl, refl, refl)
parted (x ∷ xs) = parted_by x xs (cut xs) (x == line_feed) refl (parted xs)

pub cut-rest : (rest : List ℕ) → has_line_feed rest ≡ false → cut rest ≡ ([], rest)
cut-rest [] none = refl
cut-rest (x ∷ xs) none =
    let both = or_parts (x == line_feed) (has_line_feed xs) none in
    rw both.0 (ap (λ c. with_octet x c.0 c.1) (cut-rest xs both.1))

cut-line : (line more : List ℕ) → has_line_feed line ≡ false → cut (line ++ line_feed ∷ more) ≡ (line ∷ (cut more).0, (cut more).1)
cut-line [] more none = refl
cut-line (x ∷ xs) more none =
    let both = or_parts (x == line_feed) (has_line_feed xs) none in
    rw both.0 (ap (λ c. with_octet x c.0 c.1) (cut-line xs more both.1))

cut-input : (lines : List (List ℕ)) (rest : List ℕ) → list_any has_line_feed lines ≡ false → has_line_feed rest ≡ false → cut (input_of lines rest) ≡ (lines, rest)
cut-input [] rest none last = cut-rest rest last
cut-input (line ∷ lines) rest none last =
    let both = or_parts (has_line_feed line) (list_any has_line_feed lines) none in
    cut-line line (input_of lines rest) both.0 ∙ ap (λ c. (line ∷ c.0, c.1)) (cut-input lines rest both.1 last)

pub inputs_are_cut : InputsAreCut
inputs_are_cut input lines rest = (
  λ e. subst (IsParted input) e (parted input),
  λ h. ap cut h.0 ∙ cut-input lines rest h.1 h.2,
)

-- ---- at the first LF

abbrev is_line_feed : ℕ → Bool
is_line_feed octet = octet == line_feed

-- there is no LF before it
none_before : (octets : List ℕ) (n : ℕ) → n ≤ position_or_len is_line_feed octets → has_line_feed (take n octets) ≡ false
none_before octets n within = list_any_none is_line_feed (take n octets) (All-from_get_or (λ x. is_line_feed x ≡ false) (take n octets) 0 (λ i inside.
    let below : i < n = omega (arith, length-take n octets) in
    ap is_line_feed (get_or-take n octets i 0 below) ∙ fails_before_first is_line_feed octets i 0 (omega arith)))

-- what precedes it, and what follows it
pub parted_at : (octets : List ℕ) (place : ℕ) → position is_line_feed octets ≡ Some place
    → (octets ≡ take place octets ++ line_feed ∷ drop (place + 1) octets) × (has_line_feed (take place octets) ≡ false)
parted_at octets place is =
    let first = position-Some is_line_feed octets place 0 is in
    let there : position_or_len is_line_feed octets ≡ place = grind (arith, common_steps) in (
      sym (take-append-drop place octets) ∙ ap (λ l. take place octets ++ l) (drop_more octets place 0 first.0)
          ∙ ap (λ x. take place octets ++ x ∷ drop (place + 1) octets) (eqb-true (get_or octets place 0) line_feed first.1),
      none_before octets place (omega arith),
    )

-- or there is none
pub unparted : (octets : List ℕ) → position is_line_feed octets ≡ None → has_line_feed octets ≡ false
unparted octets none =
    let past : length octets ≤ position_or_len is_line_feed octets = grind (arith, common_steps) in
    ap has_line_feed (sym (take-length octets)) ∙ none_before octets (length octets) past
