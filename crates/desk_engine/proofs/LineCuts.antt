-- The lines of an input with octets added at its end: an LF ends the last line, other octets extend it, and earlier lines stay.
use Rattle.std.proofs.Common.{◌≡◌, ◌==◌, ℕ, List, [], ◌∷◌, ◌++◌, Bool, true, false, cond, refl, sym, ap, ◌∙◌, subst, append_assoc, append-nil}
use Rattle.desk_engine.specs.Lines.{line_feed, has_line_feed, with_octet, cut, whole_lines, last_line, all_lines, IsBeginning}
use Rattle.desk_engine.proofs.InputCuts.{cut-rest}

-- ---- one input after another

-- a line begun, before the cut of what follows
abbrev pub begun_by : List ℕ → List (List ℕ) × List ℕ → List (List ℕ) × List ℕ
begun_by p ([], rest) = ([], p ++ rest)
begun_by p (line ∷ lines, rest) = ((p ++ line) ∷ lines, rest)

begun_by-nil : (lines : List (List ℕ)) (rest : List ℕ) → begun_by [] (lines, rest) ≡ (lines, rest)
begun_by-nil [] rest = refl
begun_by-nil (line ∷ lines) rest = refl

with_octet-begun : (x : ℕ) (p : List ℕ) (c : List (List ℕ) × List ℕ) → with_octet x (begun_by p c).0 (begun_by p c).1 ≡ begun_by (x ∷ p) c
with_octet-begun x p ([], rest) = refl
with_octet-begun x p (line ∷ lines, rest) = refl

abbrev followed : List (List ℕ) × List ℕ → List (List ℕ) × List ℕ → List (List ℕ) × List ℕ
followed c d = (c.0 ++ (begun_by c.1 d).0, (begun_by c.1 d).1)

with_octet-followed : (x : ℕ) (lines : List (List ℕ)) (rest : List ℕ) (d : List (List ℕ) × List ℕ)
    → with_octet x (followed (lines, rest) d).0 (followed (lines, rest) d).1 ≡ followed (with_octet x lines rest) d
with_octet-followed x [] rest d = with_octet-begun x rest d
with_octet-followed x (line ∷ lines) rest d = refl

append_step : (b : Bool) (x : ℕ) (xs ys : List ℕ) → cut (xs ++ ys) ≡ followed (cut xs) (cut ys)
    → cond b ([] ∷ (cut (xs ++ ys)).0, (cut (xs ++ ys)).1) (with_octet x (cut (xs ++ ys)).0 (cut (xs ++ ys)).1)
    ≡ followed (cond b ([] ∷ (cut xs).0, (cut xs).1) (with_octet x (cut xs).0 (cut xs).1)) (cut ys)
append_step true x xs ys e = ap (λ c. ([] ∷ c.0, c.1)) e
append_step false x xs ys e = ap (λ c. with_octet x c.0 c.1) e ∙ with_octet-followed x (cut xs).0 (cut xs).1 (cut ys)

cut-append : (xs ys : List ℕ) → cut (xs ++ ys) ≡ followed (cut xs) (cut ys)
cut-append [] ys = sym (begun_by-nil (cut ys).0 (cut ys).1)
cut-append (x ∷ xs) ys = append_step (x == line_feed) x xs ys (cut-append xs ys)

-- ---- some octets more

-- an LF ends the last line
cut-line_feed : (input : List ℕ) → cut (input ++ line_feed ∷ []) ≡ (whole_lines input ++ last_line input ∷ [], [])
cut-line_feed input = cut-append input (line_feed ∷ []) ∙ ap (λ rest. (whole_lines input ++ rest ∷ [], [])) (append-nil (last_line input))

pub whole_lines-line_feed : (input : List ℕ) → whole_lines (input ++ line_feed ∷ []) ≡ all_lines input
whole_lines-line_feed input = ap (λ c. c.0) (cut-line_feed input)

pub last_line-line_feed : (input : List ℕ) → last_line (input ++ line_feed ∷ []) ≡ []
last_line-line_feed input = ap (λ c. c.1) (cut-line_feed input)

-- other octets go on with it
cut-octets : (input octets : List ℕ) → has_line_feed octets ≡ false → cut (input ++ octets) ≡ (whole_lines input, last_line input ++ octets)
cut-octets input octets none =
    cut-append input octets ∙ ap (followed (cut input)) (cut-rest octets none) ∙ ap (λ lines. (lines, last_line input ++ octets)) (append-nil (whole_lines input))

pub whole_lines-octets : (input octets : List ℕ) → has_line_feed octets ≡ false → whole_lines (input ++ octets) ≡ whole_lines input
whole_lines-octets input octets none = ap (λ c. c.0) (cut-octets input octets none)

pub last_line-octets : (input octets : List ℕ) → has_line_feed octets ≡ false → last_line (input ++ octets) ≡ last_line input ++ octets
last_line-octets input octets none = ap (λ c. c.1) (cut-octets input octets none)

-- ---- what follows changes no whole line

-- the lines after the whole ones of the front
abbrev later_lines : List ℕ → List ℕ → List (List ℕ)
later_lines xs ys = (begun_by (last_line xs) (cut ys)).0 ++ (begun_by (last_line xs) (cut ys)).1 ∷ []

all_lines-append : (xs ys : List ℕ) → all_lines (xs ++ ys) ≡ whole_lines xs ++ later_lines xs ys
all_lines-append xs ys = ap (λ c. c.0 ++ c.1 ∷ []) (cut-append xs ys) ∙ append_assoc (whole_lines xs) _ _

pub beginning-append : (xs ys : List ℕ) → IsBeginning (whole_lines xs) (all_lines (xs ++ ys))
beginning-append xs ys = (later_lines xs ys, all_lines-append xs ys)

-- the first of them goes on with a line begun
first_line : (p : List ℕ) (c : List (List ℕ) × List ℕ)
    → (tail : List ℕ) × (more : List (List ℕ)) × ((begun_by p c).0 ++ (begun_by p c).1 ∷ [] ≡ (p ++ tail) ∷ more)
first_line p ([], rest) = (rest, [], refl)
first_line p (line ∷ lines, rest) = (line, lines ++ rest ∷ [], refl)

-- after the whole lines comes one that goes on with the last line
pub next_line : (xs ys : List ℕ) → (tail : List ℕ) × IsBeginning (whole_lines xs ++ (last_line xs ++ tail) ∷ []) (all_lines (xs ++ ys))
next_line xs ys =
    let first = first_line (last_line xs) (cut ys) in (
      first.0,
      (first.1, all_lines-append xs ys ∙ ap (λ later. whole_lines xs ++ later) first.2 ∙ sym (append_assoc (whole_lines xs) ((last_line xs ++ first.0) ∷ []) first.1)),
    )

pub beginning-refl : (lines : List (List ℕ)) → IsBeginning lines lines
beginning-refl lines = ([], sym (append-nil lines))

-- the lines up to an LF, which ends the last of them
pub beginning-ended : (input more : List ℕ) → IsBeginning (all_lines input) (all_lines ((input ++ line_feed ∷ []) ++ more))
beginning-ended input more =
    subst (λ lines. IsBeginning lines (all_lines ((input ++ line_feed ∷ []) ++ more))) (whole_lines-line_feed input)
    (beginning-append (input ++ line_feed ∷ []) more)
