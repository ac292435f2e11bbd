-- An input has one head at most.
use Rattle.std.proofs.Common.{◌≡◌, ℕ, List, [], ◌∷◌, ◌++◌, ◌≤◌, length, refl, sym, ap, ◌∙◌, arith, append-nil}
use Rattle.httparse.specs.Grammar.{print_request}
use Rattle.httparse.proofs.GrammarLemmas.{request_unique}
use Rattle.desk_http.specs.HeadLaws.{HeadsAreOne, NoHeadIsNone}
use Rattle.desk_http.specs.Heads.IsNoHead.{bad, cut_off, too_long}

pub heads_are_one : HeadsAreOne
heads_are_one input after later h k one other = request_unique input h k after later one other

-- what two lists begin with, where one of their beginnings is no longer than the other
within : (front tail octets left : List ℕ) → octets ++ left ≡ front ++ tail → length front ≤ length octets
    → (middle : List ℕ) × (octets ≡ front ++ middle)
within [] tail octets left e short = (octets, refl)
within (x ∷ front) tail [] left e short = absurd (omega (arith, short))
within (x ∷ front) tail (y ∷ octets) left e short =
    let rest : octets ++ left ≡ front ++ tail = cc in
    let same : y ≡ x = cc in
    let found = within front tail octets left rest (omega (arith, short)) in
    (found.0, cc)

pub no_head_is_none : NoHeadIsNone
no_head_is_none octets left after h (bad before last e going overflows) reads limits = omega (arith, overflows left h after reads, limits.1)
no_head_is_none octets left after h (cut_off some none going ended) reads limits =
    none h after (reads.0, sym (append-nil octets) ∙ ap (λ l. octets ++ l) (sym ended) ∙ reads.1)
no_head_is_none octets left after h (too_long none going long) reads limits =
    let short : length (print_request h) ≤ length octets = omega (arith, long, limits.0) in
    let middle = within (print_request h) after octets left reads.1 short in
    none h middle.0 (reads.0, middle.1)
