-- An input has one request at most.
use Rattle.std.proofs.Common.{◌≡◌, ℕ, List, [], ◌++◌, ◌+◌, ◌<◌, length, take, Some, None, inl, inr, refl, sym, ap, ◌∙◌, arith, append_assoc, append-nil, cond, length-append, subst, map}
use Rattle.std.proofs.Math.Seq.{take-append_seam}
use Rattle.std.specs.Prelude.{IsTrue}
use Rattle.httparse.specs.Grammar.{RequestHead, print_request}
use Rattle.httparse.specs.Spans.{name_and_value}
use Rattle.desk_http.specs.RequestLaws.{NamedIsOne, OriginsAreRefused, RequestsAreOne}
use Rattle.desk_http.specs.Requests.{Request, refused, message, report, HeadAsks, IsBodyOf, asked_of, asked_of_named, bad_head, head}
use Rattle.desk_http.specs.Fields.{has_origin}
use Rattle.desk_http.specs.Responses.{Response, cross_origin}
use Rattle.desk_http.specs.Targets.{path_of}
use Rattle.desk_http.proofs.Named.{resources_are_one}
use Rattle.desk_http.proofs.OneHead.{heads_are_one, no_head_is_none}

pub named_is_one : NamedIsOne
named_is_one path None None x y = refl
named_is_one path None (Some resource) x y = absurd (x resource y)
named_is_one path (Some resource) None x y = absurd (y resource x)
named_is_one path (Some resource) (Some other) x y = ap Some (resources_are_one path resource other x y)

asks-one : (h : RequestHead) (first second : Request) → HeadAsks h first → HeadAsks h second → first ≡ second
asks-one h first second x y =
    x.2 ∙ ap (λ named. asked_of named h.method (map name_and_value h.fields)) (named_is_one (path_of h.target) x.0 y.0 x.1 y.1) ∙ sym y.2

same-front : (front back text later : List ℕ) → length front ≡ length text → front ++ back ≡ text ++ later → front ≡ text
same-front front back text later long e =
    sym (take-append_seam front back) ∙ ap (take (length front)) e ∙ ap (λ n. take n (text ++ later)) long ∙ take-append_seam text later

-- octets that end there are no more than those that don't
cut-off : (front back text later : List ℕ) → later ≡ [] → length text < length front → front ++ back ≡ text ++ later → ⊥
cut-off front back text later end short e =
    let lengths : length front + length back ≡ length text + length later = simp length-append at (ap length e) in
    let none : length later ≡ 0 = ap length end in
    omega (arith, lengths, none, short)

body-one : (request : Request) (body text left later : List ℕ)
    → IsBodyOf request body (Some left) → IsBodyOf request text (Some later) → body ++ left ≡ text ++ later → body ≡ text
body-one (refused wanted) body text left later x y e = x ∙ sym y
body-one (report wanted) body text left later x y e = x ∙ sym y
body-one (message count) body text left later (inl x) (inl y) e = same-front body left text later (x ∙ sym y) e
body-one (message count) body text left later (inl x) (inr y) e =
    absurd (cut-off body left text later y.1 (omega (arith, x, y.0)) e)
body-one (message count) body text left later (inr x) (inl y) e =
    absurd (cut-off text later body left x.1 (omega (arith, y, x.0)) (sym e))
body-one (message count) body text left later (inr x) (inr y) e =
    sym (append-nil body) ∙ ap (λ l. body ++ l) (sym x.1) ∙ e ∙ ap (λ l. text ++ l) y.1 ∙ append-nil text

-- the input, from the head that was read of it
from-head : (octets body left : List ℕ) (h : RequestHead) → octets ≡ print_request h ++ body → octets ++ left ≡ print_request h ++ (body ++ left)
from-head octets body left h e = ap (λ l. l ++ left) e ∙ append_assoc (print_request h) body left

-- what a head with an origin asks for
refused_by_origin : (h : RequestHead) (request : Request) → IsTrue (has_origin (map name_and_value h.fields)) → HeadAsks h request → request ≡ refused cross_origin
refused_by_origin h request origin asks =
    asks.2 ∙ ap (λ b. cond b (refused cross_origin) (asked_of_named asks.0 h.method (map name_and_value h.fields))) origin

no_body : (request : Request) (body left : List ℕ) (wanted : Response) → request ≡ refused wanted → IsBodyOf request body (Some left) → body ≡ []
no_body request body left wanted is whole = let nothing : IsBodyOf (refused wanted) body (Some left) = rw is at whole in nothing

pub origins_are_refused : OriginsAreRefused
origins_are_refused input left after h request body (bad_head none is empty) right fits e origin =
    absurd (no_head_is_none input left after h none (right, e) fits)
origins_are_refused input left after h request body (head k right_too fits_too asks all whole) right fits e origin =
    let heads = heads_are_one (input ++ left) (body ++ left) after k h (right_too, from-head input body left k all) (right, e) in
    let is = refused_by_origin h request origin (subst (λ x. HeadAsks x request) heads.0 asks) in
    let empty = no_body request body left cross_origin is whole in
    (is, empty, ap (λ l. l ++ left) (sym empty) ∙ heads.1)

pub requests_are_one : RequestsAreOne
requests_are_one input left other later request asked body text (bad_head none is empty) (bad_head none_too is_too empty_too) e =
    (is ∙ sym is_too, empty ∙ sym empty_too)
requests_are_one input left other later request asked body text (bad_head none is empty) (head k right fits asks all whole) e =
    absurd (no_head_is_none input left (text ++ later) k none (right, e ∙ from-head other text later k all) fits)
requests_are_one input left other later request asked body text (head h right fits asks all whole) (bad_head none is empty) e =
    absurd (no_head_is_none other later (body ++ left) h none (right, sym e ∙ from-head input body left h all) fits)
requests_are_one input left other later request asked body text (head h right fits asks all whole) (head k right_too fits_too asks_too all_too whole_too) e =
    let one = from-head input body left h all in
    let too = e ∙ from-head other text later k all_too in
    let heads = heads_are_one (input ++ left) (body ++ left) (text ++ later) h k (right, one) (right_too, too) in
    let same = asks-one k request asked (subst (λ x. HeadAsks x request) heads.0 asks) asks_too in
    (same, body-one asked body text left later (subst (λ r. IsBodyOf r body (Some left)) same whole) whole_too heads.1)
