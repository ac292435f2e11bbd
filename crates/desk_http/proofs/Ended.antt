-- How serving a request ended: a response was written, the write failed, or the request was refused by its head.
use Rattle.std.proofs.Common.{◌≡◌, ℕ, List, [], ◌∷◌, ◌++◌, Option, length, take, drop, map, refl, ap, sym, ◌∙◌, subst, append-nil}
use Rattle.std.proofs.KnownBytes.{Consumes-nil, Consumes-trans}
use Rattle.std.specs.List.{All}
use Rattle.std.specs.Io.KnownBytes.{Consumes, IsAtEnd}
use Rattle.httparse.specs.Grammar.{RequestHead, print_request}
use Rattle.httparse.specs.Spans.{IsHeaderWithin, IsRequestAt, header_bytes, name_and_value, span_bytes}
use Rattle.httparse.specs.declared.spans.HeaderSpan.{HeaderSpan}
use Rattle.httparse.specs.declared.spans.RequestSpans.{RequestSpans}
use Rattle.desk_store.specs.Meaning.{Meaning}
use Rattle.desk_http.specs.declared.asking.Asked.{Asked}
use Rattle.desk_http.specs.declared.serving.ServeEnd.{ServeEnd}
use Rattle.desk_http.specs.declared.serving.ServeEnd.TheVariants.{Done, Closed, Read, Write, Memory}
use Rattle.desk_http.specs.Heads.{IsWithinLimits}
use Rattle.desk_http.specs.Requests.{HeadAsks, IsBodyOf, Request, asked_of, head, refused}
use Rattle.desk_http.specs.Responses.{Response}
use Rattle.desk_http.specs.Serving.{ServingEndsBy, Serves, ServesRequest}
use Rattle.desk_http.specs.Targets.{path_of}
use Rattle.desk_http.specs.steps.Answering.{WritesResponse}
use Rattle.desk_http.specs.steps.Requests.{request_of}
use Rattle.desk_http.specs.steps.Targets.{named_in_path}
use Rattle.desk_http.proofs.Named.{named_is}

-- what serves one way serves another
pub ends-more : {K : Type 0} (old new : K) (P Q : Response → Type 0) (A B : Type 0) (before after : Option (List ℕ)) (end : ServeEnd)
    → ((r : Response) → P r → Q r) → (A → B) → ServingEndsBy old new P A before after end → ServingEndsBy old new Q B before after end
ends-more old new P Q A B before after (Done status) f a h = (h.0, h.1, f h.0 h.2, h.3)
ends-more old new P Q A B before after Closed f a h = (a h.0, h.1)
ends-more old new P Q A B before after Read f a h = h
ends-more old new P Q A B before after Write f a h = (h.0, f h.0 h.1)
ends-more old new P Q A B before after Memory f a h = h

-- a response that was written, or a write of it failed
pub ends-written : {K : Type 0} (old new : K) (response : Response) (P : Response → Type 0) (A : Type 0) (before after : Option (List ℕ)) (end : ServeEnd)
    → P response → WritesResponse response before after end → ServingEndsBy old new P A before after end
ends-written old new response P A before after (Done status) serves h = (h.0, h.1, subst P (sym h.2) serves, h.3)
ends-written old new response P A before after Closed serves h = absurd h
ends-written old new response P A before after Read serves h = absurd h
ends-written old new response P A before after Write serves h = (response, serves)
ends-written old new response P A before after Memory serves h = absurd h

-- a request that is refused: nothing after its head was read, and its response was written
pub ends_refused : {K : Type 0} (m : Meaning K) (kept : K) (response : Response) (request : Request) (left before after : Option (List ℕ)) (end : ServeEnd)
    → WritesResponse response before after end → request ≡ refused response
    → ServingEndsBy kept kept (λ r. (body : List ℕ) × Consumes left left body × IsBodyOf request body left × ServesRequest m kept kept request body r) ⊥ before after end
ends_refused m kept response request left before after end written is =
    rw is (ends-written kept kept response _ ⊥ before after end ([], Consumes-nil left, refl, (refl, refl)) written)

drop-all : (xs : List ℕ) → drop (length xs) xs ≡ []
drop-all [] = refl
drop-all (x ∷ xs) = drop-all xs

-- every span lies in the head, which is all of the octets
pub spans_fit : (octets : List ℕ) (spans : RequestSpans) (fields : List HeaderSpan) (len : ℕ) → spans.len ≡ len → All (IsHeaderWithin spans.len) fields → All (IsHeaderWithin len) fields
spans_fit octets spans fields len e h = subst (λ n. All (IsHeaderWithin n) fields) e h

-- octets that are exactly a head are that head
all_head : (octets : List ℕ) (headers : List HeaderSpan) (spans : RequestSpans) (h : RequestHead) → IsRequestAt octets headers spans h → spans.len ≡ length octets → octets ≡ print_request h
all_head octets headers spans h at all =
    let rest : drop spans.len octets ≡ [] = rw all (drop-all octets) in
    at.reads.1 ∙ ap (λ l. print_request h ++ l) rest ∙ append-nil (print_request h)

-- what is asked with the parts of a head is what is asked with the head
asked_is : (octets : List ℕ) (headers : List HeaderSpan) (spans : RequestSpans) (h : RequestHead) → IsRequestAt octets headers spans h
    → asked_of (named_in_path (path_of (span_bytes octets spans.path))) (span_bytes octets spans.method) (map (header_bytes octets) (take spans.headers headers))
    ≡ asked_of (named_in_path (path_of h.target)) h.method (map name_and_value h.fields)
asked_is octets headers spans h at =
    ap (λ m. asked_of (named_in_path (path_of (span_bytes octets spans.path))) m (map (header_bytes octets) (take spans.headers headers))) at.method
    ∙ ap (λ t. asked_of (named_in_path (path_of t)) h.method (map (header_bytes octets) (take spans.headers headers))) at.path
    ∙ ap (λ f. asked_of (named_in_path (path_of h.target)) h.method f) at.fields

module _ {K : Type 0} (m : Meaning K) (old new : K) where
  -- a head and what came after it
  pub served : (end : ServeEnd) (h : RequestHead) (octets : List ℕ) (headers : List HeaderSpan) (spans : RequestSpans) (asked : Asked) (target : List ℕ) (from mid rest before after : Option (List ℕ))
      → Consumes from mid octets → IsRequestAt octets headers spans h → spans.len ≡ length octets → IsWithinLimits h → target ≡ span_bytes octets spans.path
      → request_of (path_of (span_bytes octets spans.path)) asked
      ≡ asked_of (named_in_path (path_of (span_bytes octets spans.path))) (span_bytes octets spans.method) (map (header_bytes octets) (take spans.headers headers))
      → ServingEndsBy old new (λ r. (body : List ℕ) × Consumes mid rest body × IsBodyOf (request_of (path_of target) asked) body rest
      × ServesRequest m old new (request_of (path_of target) asked) body r) ⊥ before after end
      → ServingEndsBy old new (λ r. (input : List ℕ) × Consumes from rest input × Serves m old new input rest r) (Consumes from rest [] × IsAtEnd rest) before after end
  served end h octets headers spans asked target from mid rest before after read at all fits target_is asked_are done =
      let octets_are = all_head octets headers spans h at all in
      let request_is = ap (λ t. request_of (path_of t) asked) target_is ∙ asked_are ∙ asked_is octets headers spans h at in
      let asks : HeadAsks h (request_of (path_of target) asked) = (named_in_path (path_of h.target), named_is (path_of h.target), request_is) in
      ends-more old new _ _ _ _ before after end
      (λ r p. (
        octets ++ p.0,
        Consumes-trans from mid rest octets p.0 read p.1,
        (request_of (path_of target) asked, p.0, head h at.reads.0 fits asks (ap (λ l. l ++ p.0) octets_are) p.2, p.3),
      ))
      (λ a. absurd a) done
