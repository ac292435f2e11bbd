-- Laws of requests. A path names at most one resource, with the names in it. A request with an origin is refused before its path is looked
-- at. An input is at most one request.
use Rattle.std.specs.Prelude.{◌≡◌, ℕ, List, [], ◌++◌, IsTrue, Option, Some, map}
use Rattle.httparse.specs.Grammar.{RequestHead, IsRequestHead, print_request}
use Rattle.httparse.specs.Spans.{name_and_value}
use Rattle.desk_http.specs.Fields.{has_origin}
use Rattle.desk_http.specs.Heads.{IsWithinLimits}
use Rattle.desk_http.specs.Requests.{IsReadAs, Request, refused}
use Rattle.desk_http.specs.Responses.{cross_origin}
use Rattle.desk_http.specs.Targets.{Names, Resource}

-- two resources that a path names are the same, or it names none
abbrev pub NamedIsOne : Type 0
NamedIsOne = (path : List ℕ) (first second : Option Resource) → Names path first → Names path second → first ≡ second

-- If an input begins with a head that has an origin, exactly that head is read of it, and it is refused for its origin.
abbrev pub OriginsAreRefused : Type 0
OriginsAreRefused = (input left after : List ℕ) (h : RequestHead) (request : Request) (body : List ℕ)
    → IsReadAs input (Some left) request body → IsRequestHead h → IsWithinLimits h → input ++ left ≡ print_request h ++ after
    → IsTrue (has_origin (map name_and_value h.fields)) → (request ≡ refused cross_origin) × (body ≡ []) × (left ≡ after)

-- two requests that were read of one input, with more or less of it left, are the same, and have the same body
abbrev pub RequestsAreOne : Type 0
RequestsAreOne = (input left other later : List ℕ) (first second : Request) (body text : List ℕ)
    → IsReadAs input (Some left) first body → IsReadAs other (Some later) second text → input ++ left ≡ other ++ later
    → (first ≡ second) × (body ≡ text)
