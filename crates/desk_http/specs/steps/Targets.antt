-- How the route of a path is found, and the names in it.
use Rattle.std.specs.Prelude.{ℕ, List, [], ◌∷◌, Bool, true, false, ◌&&◌, ◌==◌, codes, map, Option, Some, None, option_map, if◌then◌else◌}
use Rattle.std.specs.List.{after_first, before_first}
use Rattle.desk_engine.specs.declared.lists.ListOf.TheVariants.{Senders, Owners, Gateways, Devices}
use Rattle.desk_http.specs.declared.targets.Route.{Route}
use Rattle.desk_http.specs.declared.targets.Route.TheVariants.{Messages, OwnerReport, BandReport, Room, Log, Answers, Listing, Device, Receptions, Downlinks}
use Rattle.desk_http.specs.Targets.{Resource, messages, reports, bands, room, log, answers, lists, device, receptions, downlinks, is_part, is_slash, list_path}

-- what precedes the first slash, and what follows it
abbrev pub before_slash : List ℕ → List ℕ
before_slash text = before_first is_slash text

abbrev pub after_slash : List ℕ → List ℕ
after_slash text = after_first is_slash text

-- what follows the third slash of a path
abbrev pub names_of : List ℕ → List ℕ
names_of path = after_slash (after_slash (after_slash path))

abbrev pub is_empty : List ℕ → Bool
is_empty [] = true
is_empty (c ∷ text) = false

-- what comes after the front of a path: nothing, one part, or two parts with a slash between them
pub data Tail : Type 0 where
  nothing : Tail
  one_part : Tail
  two_parts : Tail

abbrev pub is_tail : Tail → List ℕ → Bool
is_tail nothing text = is_empty text
is_tail one_part text = is_part text
is_tail two_parts text = is_part (before_slash text) && is_part (after_slash text)

-- the text begins with these octets, and what follows is of this kind
abbrev pub follows : List ℕ → (List ℕ → Bool) → List ℕ → Bool
follows [] kind text = kind text
follows (x ∷ front) kind [] = false
follows (x ∷ front) kind (c ∷ text) = (x == c) && follows front kind text

-- a form of paths: their front, what comes after it, and the value for such a path
abbrev pub Form : Type 0 → Type 0
Form V = List ℕ × Tail × V

-- the value of the path, by the first of these forms that it has
abbrev pub led : {V : Type 0} → List (Form V) → List ℕ → Option V
led [] path = None
led ((front, tail, value) ∷ forms) path = if follows front (is_tail tail) path then Some value else led forms path

-- the front of the paths of a route, and what comes after it
abbrev pub form_of : Route → List ℕ × Tail
form_of Messages = (codes "/v1/messages", nothing)
form_of OwnerReport = (codes "/v1/reports/", two_parts)
form_of BandReport = (codes "/v1/bands/", one_part)
form_of Room = (codes "/v1/room/", two_parts)
form_of Log = (codes "/v1/log/", one_part)
form_of Answers = (codes "/v1/answers/", one_part)
form_of (Listing of) = (list_path of, nothing)
form_of Device = (codes "/v1/devices/", one_part)
form_of Receptions = (codes "/v1/receptions/", two_parts)
form_of Downlinks = (codes "/v1/downlinks/", two_parts)

abbrev pub forms_of : List Route → List (Form Route)
forms_of routes = map (λ route. ((form_of route).0, (form_of route).1, route)) routes

-- all of them, in the order of their paths; a path comes after those that it begins
abbrev pub all_routes : List Route
all_routes =
    Answers ∷ BandReport ∷ Device ∷ Listing Devices ∷ Downlinks ∷ Listing Gateways ∷ Log ∷ Messages ∷ Listing Owners ∷ Receptions
    ∷ OwnerReport ∷ Room ∷ Listing Senders ∷ []

unfoldable pub route_of : List ℕ → Option Route
route_of path = led (forms_of all_routes) path

-- the resource of a route, with the names that the path has
abbrev pub resource_of : List ℕ → Route → Resource
resource_of path Messages = messages
resource_of path OwnerReport = reports (before_slash (names_of path)) (after_slash (names_of path))
resource_of path BandReport = bands (names_of path)
resource_of path Room = room (before_slash (names_of path)) (after_slash (names_of path))
resource_of path Log = log (names_of path)
resource_of path Answers = answers (names_of path)
resource_of path (Listing of) = lists of
resource_of path Device = device (names_of path)
resource_of path Receptions = receptions (before_slash (names_of path)) (after_slash (names_of path))
resource_of path Downlinks = downlinks (before_slash (names_of path)) (after_slash (names_of path))

abbrev pub named_in_path : List ℕ → Option Resource
named_in_path path = option_map (resource_of path) (route_of path)
