-- What a path names, from the route that is found.
use Rattle.std.proofs.Common.{◌≡◌, ℕ, Bool, true, false, cond, ◌==◌, List, [], ◌∷◌, ◌++◌, codes, Option, Some, None, refl, sym, ap, ◌∙◌, inl, inr, true≢false, append_assoc, append-nil, not, subst}
use Rattle.std.proofs.lemmas.Bool.{and_parts, eqb-true}
use Rattle.std.specs.List.{list_any}
use Rattle.std.specs.Prelude.{IsTrue, option_map}
use Rattle.desk_engine.specs.declared.lists.ListOf.TheVariants.{Senders, Owners, Gateways, Devices}
use Rattle.desk_http.specs.declared.targets.Route.{Route}
use Rattle.desk_http.specs.declared.targets.Route.TheVariants.{Messages, OwnerReport, BandReport, Room, Log, Answers, Listing, Device, Receptions, Downlinks}
use Rattle.desk_http.specs.Targets.{Resource, messages, reports, bands, room, log, answers, lists, device, receptions, downlinks, IsPathTo, Names, is_part, is_slash, list_path, path_to}
use Rattle.desk_http.specs.steps.Targets.{two_parts, after_slash, before_slash, follows, is_empty, is_tail, led, form_of, forms_of, all_routes, named_in_path, resource_of, route_of}
use Rattle.desk_http.proofs.Routes.{drop-one-more, or_false_parts, split, take-one-more}

-- ---- a path with a route has the form of it

follows-is : (front : List ℕ) (kind : List ℕ → Bool) (path : List ℕ) → follows front kind path ≡ true
    → (tail : List ℕ) × (path ≡ front ++ tail) × (kind tail ≡ true)
follows-is [] kind path h = (path, refl, h)
follows-is (x ∷ front) kind [] h = absurd (true≢false (sym h))
follows-is (x ∷ front) kind (c ∷ path) h =
    let parts = and_parts _ _ h in
    let rest = follows-is front kind path parts.1 in
    let same : x ≡ c = eqb-true x c parts.0 in
    let tail : path ≡ front ++ rest.0 = rest.1 in
    (rest.0, cc, rest.2)

led-is : (IsSo : List ℕ → Route → Type 0) → ((route : Route) (names : List ℕ) → is_tail (form_of route).1 names ≡ true → IsSo ((form_of route).0 ++ names) route)
    → (routes : List Route) (path : List ℕ) (route : Route) → led (forms_of routes) path ≡ Some route → IsSo path route
led-is IsSo each [] path route e = cc
led-is IsSo each (first ∷ routes) path route e = by (follows (form_of first).0 (is_tail (form_of first).1) path) refl e (led-is IsSo each routes path route)
  where
    by : (b : Bool) → follows (form_of first).0 (is_tail (form_of first).1) path ≡ b → cond b (Some first) (led (forms_of routes) path) ≡ Some route
        → (led (forms_of routes) path ≡ Some route → IsSo path route) → IsSo path route
    by false at is later = later is
    by true at is later =
        let found = follows-is (form_of first).0 (is_tail (form_of first).1) path at in
        let same : first ≡ route = cc in
        subst (IsSo path) same (subst (λ p. IsSo p first) (sym found.1) (each first found.0 found.2))

empty-is : (text : List ℕ) → is_empty text ≡ true → text ≡ []
empty-is [] h = refl
empty-is (c ∷ text) h = absurd (true≢false (sym h))

-- two parts, and the slash between them
joined : (names : List ℕ) → is_part (after_slash names) ≡ true → names ≡ before_slash names ++ codes "/" ++ after_slash names
joined names part = elim (split names) [
  | inl none ↦ absurd (true≢false (sym part ∙ ap is_part none.after_is))
  | inr some ↦ some.2.text_is ∙ ap (λ front. front ++ 47 ∷ some.1) (sym some.2.before_is) ∙ ap (λ back. before_slash names ++ 47 ∷ back) (sym some.2.after_is)
      ∙ sym (append_assoc (before_slash names) (codes "/") (after_slash names))
]

-- a path of a route's form is that of its resource
form_is : (route : Route) (names : List ℕ) → is_tail (form_of route).1 names ≡ true → IsPathTo ((form_of route).0 ++ names) (resource_of ((form_of route).0 ++ names) route)
form_is Messages names none = (tt, ap (λ text. codes "/v1/messages" ++ text) (empty-is names none))
form_is OwnerReport names parts = (and_parts _ _ parts, ap (λ text. codes "/v1/reports/" ++ text) (joined names (and_parts _ _ parts).1))
form_is Room names parts = (and_parts _ _ parts, ap (λ text. codes "/v1/room/" ++ text) (joined names (and_parts _ _ parts).1))
form_is Receptions names parts = (and_parts _ _ parts, ap (λ text. codes "/v1/receptions/" ++ text) (joined names (and_parts _ _ parts).1))
form_is Downlinks names parts = (and_parts _ _ parts, ap (λ text. codes "/v1/downlinks/" ++ text) (joined names (and_parts _ _ parts).1))
form_is BandReport names part = (part, refl)
form_is Log names part = (part, refl)
form_is Answers names part = (part, refl)
form_is (Listing of) names none = (tt, ap (λ text. list_path of ++ text) (empty-is names none) ∙ append-nil (list_path of))
form_is Device names part = (part, refl)

-- ---- a path of a form has the route of it

parted : (front back : List ℕ) → list_any is_slash front ≡ false
    → (before_slash (front ++ 47 ∷ back) ≡ front) × (after_slash (front ++ 47 ∷ back) ≡ back)
parted [] back none = (refl, refl)
parted (c ∷ front) back none =
    let first : (c == 47) ≡ false = (or_false_parts (c == 47) (list_any is_slash front) none).0 in
    let rest = parted front back (or_false_parts (c == 47) (list_any is_slash front) none).1 in
    (rw first (take-one-more _ c (front ++ 47 ∷ back) ∙ ap (λ text. c ∷ text) rest.0), rw first (drop-one-more _ c (front ++ 47 ∷ back) ∙ rest.1))

no_slash : (text : List ℕ) → is_part text ≡ true → list_any is_slash text ≡ false
no_slash [] h = refl
no_slash (c ∷ text) h = elim (list_any is_slash (c ∷ text)) as (λ b. not b ≡ true → b ≡ false) [ true ↦ λ e. absurd (true≢false (sym e)) | false ↦ λ e. refl ] h

-- the route of a path with one part is asked of
one-found : (f : Route → Resource) (route : Route) (part : List ℕ) → is_part part ≡ true → option_map f (cond (is_part part) (Some route) None) ≡ Some (f route)
one-found f route part is = rw is refl

-- and of one with two
two-found : (f : Route → Resource) (make : List ℕ → List ℕ → Resource) (route : Route) (first second : List ℕ) → IsTrue (is_part first) × IsTrue (is_part second)
    → f route ≡ make (before_slash (first ++ 47 ∷ second)) (after_slash (first ++ 47 ∷ second))
    → option_map f (cond (is_tail two_parts (first ++ 47 ∷ second)) (Some route) None) ≡ Some (make first second)
two-found f make route first second parts is =
    let names = parted first second (no_slash first parts.0) in
    let made : f route ≡ make first second = is ∙ ap (λ n. make n (after_slash (first ++ 47 ∷ second))) names.0 ∙ ap (make first) names.1 in
    rw (names.0, names.1, parts.0, parts.1) (ap Some made)

found : (path : List ℕ) (resource : Resource) → IsPathTo path resource → named_in_path path ≡ Some resource
unfolding route_of
found path messages at = ap named_in_path at.1
found path (bands gateway) at = ap named_in_path at.1 ∙ one-found (resource_of (path_to (bands gateway))) BandReport gateway at.0
found path (log from) at = ap named_in_path at.1 ∙ one-found (resource_of (path_to (log from))) Log from at.0
found path (answers from) at = ap named_in_path at.1 ∙ one-found (resource_of (path_to (answers from))) Answers from at.0
found path (device dev_eui) at = ap named_in_path at.1 ∙ one-found (resource_of (path_to (device dev_eui))) Device dev_eui at.0
found path (lists Senders) at = ap named_in_path at.1
found path (lists Owners) at = ap named_in_path at.1
found path (lists Gateways) at = ap named_in_path at.1
found path (lists Devices) at = ap named_in_path at.1
found path (reports owner month) at =
    let names = codes "/v1/reports/" ++ (owner ++ 47 ∷ month) in
    ap named_in_path (at.1 ∙ ap (λ tail. codes "/v1/reports/" ++ tail) (append_assoc owner (codes "/") month))
    ∙ two-found (resource_of names) reports OwnerReport owner month at.0 refl
found path (room gateway time) at =
    let names = codes "/v1/room/" ++ (gateway ++ 47 ∷ time) in
    ap named_in_path (at.1 ∙ ap (λ tail. codes "/v1/room/" ++ tail) (append_assoc gateway (codes "/") time))
    ∙ two-found (resource_of names) room Room gateway time at.0 refl
found path (receptions dev_eui month) at =
    let names = codes "/v1/receptions/" ++ (dev_eui ++ 47 ∷ month) in
    ap named_in_path (at.1 ∙ ap (λ tail. codes "/v1/receptions/" ++ tail) (append_assoc dev_eui (codes "/") month))
    ∙ two-found (resource_of names) receptions Receptions dev_eui month at.0 refl
found path (downlinks gateway month) at =
    let names = codes "/v1/downlinks/" ++ (gateway ++ 47 ∷ month) in
    ap named_in_path (at.1 ∙ ap (λ tail. codes "/v1/downlinks/" ++ tail) (append_assoc gateway (codes "/") month))
    ∙ two-found (resource_of names) downlinks Downlinks gateway month at.0 refl

-- ---- so a path names what is found, and nothing else

pub named_is : (path : List ℕ) → Names path (named_in_path path)
unfolding route_of
named_is path = by (route_of path) refl
  where
    by : (route : Option Route) → route_of path ≡ route → Names path (option_map (resource_of path) route)
    by None e = λ resource at. let none = sym (ap (option_map (resource_of path)) e) ∙ found path resource at in cc
    by (Some route) e = led-is (λ p r. IsPathTo p (resource_of p r)) form_is all_routes path route e

pub resources_are_one : (path : List ℕ) (first second : Resource) → IsPathTo path first → IsPathTo path second → first ≡ second
resources_are_one path first second x y = let same = sym (found path first x) ∙ found path second y in cc
