-- The router has the thirteen forms of paths, and finds the first that the path has, or that it has none.
use Rattle.std.proofs.Common.{refl}
use Rattle.matchit.proofs.OnLiterals.{matchit_on_literals}
use Rattle.matchit.specs.Router.{RouteOf}
use Rattle.desk_http.specs.steps.Targets.{all_routes, forms_of, route_of}
use Rattle.desk_http.specs.declared.targets.Route.{Route}
use Rattle.desk_http.proofs.Routes.{AreOctets-from, routed}
use Rattle.desk_http.proofs.targets.route_of.Goals as goal

abbrev value : RouteOf Route → Route
value e = e.value

pub returns-in-Ok : goal.returns-in-Ok
unfolding matchit_on_literals route_of
returns-in-Ok c =
    let found = rw (c.in_ok-insert-13.ensures.1, c.in_ok-insert-12.ensures.1, c.in_ok-insert-11.ensures.1, c.in_ok-insert-10.ensures.1, c.in_ok-insert-9.ensures.1, c.in_ok-insert-8.ensures.1, c.in_ok-insert-7.ensures.1, c.in_ok-insert-6.ensures.1, c.in_ok-insert-5.ensures.1, c.in_ok-insert-4.ensures.1, c.in_ok-insert-3.ensures.1, c.in_ok-insert-2.ensures.1, c.in_ok-insert.ensures.1, c.new-router.ensures) at c.in-Ok.ensures.found in
    routed value _ (forms_of all_routes) refl refl c.args.path.now (AreOctets-from _ c.type_inv.path) _ found

pub returns : goal.returns
unfolding matchit_on_literals route_of
returns c =
    let missing = rw (c.in_ok-insert-13.ensures.1, c.in_ok-insert-12.ensures.1, c.in_ok-insert-11.ensures.1, c.in_ok-insert-10.ensures.1, c.in_ok-insert-9.ensures.1, c.in_ok-insert-8.ensures.1, c.in_ok-insert-7.ensures.1, c.in_ok-insert-6.ensures.1, c.in_ok-insert-5.ensures.1, c.in_ok-insert-4.ensures.1, c.in_ok-insert-3.ensures.1, c.in_ok-insert-2.ensures.1, c.in_ok-insert.ensures.1, c.new-router.ensures) at c.in-Err.ensures.missing in
    routed value _ (forms_of all_routes) refl refl c.args.path.now (AreOctets-from _ c.type_inv.path) _ missing
