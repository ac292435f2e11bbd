-- Both databases have committed everything and neither store is broken, so the compared rows are those of the databases.
use Rattle.std.proofs.Common.{◌∙◌, refl, sym, ap, subst₂, arith}
use Rattle.sqlite.specs.Held.{state}
use Rattle.sqlite_trees.specs.View.{View, IsClean}
use Rattle.desk_cli.specs.steps.Audit.{IsFoundBeside}
use Rattle.desk_cli.proofs.Compared.{WasAtRest, at_rest, became_store, if_ok, on_ok, still_fresh}
use Rattle.desk_cli.proofs.audit.comparing.compared_desks.Goals as goal

pub returns-clause-compared : goal.returns-clause-compared
returns-clause-compared g c = λ sure other_sure.
    let a = g.S.Store.view in
    let b = g.R.Store.view in
    let one : IsClean (a c.into_store-store.result) = omega (arith, c.compared-found.ensures.one.clean, sure) in
    let two : IsClean (b c.into_store-other.result) = omega (arith, c.compared-found.ensures.other.clean, other_sure) in
    let rest : WasAtRest (state g.S.Store c.args.conn) (a c.into_store-store.result).trees =
    at_rest (state g.S.Store c.args.conn) (a c.args.conn.store) (a c.into_store-store.result) refl refl (c.is_autocommit.ensures.settled c.if-prove.false) c.into_store-store.ensures.undone one
    (g.met.S.Store.broken_if_shut c.into_store-store.result) (sym (c.is_broken.ensures one) ∙ c.if-is_broken.false) in
    let other_rest : WasAtRest (state g.R.Store c.args.other) (b c.into_store-other.result).trees =
    at_rest (state g.R.Store c.args.other) (b c.args.other.store) (b c.into_store-other.result) refl refl (c.is_autocommit-2.ensures.settled c.if-prove-2.false) c.into_store-other.ensures.undone two
    (g.met.R.Store.broken_if_shut c.into_store-other.result) (sym (c.is_broken-else-is_broken.ensures two) ∙ c.if-is_broken-2.false) in
    if_ok c.compared-found.result (λ finding found. subst₂ (λ l r. IsFoundBeside l r finding) (sym rest.trees_are) (sym other_rest.trees_are) found) (c.compared-found.ensures.compared sure other_sure)

pub returns-clause-became : goal.returns-clause-became
returns-clause-became g c = on_ok c.compared-found.result (λ ok sure.
    let a = g.S.Store.view in
    let one : IsClean (a c.into_store-store.result) = omega (arith, c.compared-found.ensures.one.clean, sure) in
    let rest : WasAtRest (state g.S.Store c.args.conn) (a c.into_store-store.result).trees =
    at_rest (state g.S.Store c.args.conn) (a c.args.conn.store) (a c.into_store-store.result) refl refl (c.is_autocommit.ensures.settled c.if-prove.false) c.into_store-store.ensures.undone one
    (g.met.S.Store.broken_if_shut c.into_store-store.result) (sym (c.is_broken.ensures one) ∙ c.if-is_broken.false) in
    became_store g.S.Store c.args.conn c.compared-found.new.one (a c.into_store-store.result).trees rest (c.schema.ensures.live rest.is_open).0
    (ap (λ (v : View). v.trees) (c.compared-found.ensures.one.same sure ok)))

pub returns-clause-fresh : goal.returns-clause-fresh
returns-clause-fresh g c = on_ok c.compared-found.result (λ ok sure.
    let a = g.S.Store.view in
    still_fresh (a c.args.conn.store) (a c.into_store-store.result) (a c.compared-found.new.one) c.into_store-store.ensures.undone c.into_store-store.ensures.numbered
    (g.met.S.Store.broken_if_shut c.into_store-store.result) (λ one. sym (c.is_broken.ensures one) ∙ c.if-is_broken.false) _ ok c.compared-found.ensures.one sure)
