-- The connection over the store that the comparison returned has the tables that it began with, so the finding is about them.
use Rattle.std.proofs.Common.{arith}
use Rattle.sqlite_trees.specs.View.{IsClean}
use Rattle.desk_cli.proofs.Audited.{found_is, given_back_again}
use Rattle.desk_cli.proofs.audit.audited_beside.Goals as goal

pub returns-in-Ok-over-clause-passes : goal.returns-in-Ok-over-clause-passes
returns-in-Ok-over-clause-passes g c = λ sure scratch_sure.
    let store_sure : IsClean (g.S.Store.view c.in-Ok-heard_anew.store) = omega (arith, c.in-Ok-over.ensures.clean, sure) in
    found_is g.S.Store c.args.conn c.in-Ok.found.1 c.in-Ok-over.conn c.in-Ok-heard_anew.store g.met.S.Store.settled g.met.S.Store.stays c.in-Ok.ensures.desk
    c.in-Ok-heard_anew.ensures.clean c.in-Ok-heard_anew.ensures.became c.in-Ok-over.ensures.clean c.in-Ok-over.ensures.opens c.in-Ok-over.ensures.trees
    sure c.in-Ok.found.0 c.in-Ok-heard_anew.finding (λ opened schema. c.in-Ok-heard_anew.ensures.found store_sure scratch_sure opened schema)

pub returns-in-Ok-over-clause-kept : goal.returns-in-Ok-over-clause-kept
returns-in-Ok-over-clause-kept g c =
    given_back_again g.S.Store c.args.conn c.in-Ok.found.1 c.in-Ok-over.conn c.in-Ok-heard_anew.store g.met.S.Store.settled g.met.S.Store.stays c.in-Ok.ensures.desk
    c.in-Ok-heard_anew.ensures.clean c.in-Ok-heard_anew.ensures.became c.in-Ok-over.ensures.clean c.in-Ok-over.ensures.opens c.in-Ok-over.ensures.trees
    c.in-Ok.ensures.clean c.in-Ok-over.ensures.fresh.autocommit
