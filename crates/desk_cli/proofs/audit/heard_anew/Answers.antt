-- The new desk represents the log that it heard, so if the rows of both are the same, the audited database is that desk.
use Rattle.std.proofs.Common.{List, arith}
use Rattle.registry_core.specs.declared.messages.Envelope.{Envelope}
use Rattle.registry_core.specs.Heard.{IsHeard}
use Rattle.sqlite.specs.Held.{state}
use Rattle.sqlite.specs.State.{HasCleanDisk, IsUnchanged}
use Rattle.sqlite_trees.specs.View.{IsClean}
use Rattle.desk_engine.specs.InOrder.{kept_after}
use Rattle.desk_tables.specs.InOrder.{IsOfDesk}
use Rattle.desk_cli.specs.steps.Audit.{BecameStore, IsFoundBeside}
use Rattle.desk_cli.proofs.Compared.{at_ok, at_on_ok, became_store_too, is_desk_too}
use Rattle.desk_cli.proofs.HeardAnew.{log_was_heard}
use Rattle.desk_cli.proofs.audit.heard_anew.Goals as goal

pub returns-in-Ok-default-default-clause-found : goal.returns-in-Ok-default-default-clause-found
returns-in-Ok-default-default-clause-found g c = λ sure other_sure opened schema.
    let clean : HasCleanDisk (state g.S.Store c.hear_log.new.conn) = omega (arith, c.compared_desks.ensures.clean, sure) in
    let other_clean : HasCleanDisk (state g.R.Store c.close-other.result) = omega (arith, c.compared_desks.ensures.other_clean, other_sure) in
    let same : IsUnchanged (state g.S.Store c.args.conn) (state g.S.Store c.hear_log.new.conn) = c.in_ok-hear_log.ensures.read.leaves schema opened clean in
    let its_store : IsClean (g.S.Store.view c.compared_desks.result.1) → BecameStore g.S.Store c.hear_log.new.conn c.compared_desks.result.1 =
    at_on_ok _ _ _ c.in-Ok-default-default.is-0 c.compared_desks.ensures.became in
    let became : BecameStore g.S.Store c.args.conn c.compared_desks.result.1 = became_store_too g.S.Store c.hear_log.new.conn c.args.conn c.compared_desks.result.1 (its_store sure) same in
    let log : (heard : List Envelope) × IsHeard c.args.config heard × IsOfDesk c.args.config (kept_after c.args.config heard) (state g.R.Store c.close-other.result).now =
    log_was_heard g.R.Store c.args.config c.in-Ok.tables c.hear_log.new.keeper c.close-other.result c.in_ok-hear_log.ensures.heard c.in-Ok.ensures.made
    (c.nothing_is_heard.ensures c.args.config) (c.close-other.ensures.sound other_clean) c.close-other.ensures.in_order in
    is_desk_too c.as_many_entries_as_messages.ensures (state g.S.Store c.args.conn) (state g.S.Store c.hear_log.new.conn) (state g.R.Store c.close-other.result).now same schema became.sound c.args.config log
    c.in-Ok-default-default.finding
    (at_ok (IsFoundBeside (state g.S.Store c.hear_log.new.conn).now.trees (state g.R.Store c.close-other.result).now.trees) _ _ c.in-Ok-default-default.is-0
    (c.compared_desks.ensures.compared sure other_sure))

pub returns-in-Ok-default-default-clause-became : goal.returns-in-Ok-default-default-clause-became
returns-in-Ok-default-default-clause-became g c = λ sure opened schema.
    let clean : HasCleanDisk (state g.S.Store c.hear_log.new.conn) = omega (arith, c.compared_desks.ensures.clean, sure) in
    let its_store : IsClean (g.S.Store.view c.compared_desks.result.1) → BecameStore g.S.Store c.hear_log.new.conn c.compared_desks.result.1 =
    at_on_ok _ _ _ c.in-Ok-default-default.is-0 c.compared_desks.ensures.became in
    became_store_too g.S.Store c.hear_log.new.conn c.args.conn c.compared_desks.result.1 (its_store sure) (c.in_ok-hear_log.ensures.read.leaves schema opened clean)

pub returns-in-Ok-default-default-clause-fresh : goal.returns-in-Ok-default-default-clause-fresh
returns-in-Ok-default-default-clause-fresh g c = at_on_ok _ _ _ c.in-Ok-default-default.is-0 c.compared_desks.ensures.fresh
