-- The new desk represents the empty log, and closing it leaves the log after the deliveries, or what a crash may leave.
use Rattle.std.proofs.Common.{[], None}
use Rattle.desk_cli.proofs.OnTables.{closed, keeps_rules, leaves_rules, left, survives, unshut_by, was_in_order, was_new}
use Rattle.desk_cli.proofs.on_tables.run_on_tables.Goals as goal

pub returns-in-Ok-deliver_all-clause-outcomes : goal.returns-in-Ok-deliver_all-clause-outcomes
returns-in-Ok-deliver_all-clause-outcomes g c = λ clean.
    let sound = c.close.ensures.sound clean in
    let ran = c.in-Ok-deliver_all.ensures.store in
    let was = was_new _ _ _ (c.nothing_is_heard.ensures c.args.config) (c.in-Ok.ensures.made (ran.call.was_sound sound)) in
    c.in-Ok-deliver_all.ensures.outcomes c.args.config [] (was_in_order _ _ _ _ _ was sound)

pub returns-in-Ok-deliver_all-clause-repeats : goal.returns-in-Ok-deliver_all-clause-repeats
returns-in-Ok-deliver_all-clause-repeats g c = λ clean.
    let sound = c.close.ensures.sound clean in
    let ran = c.in-Ok-deliver_all.ensures.store in
    let was = was_new _ _ _ (c.nothing_is_heard.ensures c.args.config) (c.in-Ok.ensures.made (ran.call.was_sound sound)) in
    c.in-Ok-deliver_all.ensures.repeats c.args.config [] (was_in_order _ _ _ _ _ was sound)

pub returns-in-Ok-deliver_all-clause-rules_before : goal.returns-in-Ok-deliver_all-clause-rules_before
returns-in-Ok-deliver_all-clause-rules_before g c = λ clean.
    let sound = c.close.ensures.sound clean in
    let ran = c.in-Ok-deliver_all.ensures.store in
    let was = was_new _ _ _ (c.nothing_is_heard.ensures c.args.config) (c.in-Ok.ensures.made (ran.call.was_sound sound)) in
    c.in-Ok-deliver_all.ensures.rules_before c.args.config [] (was_in_order _ _ _ _ _ was sound)

pub returns-in-Ok-deliver_all-clause-uplinks : goal.returns-in-Ok-deliver_all-clause-uplinks
returns-in-Ok-deliver_all-clause-uplinks g c = λ clean.
    let sound = c.close.ensures.sound clean in
    let ran = c.in-Ok-deliver_all.ensures.store in
    let was = was_new _ _ _ (c.nothing_is_heard.ensures c.args.config) (c.in-Ok.ensures.made (ran.call.was_sound sound)) in
    c.in-Ok-deliver_all.ensures.uplinks c.args.config [] (was_in_order _ _ _ _ _ was sound)

pub returns-in-Ok-deliver_all-clause-tables : goal.returns-in-Ok-deliver_all-clause-tables
returns-in-Ok-deliver_all-clause-tables g c = λ clean is.
    let sound = c.close.ensures.sound clean in
    let ran = c.in-Ok-deliver_all.ensures.store in
    let was = was_new _ _ _ (c.nothing_is_heard.ensures c.args.config) (c.in-Ok.ensures.made (ran.call.was_sound sound)) in
    let order = ran.order c.args.config [] (was_in_order _ _ _ _ _ was sound) in
    closed _ _ _ _ _ was ran.call.same c.close.result _ (unshut_by _ _ _ ran.call is) sound order c.close.ensures.in_order

pub returns-in-Ok-deliver_all-clause-crash : goal.returns-in-Ok-deliver_all-clause-crash
returns-in-Ok-deliver_all-clause-crash g c = λ clean.
    let sound = c.close.ensures.sound clean in
    let ran = c.in-Ok-deliver_all.ensures.store in
    let was_sound = ran.call.was_sound sound in
    let was = was_new _ _ _ (c.nothing_is_heard.ensures c.args.config) (c.in-Ok.ensures.made was_sound) in
    let crash = ran.crash c.args.config [] None (was_in_order _ _ _ _ _ was sound) (survives _ _ _ _ was g.met.S.Store.settled was_sound) in
    left _ _ _ _ _ was ran.call.same c.close.result _ _ crash c.close.ensures.left

pub returns-in-Ok-deliver_all-clause-rules : goal.returns-in-Ok-deliver_all-clause-rules
returns-in-Ok-deliver_all-clause-rules g c = λ clean is.
    keeps_rules c.rules_are_kept.ensures c.args.config _ _ (returns-in-Ok-deliver_all-clause-tables g c clean is).0.tables

pub returns-in-Ok-deliver_all-clause-rules_left : goal.returns-in-Ok-deliver_all-clause-rules_left
returns-in-Ok-deliver_all-clause-rules_left g c = λ clean trees may.
    leaves_rules c.rules_are_kept.ensures c.args.config _ _ trees (returns-in-Ok-deliver_all-clause-crash g c clean trees may)
