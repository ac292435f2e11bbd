-- On disks that return what was written, the outcomes are those of the run, and what is found is what its crash may leave.
use Rattle.desk_cli.proofs.FoundAgain.{is_clean}
use Rattle.desk_cli.proofs.stopping.run_and_stop.Goals as goal

pub returns-in-Ok-opened_after_stop-clause-outcomes : goal.returns-in-Ok-opened_after_stop-clause-outcomes
returns-in-Ok-opened_after_stop-clause-outcomes g c = λ always.
    rw c.in-Ok.is at (c.run_on_tables-outcomes.ensures.outcomes (is_clean always c.run_on_tables-outcomes.result.1.store))

pub returns-in-Ok-opened_after_stop-clause-repeats : goal.returns-in-Ok-opened_after_stop-clause-repeats
returns-in-Ok-opened_after_stop-clause-repeats g c = λ always.
    rw c.in-Ok.is at (c.run_on_tables-outcomes.ensures.repeats (is_clean always c.run_on_tables-outcomes.result.1.store))

pub returns-in-Ok-opened_after_stop-clause-rules_before : goal.returns-in-Ok-opened_after_stop-clause-rules_before
returns-in-Ok-opened_after_stop-clause-rules_before g c = λ always.
    rw c.in-Ok.is at (c.run_on_tables-outcomes.ensures.rules_before (is_clean always c.run_on_tables-outcomes.result.1.store))

pub returns-in-Ok-opened_after_stop-clause-uplinks : goal.returns-in-Ok-opened_after_stop-clause-uplinks
returns-in-Ok-opened_after_stop-clause-uplinks g c = λ always.
    rw c.in-Ok.is at (c.run_on_tables-outcomes.ensures.uplinks (is_clean always c.run_on_tables-outcomes.result.1.store))

pub returns-in-Ok-opened_after_stop-clause-found : goal.returns-in-Ok-opened_after_stop-clause-found
returns-in-Ok-opened_after_stop-clause-found g c = λ always.
    let crash = rw c.in-Ok.is at (c.run_on_tables-outcomes.ensures.crash (is_clean always c.run_on_tables-outcomes.result.1.store)) in
    c.in-Ok-opened_after_stop.ensures always c.args.config _ _ crash
