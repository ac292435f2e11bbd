-- A database in memory has no disk that fails, so what `run_on_tables` promises for a good disk is true here without a condition.
use Rattle.std.proofs.Common.{refl}
use Rattle.sqlite.proofs.Callers.{memory_is_clean}
use Rattle.desk_cli.proofs.on_tables.run_in_memory.Goals as goal

pub returns-in-Ok-outcomes-clause-outcomes : goal.returns-in-Ok-outcomes-clause-outcomes
returns-in-Ok-outcomes-clause-outcomes c = rw c.in-Ok-outcomes.is at (c.run_on_tables-outcomes.ensures.outcomes (memory_is_clean c.run_on_tables-outcomes.result.1))

pub returns-in-Ok-outcomes-clause-repeats : goal.returns-in-Ok-outcomes-clause-repeats
returns-in-Ok-outcomes-clause-repeats c = rw c.in-Ok-outcomes.is at (c.run_on_tables-outcomes.ensures.repeats (memory_is_clean c.run_on_tables-outcomes.result.1))

pub returns-in-Ok-outcomes-clause-rules_before : goal.returns-in-Ok-outcomes-clause-rules_before
returns-in-Ok-outcomes-clause-rules_before c = rw c.in-Ok-outcomes.is at (c.run_on_tables-outcomes.ensures.rules_before (memory_is_clean c.run_on_tables-outcomes.result.1))

pub returns-in-Ok-outcomes-clause-uplinks : goal.returns-in-Ok-outcomes-clause-uplinks
returns-in-Ok-outcomes-clause-uplinks c = rw c.in-Ok-outcomes.is at (c.run_on_tables-outcomes.ensures.uplinks (memory_is_clean c.run_on_tables-outcomes.result.1))

pub returns-in-Ok-outcomes-clause-tables : goal.returns-in-Ok-outcomes-clause-tables
returns-in-Ok-outcomes-clause-tables c = λ is. (rw c.in-Ok-outcomes.is at (c.run_on_tables-outcomes.ensures.tables (memory_is_clean c.run_on_tables-outcomes.result.1)) is).0

pub returns-in-Ok-outcomes-clause-committed : goal.returns-in-Ok-outcomes-clause-committed
returns-in-Ok-outcomes-clause-committed c = rw c.in-Ok-outcomes.is at (c.run_on_tables-outcomes.ensures.crash (memory_is_clean c.run_on_tables-outcomes.result.1)) _ refl

pub returns-in-Ok-outcomes-clause-rules : goal.returns-in-Ok-outcomes-clause-rules
returns-in-Ok-outcomes-clause-rules c = rw c.in-Ok-outcomes.is at (c.run_on_tables-outcomes.ensures.rules (memory_is_clean c.run_on_tables-outcomes.result.1))

pub returns-in-Ok-outcomes-clause-rules_left : goal.returns-in-Ok-outcomes-clause-rules_left
returns-in-Ok-outcomes-clause-rules_left c = rw c.in-Ok-outcomes.is at (c.run_on_tables-outcomes.ensures.rules_left (memory_is_clean c.run_on_tables-outcomes.result.1))
