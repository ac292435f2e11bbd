-- The loop of `write_entries`: the lines so far are written, and fewer are still to come.
use Rattle.std.proofs.Common.{◌≤◌, ◌-◌, None}
use Rattle.desk_store.specs.Calls.{ForHeld, IsRead}
use Rattle.desk_engine.specs.steps.Logs.{HasWrittenLines, log_lines}
use Rattle.desk_engine.proofs.log.write_entries.Given as goal

-- the lines so far are written
abbrev pub invariant-loop-count : goal.invariant-loop-count
invariant-loop-count g l = record {
  read : IsRead g.K.Looks.meaning l.fn.keeper l.keeper None;
  few : l.count ≤ l.most;
  written : ForHeld g.K.Looks.meaning l.fn.keeper l.keeper (λ kept.
      HasWrittenLines (log_lines l.which l.fn.from l.fn.most kept.entries) (g.W.Write.contents l.fn.writer) (g.W.Write.contents l.writer) l.count);
}

abbrev pub decreases-loop-count : goal.decreases-loop-count
decreases-loop-count g l = l.most - l.count
