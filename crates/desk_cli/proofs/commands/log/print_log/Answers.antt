-- Either the desk opened and printed lines of its log, or it was unavailable and nothing was printed.
use Rattle.std.proofs.Common.{None}
use Rattle.desk_engine.specs.Log.{log_of}
use Rattle.desk_cli.proofs.ByStore.{either, kept_by, left_by}
use Rattle.desk_cli.proofs.LogPrinted.{carried, logs_unopened}
use Rattle.desk_cli.specs.OnTables.{IsLeft, KeepsHeard}
use Rattle.desk_cli.specs.commands.Log.{LogsBy}
use Rattle.desk_cli.specs.steps.Jobs.{logs}
use Rattle.desk_cli.proofs.commands.log.print_log.Goals as goal

pub returns-clause-logs : goal.returns-clause-logs
returns-clause-logs g c = λ clean config heard kept.
    let back = c.run_job.result.1 in
    let lines = log_of c.args.which config heard c.args.from c.args.count in
    either g.S.Store g.met.S.Store.settled config heard back (logs c.args.which c.args.from c.args.count)
    (λ left rest before after r. LogsBy lines (KeepsHeard g.S.Store back config heard) (IsLeft g.S.Store back config heard None) before after r) _ _ _ _ c.run_job.result.0
    (λ by. carried lines (kept_by _ g.met.S.Store.settled _ _ _ by heard) (left_by _ g.met.S.Store.settled _ _ _ by heard None) _ _ c.run_job.result.0 by.did)
    (λ left. logs_unopened lines (KeepsHeard g.S.Store back config heard) (IsLeft g.S.Store back config heard None) _ left)
    (c.run_job.ensures.does clean config heard kept)
