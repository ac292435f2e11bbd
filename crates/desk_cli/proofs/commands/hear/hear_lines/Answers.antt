-- Either the desk opened and answered the lines, or it was unavailable and nothing was read or written.
use Rattle.desk_cli.proofs.ByStore.{either, kept_by, left_by}
use Rattle.desk_cli.proofs.LinesAnswered.{answers_unopened, carried}
use Rattle.desk_cli.specs.Answering.{AnswersBy}
use Rattle.desk_cli.specs.OnTables.{IsLeft, KeepsHeard}
use Rattle.desk_cli.specs.declared.faults.Fault.TheVariants.{Unavailable}
use Rattle.std.proofs.Common.{refl}
use Rattle.desk_cli.specs.steps.Jobs.{answers}
use Rattle.desk_cli.proofs.commands.hear.hear_lines.Goals as goal

pub returns-clause-hears : goal.returns-clause-hears
returns-clause-hears g c = λ clean config heard kept.
    let back = c.run_job.result.1 in
    either g.S.Store g.met.S.Store.settled config heard back answers
    (λ left rest before after r. AnswersBy config heard (KeepsHeard g.S.Store back config) (IsLeft g.S.Store back config) left rest before after r) _ _ _ _ c.run_job.result.0
    (λ by. carried config heard _ _ _ _ (kept_by _ g.met.S.Store.settled _ _ _ by) (left_by _ g.met.S.Store.settled _ _ _ by) _ _ _ _ c.run_job.result.0 by.did)
    (λ left. answers_unopened config heard (KeepsHeard g.S.Store back config) (IsLeft g.S.Store back config) _ _ Unavailable refl left)
    (c.run_job.ensures.does clean config heard kept)
