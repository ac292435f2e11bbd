-- Either the desk opened and imported the records, or it was unavailable and nothing was read or written.
use Rattle.std.proofs.Common.{refl}
use Rattle.desk_cli.proofs.Imported.{carried, imports_unopened}
use Rattle.desk_cli.proofs.ByStore.{either, kept_by, left_by}
use Rattle.desk_cli.specs.OnTables.{IsLeft, KeepsHeard}
use Rattle.desk_cli.specs.commands.Importing.{ImportsBy}
use Rattle.desk_cli.specs.declared.faults.Fault.TheVariants.{Unavailable}
use Rattle.desk_cli.specs.steps.Jobs.{imports}
use Rattle.desk_cli.proofs.commands.importing.hear_report.Goals as goal

pub returns-clause-imports : goal.returns-clause-imports
returns-clause-imports g c = λ clean config heard kept.
    let back = c.run_job.result.1 in
    let sender = c.args.sender.now in
    either g.S.Store g.met.S.Store.settled config heard back (imports sender)
    (λ left rest before after r. ImportsBy config heard sender (KeepsHeard g.S.Store back config) (IsLeft g.S.Store back config) left rest before after r) _ _ _ _ c.run_job.result.0
    (λ by. carried config heard sender _ _ _ _ (kept_by _ g.met.S.Store.settled _ _ _ by) (left_by _ g.met.S.Store.settled _ _ _ by) _ _ _ _ c.run_job.result.0 by.did)
    (λ left. imports_unopened config heard sender (KeepsHeard g.S.Store back config) (IsLeft g.S.Store back config) _ _ (Unit {0}) Unavailable refl left)
    (c.run_job.ensures.does clean config heard kept)
