-- Either the desk opened and printed the report, or it was unavailable and nothing was printed.
use Rattle.std.proofs.Common.{None, refl}
use Rattle.std.proofs.KnownBytes.{Keeps-refl}
use Rattle.desk_cli.proofs.ByStore.{either, kept_by, left_by}
use Rattle.desk_cli.proofs.Printed.{printed_by, prints_unopened, refused_so}
use Rattle.desk_cli.specs.Doing.{PrintsDesk}
use Rattle.desk_cli.specs.declared.faults.Fault.TheVariants.{Unavailable}
use Rattle.desk_cli.specs.steps.Jobs.{prints}
use Rattle.desk_cli.proofs.printing.print_by_store.Goals as goal

pub returns : goal.returns
returns g c =
    let is_answer = g.Q.Report.is_answer c.args.report.now in
    let done = c.run_job.ensures in
    record {
      desk = λ clean config heard kept.
          either g.S.Store g.met.S.Store.settled config heard c.run_job.result.1 (prints is_answer)
          (λ left rest before after r. PrintsDesk g.S.Store is_answer before after r c.run_job.result.1 config heard) _ _ _ _ c.run_job.result.0
          (λ by. printed_by (kept_by _ g.met.S.Store.settled _ _ _ by heard) (left_by _ g.met.S.Store.settled _ _ _ by heard None) _ _ _ c.run_job.result.0 by.did)
          (λ left. prints_unopened _ _ _ _ Unavailable refl left (Keeps-refl _) (g.met.Q.Report.unopened c.args.report.now config heard))
          (done.does clean config heard kept);
      not_a_desk = λ clean none. refused_so _ _ _ (λ both. both.1) c.run_job.result.0 (done.not_a_desk clean none);
      clean = done.clean;
    }
