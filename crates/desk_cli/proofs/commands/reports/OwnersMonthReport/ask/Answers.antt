-- The report of an owner's month is what the engine answers for the state after the log.
use Rattle.desk_engine.specs.InOrder.{kept_after}
use Rattle.desk_cli.proofs.Printed.{of_month}
use Rattle.desk_cli.proofs.commands.reports.OwnersMonthReport.ask.Goals as goal

pub returns-clause-told : goal.returns-clause-told
unfolding kept_after
returns-clause-told g c = λ config heard was.
    let told = c.owner_report.ensures in
    of_month (λ text. text.items) c.args.self.now.month.now _ _ _ c.owner_report.result told.month (told.known (kept_after config heard) was.sound was.order.kept)
    (told.report (kept_after config heard) was.sound was.order.kept) (told.fault (kept_after config heard) was.sound was.order.kept)
