-- The downlinks of a gateway are what the engine answers.
use Rattle.desk_engine.specs.InOrder.{kept_after}
use Rattle.desk_cli.proofs.Printed.{of_month}
use Rattle.desk_cli.proofs.commands.month_reports.GatewaysMonthReport.ask.Goals as goal

pub returns-clause-told : goal.returns-clause-told
unfolding kept_after
returns-clause-told g c = λ config heard was.
    let told = c.downlink_report.ensures in
    of_month (λ text. text.items) c.args.self.now.month.now _ _ _ c.downlink_report.result told.month (told.known (kept_after config heard) was.sound was.order.kept)
    (told.report (kept_after config heard) was.sound was.order.kept) (told.fault (kept_after config heard) was.sound was.order.kept)
