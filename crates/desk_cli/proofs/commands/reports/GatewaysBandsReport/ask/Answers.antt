-- The report of a gateway's bands is what the engine answers for the state after the log.
use Rattle.registry_core.specs.Heard.{state_of}
use Rattle.desk_engine.specs.InOrder.{kept_after}
use Rattle.desk_cli.proofs.Printed.{gateways_bands}
use Rattle.desk_cli.proofs.commands.reports.GatewaysBandsReport.ask.Goals as goal

pub returns-clause-told : goal.returns-clause-told
unfolding kept_after
returns-clause-told g c = λ config heard was.
    let told = c.band_report.ensures in
    gateways_bands (λ text. text.items) (state_of config heard) c.args.self.now.gateway.now c.band_report.result (told.known (kept_after config heard) was.sound was.order.kept)
    (told.report (kept_after config heard) was.sound was.order.kept) (told.fault (kept_after config heard) was.sound was.order.kept)
