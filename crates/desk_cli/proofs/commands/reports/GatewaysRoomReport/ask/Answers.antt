-- The room of a gateway at a time is what the engine answers for the state after the log.
use Rattle.registry_core.specs.Heard.{state_of}
use Rattle.desk_engine.specs.InOrder.{kept_after}
use Rattle.desk_cli.proofs.Printed.{gateways_room}
use Rattle.desk_cli.proofs.commands.reports.GatewaysRoomReport.ask.Goals as goal

pub returns-clause-told : goal.returns-clause-told
unfolding kept_after
returns-clause-told g c = λ config heard was.
    let told = c.room_report.ensures in
    gateways_room (λ text. text.items) (state_of config heard) c.args.self.now.gateway.now c.args.self.now.time.now c.room_report.result told.time (told.known (kept_after config heard) was.sound was.order.kept)
    (λ at is. told.report config heard at was is) (told.fault (kept_after config heard) was.sound was.order.kept)
