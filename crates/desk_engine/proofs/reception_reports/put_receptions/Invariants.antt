-- The loop of `put_receptions`: what is there, and the receptions at the gateways still to come.
use Rattle.std.proofs.Common.{◌≡◌, ◌++◌, drop}
use Rattle.desk_engine.specs.steps.MonthReports.{at_gateways}
use Rattle.desk_engine.proofs.reception_reports.put_receptions.Given as goal

abbrev pub invariant-loop-gateway : goal.invariant-loop-gateway
invariant-loop-gateway l = l.receptions.items ++ at_gateways l.uplink (drop l.gateway-index l.gateways) ≡ l.fn.receptions.items ++ at_gateways l.uplink l.gateways
