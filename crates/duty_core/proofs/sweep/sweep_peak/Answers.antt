-- What the sweep returns is the computed peak, which is the greatest use of any hour.
use Rattle.duty_core.proofs.Edges.{peak_is_computed}
use Rattle.duty_core.proofs.sweep.sweep_peak.Goals as goal

pub returns-clause-peak : goal.returns-clause-peak
returns-clause-peak c = rw c.swept_peak.ensures (peak_is_computed c.args.spans.now)
