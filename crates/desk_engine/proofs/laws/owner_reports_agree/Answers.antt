-- A device's line depends on its own uplinks alone, and the greatest use of an hour is unique.
use Rattle.desk_engine.proofs.ReportLaw.{owner_reports_agree}
use Rattle.desk_engine.proofs.laws.owner_reports_agree.Goals as goal

pub returns : goal.returns
returns c = owner_reports_agree c.peak_has_an_edge.ensures.unique
