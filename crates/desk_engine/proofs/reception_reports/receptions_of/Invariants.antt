-- The loop of `receptions_of`: the receptions of the uplinks so far are collected.
use Rattle.std.proofs.Common.{None, take}
use Rattle.desk_store.specs.Calls.{ForHeld, IsRead}
use Rattle.desk_engine.specs.steps.MonthReports.{AreReceptionsOf}
use Rattle.desk_engine.proofs.reception_reports.receptions_of.Given as goal

abbrev pub invariant-loop-uplink : goal.invariant-loop-uplink
invariant-loop-uplink g l = record {
  read : IsRead g.K.Looks.meaning l.fn.keeper l.keeper None;
  told : ForHeld g.K.Looks.meaning l.fn.keeper l.keeper (λ kept. AreReceptionsOf kept.facts (take l.uplink-index l.uplinks) l.receptions.items);
}
