-- The receptions of the uplinks that the store returns, in their order, are the report's.
use Rattle.std.proofs.Common.{FitsSigned, rules, w64}
use Rattle.std.proofs.lemmas.Int.{to_z-of_z}
use Rattle.std.proofs.lemmas.Result.{IfOk-weaker}
use Rattle.desk_engine.proofs.Receptions.{receptions_reported}
use Rattle.desk_engine.proofs.reception_reports.receptions_text.Goals as goal

pub returns-clause-told : goal.returns-clause-told
returns-clause-told g c = λ kept sound held.
    let from : FitsSigned w64 c.args.month.from = search rules in
    let to : FitsSigned w64 c.args.month.to = search rules in
    let collected = c.table.ensures.read.was_sound sound in
    let asked = c.receptions_of.ensures.read.was_sound collected in
    let with_uplinks = c.in_ok-uplinks.ensures.read.held kept asked held in
    IfOk-weaker c.table.result _ _
    (λ text is. receptions_reported kept.facts c.args.device c.args.month.from c.args.month.to c.in_ok-uplinks.uplinks.items c.deref.result.now c.in_ok-receptions.receptions.items c.deref-2.result.now _
    (simp to_z-of_z at (c.in_ok-uplinks.ensures.told kept asked held)) c.deref.ensures.value (c.in_ok-receptions.ensures.told kept collected with_uplinks) c.deref-2.ensures.value is)
    (c.table.ensures.told kept sound (c.in_ok-receptions.ensures.read.held kept collected with_uplinks))
