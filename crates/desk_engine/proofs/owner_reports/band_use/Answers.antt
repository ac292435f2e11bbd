-- The use of a band doesn't depend on the order of the spans, and the month's bounds fit 64 bits, so it is that of the uplinks.
use Rattle.std.proofs.Common.{◌∙◌, ap, rules, FitsSigned, w64}
use Rattle.std.proofs.lemmas.Int.{to_z-of_z}
use Rattle.desk_engine.specs.steps.Uses.{use_computed}
use Rattle.desk_engine.proofs.AirUse.{use_ignores_order}
use Rattle.desk_engine.proofs.owner_reports.band_use.Goals as goal

pub returns-clause-told : goal.returns-clause-told
returns-clause-told g c = λ kept sound held.
    let from : FitsSigned w64 c.args.month.from = search rules in
    let to : FitsSigned w64 c.args.month.to = search rules in
    c.use_of.ensures ∙ ap use_computed c.deref.ensures.value
    ∙ use_ignores_order c.peak_has_an_edge.ensures.unique c.computed_forms_tell.ensures.peak c.order_is_ignored.ensures.peak _ _ (simp to_z-of_z at (c.in_ok-spans.ensures.told kept sound held)).same
