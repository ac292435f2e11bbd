-- The use of a band doesn't depend on the order of the spans, so the store's list by start gives the use of all bookings.
use Rattle.std.proofs.Common.{◌∙◌, ap}
use Rattle.desk_engine.specs.steps.Uses.{use_computed}
use Rattle.desk_engine.proofs.AirUse.{use_ignores_order}
use Rattle.desk_engine.proofs.band_reports.booked_use.Goals as goal

pub returns-clause-told : goal.returns-clause-told
returns-clause-told g c = λ kept sound held.
    c.use_of.ensures ∙ ap use_computed c.deref.ensures.value
    ∙ use_ignores_order c.peak_has_an_edge.ensures.unique c.computed_forms_tell.ensures.peak c.order_is_ignored.ensures.peak _ _ (c.in_ok-spans.ensures.told kept sound held).same
