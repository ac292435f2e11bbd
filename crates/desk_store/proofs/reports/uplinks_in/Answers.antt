-- Sorted, the places are those of a search of all uplinks, in the order of their starts, so the spans there are too.
use Rattle.std.proofs.Common.{◌≡◌, ◌∙◌, ap}
use Rattle.std.specs.Prelude.{pos}
use Rattle.std.specs.List.{filter_map}
use Rattle.std.proofs.lemmas.List.Sorted.{IsPermutation-trans}
use Rattle.std.proofs.lemmas.Result.{IfOk-weaker}
use Rattle.registry_core.specs.declared.facts.Uplink.{Uplink}
use Rattle.desk_store.specs.steps.UplinkPlaces.{is_sent_from, places_from, uplink_span_at}
use Rattle.desk_store.proofs.PlaceOrder.{places_sorted}
use Rattle.desk_store.proofs.UplinksTold.{uplinks_listed}
use Rattle.desk_store.proofs.reports.uplinks_in.Goals as goal

pub returns : goal.returns
returns c =
    let uplinks = c.args.uplinks.now in
    let sessions = c.args.sessions.now.items in
    let from = c.args.period.now.from in
    let to = c.args.period.now.to in
    let places : c.sort_unstable.new.self.items ≡ places_from uplinks sessions c.args.device c.args.band from to =
    places_sorted (λ (u : Uplink). pos u.start) (is_sent_from sessions c.args.device c.args.band from to) uplinks c.sort_unstable.new.self.items c.sort_unstable.ensures.sorted
    (IsPermutation-trans (places_from uplinks sessions c.args.device c.args.band from to) c.in_ok-places.places.items c.sort_unstable.new.self.items
    c.in_ok-places.ensures c.sort_unstable.ensures.permutation) in
    IfOk-weaker c.spans_at.result _ _
    (λ spans is. uplinks_listed uplinks sessions c.args.device c.args.band from to spans.items (is ∙ ap (filter_map (uplink_span_at uplinks)) (c.deref.ensures.value ∙ places)))
    c.spans_at.ensures
