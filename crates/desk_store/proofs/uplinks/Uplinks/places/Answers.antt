-- The session's places in the band rise by start, so the cut for the period takes all of them that start in it.
use Rattle.std.proofs.Common.{◌≡◌, ◌∙◌, ap, subst, sym, List}
use Rattle.std.specs.Prelude.{filter, pos}
use Rattle.registry_core.specs.declared.facts.Uplink.{Uplink}
use Rattle.desk_store.specs.declared.start_index.Place.{Place}
use Rattle.desk_store.specs.steps.ByKey.{Rises}
use Rattle.desk_store.specs.steps.StartIndex.{is_place_in, places_in}
use Rattle.desk_store.specs.steps.UplinkPlaces.{uplink_places}
use Rattle.desk_store.specs.steps.Uplinks.{same_numbers}
use Rattle.desk_store.proofs.Placed.{places_rise}
use Rattle.desk_store.proofs.uplinks.Uplinks.places.Goals as goal

pub returns : goal.returns
returns c =
    let items = c.self.inside.items.items in
    let places : c.places.result.now ≡ uplink_places items c.args.session c.args.band =
    c.places.ensures ∙ ap (λ number. places_in same_numbers c.self.inside.starts (c.args.session, number)) c.get.ensures ∙ c.self.invariant.1.places _ in
    let R : List Place → Type 0 = Rises (λ place. place.start) in
    c.places_of_period.ensures (subst R (sym places) (places_rise (λ (u : Uplink). pos u.start) _ items))
    ∙ ap (filter (is_place_in c.args.period.now.from c.args.period.now.to)) places
    ∙ ap (λ uplinks. filter (is_place_in c.args.period.now.from c.args.period.now.to) (uplink_places uplinks c.args.session c.args.band)) c.self.view_is
