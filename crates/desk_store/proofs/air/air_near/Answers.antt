-- The near spans and those of the band are taken from the gateway's bookings near the start, in the order of their starts.
use Rattle.std.proofs.Common.{◌∙◌, ap, map, []}
use Rattle.std.specs.Option.{option_map_or}
use Rattle.registry_core.specs.Bookings.{limit_standing}
use Rattle.desk_store.specs.steps.Downlinks.{spans_in}
use Rattle.desk_store.proofs.NearBookings.{air_by_start}
use Rattle.desk_store.proofs.air.air_near.Goals as goal

pub returns-clause-told : goal.returns-clause-told
returns-clause-told g c = λ kept sound held.
    let before = c.in_ok-limit.ensures.read.was_sound sound in
    air_by_start kept.facts c.args.gateway.now c.args.start c.args.rate c.in_ok-near.near.items _
    (c.in_ok-near.ensures.told kept before held)
    (c.in_ok-limit.ensures.told kept sound (c.in_ok-near.ensures.read.held kept before held) ∙ ap (λ band. option_map_or (limit_standing kept.facts c.args.gateway.now) band 0) c.band_of-band.ensures.exact)
    (c.in_ok-spans_of.ensures ∙ ap (map (λ n. n.span)) c.deref.ensures.value)
    (c.in_ok-spans_in.ensures ∙ (λ i. option_map_or (λ band. spans_in band (c.deref-2.ensures.value i)) (c.band_of-band.ensures.exact i) []))
