-- The index gives the places of the gateway's bookings, and those in the period are taken.
use Rattle.std.proofs.Common.{◌≡◌, ◌∙◌, ap, subst, sym, List}
use Rattle.std.specs.Prelude.{bytes_eq, filter}
use Rattle.registry_core.specs.declared.facts.Booking.{Booking}
use Rattle.desk_store.specs.declared.start_index.Place.{Place}
use Rattle.desk_store.specs.steps.BookingPlaces.{booking_places}
use Rattle.desk_store.specs.steps.ByKey.{Rises}
use Rattle.desk_store.specs.steps.StartIndex.{is_place_in}
use Rattle.desk_store.proofs.Placed.{places_rise}
use Rattle.desk_store.proofs.bookings.Bookings.places.Goals as goal

pub returns : goal.returns
returns c =
    let items = c.self.inside.items.items in
    let gateway = c.args.gateway.now in
    let places : c.places.result.now ≡ booking_places items gateway = c.places.ensures ∙ c.self.invariant.0.places gateway in
    let R : List Place → Type 0 = Rises (λ place. place.start) in
    c.places_of_period.ensures (subst R (sym places) (places_rise (λ (b : Booking). b.span.start) (λ b. bytes_eq b.gateway gateway) items))
    ∙ ap (filter (is_place_in c.args.period.now.from c.args.period.now.to)) places
    ∙ ap (λ bookings. filter (is_place_in c.args.period.now.from c.args.period.now.to) (booking_places bookings gateway)) c.self.view_is
