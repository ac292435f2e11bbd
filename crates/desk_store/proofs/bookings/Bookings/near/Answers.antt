-- The gateway's places in the index rise by start, so those near the start give its near bookings among all.
use Rattle.std.proofs.Common.{◌≡◌, ◌∙◌, List, ap, pos, sym, subst}
use Rattle.std.specs.Prelude.{filter, bytes_eq}
use Rattle.std.specs.List.{filter_map}
use Rattle.std.proofs.lemmas.Result.{IfOk-weaker}
use Rattle.registry_core.specs.declared.facts.Booking.{Booking}
use Rattle.registry_core.specs.Near.{AreByStart, bookings_near}
use Rattle.desk_store.specs.declared.start_index.Place.{Place}
use Rattle.desk_store.specs.steps.BookingPlaces.{booking_places, near_booking_at}
use Rattle.desk_store.specs.steps.StartIndex.{is_near_place}
use Rattle.desk_store.specs.steps.ByKey.{Rises}
use Rattle.desk_store.proofs.Placed.{places_rise}
use Rattle.desk_store.proofs.BookingsTold.{near_listed}
use Rattle.desk_store.proofs.bookings.Bookings.near.Goals as goal

pub returns : goal.returns
returns c =
    let items = c.self.inside.items.items in
    let gateway = c.args.gateway.now in
    let places : c.places.result.now ≡ booking_places items gateway = c.places.ensures ∙ c.self.invariant.0.places gateway in
    let R : List Place → Type 0 = Rises (λ place. place.start) in
    let near : c.places_near.result.now ≡ filter (is_near_place c.args.start) (booking_places items gateway) =
    c.places_near.ensures (subst R (sym places) (places_rise (λ (b : Booking). b.span.start) (λ b. bytes_eq b.gateway gateway) items)) ∙ ap (filter (is_near_place c.args.start)) places in
    IfOk-weaker c.near_at.result _ _
    (λ found is. let P : List Booking → Type 0 = λ bookings. AreByStart (bookings_near bookings gateway (pos c.args.start)) found.items in
    subst P c.self.view_is (near_listed gateway items c.args.start found.items (is ∙ (λ i. filter_map (near_booking_at (c.deref.ensures.value i)) (near i)))))
    c.near_at.ensures
