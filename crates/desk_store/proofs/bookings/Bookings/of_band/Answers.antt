-- The index has the places of all the gateway's bookings, so the spans in the band that it gives are all that there are.
use Rattle.std.proofs.Common.{◌≡◌, ◌∙◌, List, subst}
use Rattle.std.specs.List.{filter_map}
use Rattle.std.proofs.lemmas.Result.{IfOk-weaker}
use Rattle.duty_core.specs.InOrder.{IsByStart}
use Rattle.registry_core.specs.declared.facts.Booking.{Booking}
use Rattle.registry_core.specs.Bookings.{downlinks_in}
use Rattle.desk_store.specs.steps.BookingPlaces.{booking_places, booking_span_at}
use Rattle.desk_store.proofs.BookingsTold.{band_listed}
use Rattle.desk_store.proofs.bookings.Bookings.of_band.Goals as goal

pub returns : goal.returns
returns c =
    let items = c.self.inside.items.items in
    let gateway = c.args.gateway.now in
    let places : c.places.result.now ≡ booking_places items gateway = c.places.ensures ∙ c.self.invariant.0.places gateway in
    IfOk-weaker c.spans_at.result _ _
    (λ spans is. let P : List Booking → Type 0 = λ bookings. IsByStart (downlinks_in bookings gateway c.args.band) spans.items in
    subst P c.self.view_is (band_listed gateway c.args.band items spans.items (is ∙ (λ i. filter_map (booking_span_at (c.deref.ensures.value i) c.args.band) (places i)))))
    c.spans_at.ensures
