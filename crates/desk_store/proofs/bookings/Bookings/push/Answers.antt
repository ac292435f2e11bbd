-- With the booking's place in the index and its uplink counted, both are right for the list with the booking at its end.
use Rattle.std.proofs.Common.{◌≡◌, ◌<◌, ◌^◌, ◌+◌, ◌∙◌, length, refl, subst, sym, List, [], ◌∷◌, ◌++◌, arith, rules}
use Rattle.std.specs.Prelude.{bytes_eq}
use Rattle.std.proofs.lemmas.Slice.Eq.{bytes_eq-Decides}
use Rattle.registry_core.specs.declared.facts.Booking.{Booking}
use Rattle.desk_store.specs.declared.start_index.Place.{Place}
use Rattle.desk_store.specs.steps.Answers.{AreCounted}
use Rattle.desk_store.specs.steps.BookingPlaces.{IsBookingIndex}
use Rattle.desk_store.specs.steps.ByKey.{Rises}
use Rattle.desk_store.specs.steps.StartIndex.{places_in}
use Rattle.desk_store.proofs.Placed.{index_noted, places_rise}
use Rattle.desk_store.proofs.bookings.Bookings.push.Goals as goal

pub invariant_of-self-2 : goal.invariant_of-self-2
invariant_of-self-2 c =
    let items = c.self.inside.items.items in
    let booking = c.args.booking in
    let start = λ (b : Booking). b.span.start in
    let few : length items < 2 ^ 63 = omega (arith, c.self.inside.items.small, c.self.inside.items.ok.0) in
    let count : c.len.result ≡ length items = omega arith in
    let R : List Place → Type 0 = Rises (λ place. place.start) in
    let rise = subst R (sym (c.self.invariant.0.places booking.gateway)) (places_rise start (λ b. bytes_eq b.gateway booking.gateway) items) in
    let noted = index_noted start bytes_eq (λ b. b.gateway) (λ a b. (bytes_eq-Decides a b).0) items booking booking.gateway c.place_of.result
    (places_in bytes_eq c.self.inside.starts) (places_in bytes_eq c.add.new.self) refl
    (c.place_of.ensures ∙ (λ i. record { start = booking.span.start; number = count i + 1 })) c.self.invariant.0 (c.in_ok-add.ensures.noted rise) in
    let all : c.push.new.self.items ≡ items ++ booking ∷ [] = search rules in
    let P : List Booking → Type 0 = λ bookings. IsBookingIndex bookings c.add.new.self × AreCounted bookings c.add-2.new.self in
    subst P (sym all) (noted, c.in_ok-add-2.ensures.noted items few (c.make_room.ensures.same items c.self.invariant.1))
