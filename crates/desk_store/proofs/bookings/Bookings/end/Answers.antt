-- Marking a booking as sent or dropped leaves each place in the index valid; if there is no such booking, the list stays as it is.
use Rattle.std.proofs.Common.{◌≡◌, ◌<◌, ◌^◌, ◌∙◌, ap, length, refl, subst, sym, List, Some, None, arith}
use Rattle.std.specs.Prelude.{bytes_eq}
use Rattle.std.proofs.lemmas.List.{take_at}
use Rattle.registry_core.specs.declared.facts.Booking.{Booking}
use Rattle.registry_core.specs.Numbered.{item_at, item_changed}
use Rattle.registry_core.specs.State.{ended}
use Rattle.desk_store.specs.steps.Answers.{AreCounted}
use Rattle.desk_store.specs.steps.BookingPlaces.{IsBookingIndex}
use Rattle.desk_store.specs.steps.StartIndex.{places_in}
use Rattle.desk_store.proofs.ItemChanged.{item_changed_absent}
use Rattle.desk_store.proofs.Placed.{index_changed}
use Rattle.desk_store.proofs.bookings.Bookings.end.Goals as goal

pub invariant_of-self-in-Some : goal.invariant_of-self-in-Some
invariant_of-self-in-Some c =
    let items = c.self.inside.items.items in
    let few : length items < 2 ^ 63 = omega (arith, c.self.inside.items.small, c.self.inside.items.ok.0) in
    let there : item_at items c.args.number ≡ Some c.in-Some.booking = ap (λ bookings. item_at bookings c.args.number) (sym c.deref.ensures.value) ∙ sym c.in-Some.ensures in
    let P : List Booking → Type 0 = λ bookings. IsBookingIndex bookings c.self.inside.starts × AreCounted bookings c.end.new.self in
    let changed : c.end_in.new.bookings ≡ item_changed (ended c.args.sent) items c.args.number = c.end_in.ensures ∙ ap (λ bookings. item_changed (ended c.args.sent) bookings c.args.number) c.deref_mut.ensures.value in
    let whole = take_at c.end_in.new.bookings _ c.self.inside.items.len (omega (arith, c.deref_mut.ensures.len, c.end_in.auto.bookings, c.self.inside.items.ok.0)) in
    subst P (sym (whole ∙ changed)) (index_changed (λ (b : Booking). b.span.start) bytes_eq (λ b. b.gateway) (ended c.args.sent) (λ k n b. refl) items c.args.number (places_in bytes_eq c.self.inside.starts) c.self.invariant.0, c.in_ok-end.ensures.ended items c.args.number few there c.self.invariant.1)

pub returns-in_default-clause-ok : goal.returns-in_default-clause-ok
returns-in_default-clause-ok c =
    let none : item_at c.self.inside.items.items c.args.number ≡ None = ap (λ bookings. item_at bookings c.args.number) (sym c.deref.ensures.value) ∙ sym c.item_at.ensures ∙ c.in_default.is in
    let P : List Booking → Type 0 = λ bookings. bookings ≡ item_changed (ended c.args.sent) bookings c.args.number in
    subst P c.self.view_is (sym (item_changed_absent (ended c.args.sent) c.self.inside.items.items c.args.number none))
