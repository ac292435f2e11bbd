-- Bookings of a gateway, ordered by start, and what is looked up of them.
use Rattle.std.specs.Prelude.{ℕ, ◌==◌, ◌&&◌, not, List, Option, Some, None, option_and_then, bytes_eq, if◌then◌else◌}
use Rattle.radio_core.specs.declared.bands.Band.{Band}
use Rattle.radio_core.specs.Bands.{band_number}
use Rattle.duty_core.specs.Use.{Interval}
use Rattle.registry_core.specs.declared.facts.Booking.{Booking}
use Rattle.registry_core.specs.declared.views.NearBooking.{NearBooking}
use Rattle.registry_core.specs.Bookings.{is_dropped}
use Rattle.registry_core.specs.Near.{near_shown}
use Rattle.registry_core.specs.Numbered.{item_at}
use Rattle.desk_store.specs.declared.start_index.Place.{Place}
use Rattle.desk_store.specs.declared.start_index.StartIndex.{StartIndex}
use Rattle.desk_store.specs.steps.StartIndex.{places_in, places_that, IsStartIndex}

-- the places of the gateway's bookings
abbrev pub booking_places : List Booking → List ℕ → List Place
booking_places bookings gateway = places_that (λ booking. booking.span.start) (λ booking. bytes_eq booking.gateway gateway) bookings

-- the index is that of these bookings
abbrev pub IsBookingIndex : List Booking → StartIndex (List ℕ) → Type 0
IsBookingIndex bookings index = IsStartIndex (λ booking. booking.span.start) bytes_eq (λ booking. booking.gateway) bookings (places_in bytes_eq index)

-- the booking's band and its time on air, if it isn't dropped
abbrev pub near_booking : Booking → Option NearBooking
near_booking booking = if not (is_dropped booking.standing) then Some (near_shown booking) else None

-- the same for the booking at this place
abbrev pub near_booking_at : List Booking → Place → Option NearBooking
near_booking_at bookings place = option_and_then near_booking (item_at bookings place.number)

-- the booking's time on air, if it isn't dropped and is in the band
abbrev pub span_in_band : Band → Booking → Option Interval
span_in_band band booking = if not (is_dropped booking.standing) && band_number booking.band == band_number band then Some booking.span else None

-- the same for the booking at this place
abbrev pub booking_span_at : List Booking → Band → Place → Option Interval
booking_span_at bookings band place = option_and_then (span_in_band band) (item_at bookings place.number)
