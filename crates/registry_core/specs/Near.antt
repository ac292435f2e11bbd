-- A gateway's downlinks near a start, each with its band.
use Rattle.std.specs.Prelude.{◌≡◌, ◌&&◌, ℕ, ℤ, Bool, List, filter, map, IsPermutation}
use Rattle.std.specs.Ordering.{int_eq}
use Rattle.duty_core.specs.InOrder.{StartsAscend}
use Rattle.duty_core.specs.Near.{is_near}
use Rattle.registry_core.specs.declared.facts.Booking.{Booking}
use Rattle.registry_core.specs.declared.views.NearBooking.{NearBooking}
use Rattle.registry_core.specs.Bookings.{stands_at}

-- the booking is the gateway's and begins near the start
abbrev pub stands_near : List ℕ → ℤ → Booking → Bool
stands_near gateway start booking = stands_at gateway booking && is_near start booking.span

-- its band and its time on air
abbrev pub near_shown : Booking → NearBooking
near_shown booking = record { band = booking.band; span = booking.span }

-- the gateway's downlinks that begin near the start, in the order in which they were booked
abbrev pub bookings_near : List Booking → List ℕ → ℤ → List NearBooking
bookings_near bookings gateway start = map near_shown (filter (stands_near gateway start) bookings)

-- ys are the downlinks of xs ordered by start; those that start together stay in the order that they have in xs
pub record AreByStart (xs ys : List NearBooking) : Type 0 where
  pub same : IsPermutation xs ys
  pub ascend : StartsAscend (map (λ near. near.span) ys)
  pub together : (start : ℤ) → filter (λ near. int_eq near.span.start start) ys ≡ filter (λ near. int_eq near.span.start start) xs
