-- Uplinks and bookings together, and counts of each session's downlinks.
use Rattle.std.specs.Prelude.{◌≡◌, ℕ, List}
use Rattle.registry_core.specs.declared.facts.Booking.{Booking}
use Rattle.registry_core.specs.declared.facts.Uplink.{Uplink}
use Rattle.registry_core.specs.Bookings.{next_down}
use Rattle.desk_store.specs.declared.tally.Tally.{Tally}
use Rattle.desk_store.specs.steps.Tally.{tallied}

-- what contracts see: the uplinks and the bookings by number
pub record TrafficSeen : Type 0 where
  pub uplinks : List Uplink
  pub bookings : List Booking

-- each session's count is its next downlink counter
pub record AreDowns (uplinks : List Uplink) (bookings : List Booking) (downs : Tally) : Type 0 where
  pub counts : (session : ℕ) → tallied downs session ≡ next_down bookings uplinks session
