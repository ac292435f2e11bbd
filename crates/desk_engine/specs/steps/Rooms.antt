-- A gateway's room by its downlinks near a time. For private clauses.
use Rattle.std.specs.Prelude.{◌≡◌, ℕ, ◌==◌, ◌≤◌, List, All, ◌++◌, filter, map, pos}
use Rattle.std.specs.List.{flat_map}
use Rattle.radio_core.specs.declared.bands.Band.{Band}
use Rattle.radio_core.specs.Bands.{band_number}
use Rattle.duty_core.specs.Near.{greatest_length}
use Rattle.duty_core.specs.Use.{Interval}
use Rattle.registry_core.specs.declared.views.NearBooking.{NearBooking}
use Rattle.registry_core.specs.Bookings.{EveryHourKept, limit_standing}
use Rattle.registry_core.specs.Near.{AreByStart, bookings_near}
use Rattle.registry_core.specs.State.{State}
use Rattle.desk_engine.specs.Rooms.{IsBandRoom, room_header, room_line, used_before}

-- why the downlinks near a time suffice: no booking is longer than 3,000,000 microseconds, and no hour is above its limit
pub record KeepsAir (s : State) : Type 0 where
  pub short : All (λ booking. booking.span.len ≤ greatest_length) s.bookings
  pub hours : EveryHourKept s

-- the downlinks of the gateway near the time
abbrev pub AreNear : State → List ℕ → ℕ → List NearBooking → Type 0
AreNear s gateway time near = AreByStart (bookings_near s.bookings gateway (pos time)) near

-- the times on air of the downlinks
abbrev pub all_spans : List NearBooking → List Interval
all_spans near = map (λ n. n.span) near

-- the times on air of those in the band
abbrev pub spans_in : Band → List NearBooking → List Interval
spans_in band near = all_spans (filter (λ n. band_number n.band == band_number band) near)

-- the line of a band, with its room
abbrev pub IsBandLine : State → List ℕ → ℕ → Band → List ℕ → Type 0
IsBandLine s gateway time band line = (room : ℕ) → IsBandRoom s gateway band time room
    → line ≡ room_line band (limit_standing s gateway band) (used_before s gateway band time) room

-- whatever the rooms of the bands are, the text has the lines of these bands
abbrev pub HasRooms : State → List ℕ → ℕ → List Band → List ℕ → Type 0
HasRooms s gateway time done text = (room : Band → ℕ) → ((band : Band) → IsBandRoom s gateway band time (room band))
    → text ≡ room_header ++ flat_map (λ band. room_line band (limit_standing s gateway band) (used_before s gateway band time) (room band)) done
