-- What follows from the bookings: which of them aren't dropped, when a gateway is on the air, and its limits.
use Rattle.std.specs.Prelude.{ℕ, ◌==◌, Bool, true, false, not, ◌&&◌, List, map, filter, count_by, bytes_eq}
use Rattle.std.specs.List.{list_any}
use Rattle.std.specs.Option.{option_map_or}
use Rattle.radio_core.specs.declared.bands.Band.{Band}
use Rattle.radio_core.specs.Bands.{band_number, limit_of}
use Rattle.duty_core.specs.Use.{Interval, EveryHourWithin}
use Rattle.registry_core.specs.declared.facts.Booking.{Booking}
use Rattle.registry_core.specs.declared.facts.Standing.{Standing}
use Rattle.registry_core.specs.declared.facts.Standing.TheVariants.{Booked, Sent, Dropped}
use Rattle.registry_core.specs.declared.facts.Uplink.{Uplink}
use Rattle.registry_core.specs.Derived.{is_data_of}
use Rattle.registry_core.specs.Numbered.{item_at}
use Rattle.registry_core.specs.State.{State}

-- neither sent nor dropped
abbrev pub is_booked : Standing → Bool
is_booked Booked = true
is_booked Sent = false
is_booked Dropped = false

abbrev pub is_dropped : Standing → Bool
is_dropped Booked = false
is_dropped Sent = false
is_dropped Dropped = true

-- ---- the uplink that a booking answers

-- the booking answers a data uplink of session n
abbrev pub is_down_of : List Uplink → ℕ → Booking → Bool
is_down_of uplinks n booking = option_map_or (is_data_of n) (item_at uplinks booking.uplink) false

-- the next downlink counter of session n: how many bookings answer its data uplinks, dropped ones too
abbrev pub next_down : List Booking → List Uplink → ℕ → ℕ
next_down bookings uplinks n = count_by (is_down_of uplinks n) bookings

-- a booking that isn't dropped answers the uplink with this number
abbrev pub is_answer_to : ℕ → Booking → Bool
is_answer_to number booking = booking.uplink == number && not (is_dropped booking.standing)

-- a booking that isn't dropped answers the uplink
abbrev pub is_answered : List Booking → ℕ → Bool
is_answered bookings number = list_any (is_answer_to number) bookings

-- ---- when a gateway is on the air

-- the booking is the gateway's, and isn't dropped
abbrev pub stands_at : List ℕ → Booking → Bool
stands_at gateway booking = bytes_eq booking.gateway gateway && not (is_dropped booking.standing)

-- and it is in the band
abbrev pub stands_in : List ℕ → Band → Booking → Bool
stands_in gateway band booking = stands_at gateway booking && band_number booking.band == band_number band

-- the downlinks of a gateway that aren't dropped, in all bands
abbrev pub downlinks : List Booking → List ℕ → List Interval
downlinks bookings gateway = map (λ booking. booking.span) (filter (stands_at gateway) bookings)

-- the same in one band
abbrev pub downlinks_in : List Booking → List ℕ → Band → List Interval
downlinks_in bookings gateway band = map (λ booking. booking.span) (filter (stands_in gateway band) bookings)

-- ---- the limit

-- The limit of a gateway's band, the greatest time on air within any hour: the limit that was set for it last, and else the band's own.
abbrev pub limit_standing : State → List ℕ → Band → ℕ
limit_standing s gateway band = option_map_or (λ most. most) (s.limits gateway (band_number band)) (limit_of band)

-- No hour of any gateway's band is above the limit: the use of every sliding hour by downlinks that aren't dropped.
abbrev pub EveryHourKept : State → Type 0
EveryHourKept s = (gateway : List ℕ) (band : Band)
    → EveryHourWithin (downlinks_in s.bookings gateway band) (limit_standing s gateway band)
