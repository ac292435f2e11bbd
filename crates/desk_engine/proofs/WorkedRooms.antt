-- Worked rows, computed from the definitions alone: how much of an hour is used, and which lengths have room.
use Rattle.std.proofs.Common.{◌≡◌, ℕ, ◌+◌, List, [], ◌∷◌, map, Some, None, Bool, true, false, is_ok, refl}
use Rattle.std.specs.Prelude.{codes, pos}
use Rattle.radio_core.specs.declared.bands.Band.{Band}
use Rattle.radio_core.specs.declared.bands.Band.TheVariants.{B1, B3, B4, B5}
use Rattle.duty_core.specs.Computed.{hours_within, is_clear, peak_of}
use Rattle.registry_core.specs.declared.facts.Booking.{Booking}
use Rattle.registry_core.specs.declared.facts.Standing.TheVariants.{Booked}
use Rattle.registry_core.specs.Downlinks.{down_added}
use Rattle.registry_core.specs.Settings.{Settings}
use Rattle.registry_core.specs.State.{State, opening}
use Rattle.desk_wire.specs.Decimals.{decimal_in}
use Rattle.desk_engine.specs.Rooms.{time_in, used_before}

abbrev gw_a : List ℕ
gw_a = codes "gw-a"

abbrev desk : Settings
desk = record { receiver = codes "desk"; operator = codes "office"; base = 0x01a00000; addresses = 65536 }

-- 2024-02-01 00:00 UTC
abbrev start : ℕ
start = 1706745600000000

abbrev down_at : Band → ℕ → Booking
down_at band time = record { uplink = 1; gateway = gw_a; band = band; span = record { start = pos time; len = 991232 }; standing = Booked }

abbrev with_bookings : List Booking → State
with_bookings bookings = record (opening desk) { gateways = λ _. true; bookings = bookings }

-- the last two checks of a DownBook pass for a downlink of this length that begins then
abbrev has_room : State → Band → ℕ → ℕ → Bool
has_room s band time n = is_ok (down_added s 1 gw_a band time (record { start = pos time; len = n }))

-- whether lengths have room, one after another
abbrev have_room : State → Band → ℕ → List ℕ → List Bool
have_room s band time lengths = map (has_room s band time) lengths

abbrev three : State
three = with_bookings (down_at B4 start ∷ down_at B4 (start + 10000000) ∷ down_at B4 (start + 20000000) ∷ [])

hour_used : used_before three gw_a B4 (start + 3599373696) ∷ used_before three gw_a B4 (start + 3599373695) ∷ used_before three gw_a B3 (start + 3599373696) ∷ [] ≡ 2973696 ∷ 2973696 ∷ 0 ∷ []
hour_used = refl

room_in_an_hour : have_room three B4 (start + 3599373696) (1 ∷ 1617536 ∷ 1617537 ∷ []) ≡ true ∷ true ∷ false ∷ []
unfolding down_added is_clear hours_within peak_of
room_in_an_hour = refl

a_microsecond_before : have_room three B4 (start + 3599373695) (626304 ∷ 626305 ∷ 1617536 ∷ []) ≡ true ∷ false ∷ false ∷ []
unfolding down_added is_clear hours_within peak_of
a_microsecond_before = refl

nothing_booked : have_room (with_bookings []) B1 start (1 ∷ 3000000 ∷ []) ≡ true ∷ true ∷ []
unfolding down_added is_clear hours_within peak_of
nothing_booked = refl

abbrev one : State
one = with_bookings (down_at B5 (start + 2000000) ∷ [])

before_one : have_room one B3 (start + 1000000) (1000000 ∷ 1000001 ∷ []) ≡ true ∷ false ∷ []
unfolding down_added is_clear hours_within peak_of
before_one = refl

in_one : have_room one B5 (start + 2000000) (1 ∷ []) ≡ false ∷ []
unfolding down_added is_clear hours_within peak_of
in_one = refl

in_its_last : have_room one B1 (start + 2991231) (1 ∷ []) ≡ false ∷ []
unfolding down_added is_clear hours_within peak_of
in_its_last = refl

after_one : have_room one B5 (start + 2991232) (3000000 ∷ []) ≡ true ∷ []
unfolding down_added is_clear hours_within peak_of
after_one = refl

times : time_in (codes "946684799999999") ∷ time_in (codes "0946684800000000") ∷ time_in (codes "4102444800000000") ∷ time_in (codes "4102444800000001") ∷ time_in (codes "01706745600000000") ∷ []
    ≡ None ∷ Some 946684800000000 ∷ Some 4102444800000000 ∷ None ∷ None ∷ []
unfolding time_in decimal_in
times = refl
