-- Laws of numbered items: what the definitions mean.
use Rattle.std.specs.Prelude.{◌≡◌, ◌≤◌, ◌<◌, ℕ, Bool, true, false, List, [], length, Some, MatchOption, All, Contains, option_map, ◌==◌, if◌then◌else◌}
use Rattle.registry_core.specs.declared.facts.Booking.{Booking}
use Rattle.registry_core.specs.declared.facts.Uplink.{Uplink}
use Rattle.registry_core.specs.Numbered.{item_at, item_changed, first_that, greatest}

-- The greatest of some numbers is one of them, and none of them is above it. An empty list has no greatest, and no other list has none.
abbrev pub GreatestIsMost : Type 0
GreatestIsMost = (ns : List ℕ) → MatchOption (greatest ns) (ns ≡ []) (λ n. Contains ns n × All (λ m. m ≤ n) ns)

-- The first uplink that passes a test has its number and passes, and none with a lower number does. If there is no first, no uplink passes.
abbrev pub FirstIsFirst : Type 0
FirstIsFirst = (test : Uplink → Bool) (uplinks : List Uplink) → MatchOption (first_that test uplinks)
    ((n : ℕ) (u : Uplink) → item_at uplinks n ≡ Some u → test u ≡ false)
    (λ found. (item_at uplinks found.0 ≡ Some found.1) × (test found.1 ≡ true)
    × ((n : ℕ) (u : Uplink) → n < found.0 → item_at uplinks n ≡ Some u → test u ≡ false))

-- A change of the booking with a number changes only that one, and adds or removes no booking.
abbrev pub OneIsChanged : Type 0
OneIsChanged = (change : Booking → Booking) (bookings : List Booking) (n : ℕ) → (length (item_changed change bookings n) ≡ length bookings)
    × ((m : ℕ) → item_at (item_changed change bookings n) m ≡ (if n == m then option_map change (item_at bookings m) else item_at bookings m))
