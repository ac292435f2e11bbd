-- What lists of the facts are about: names and devices in order, a device's sessions, the greatest start of a session's uplinks, a device's
-- receptions, and a gateway's bookings.
use Rattle.std.specs.Prelude.{◌≡◌, ℕ, ℤ, pos, ◌==◌, ◌+◌, ◌&&◌, Bool, false, List, [], ◌∷◌, filter, map, Option, if◌then◌else◌, int_le, int_lt, is_some, bytes_eq}
use Rattle.std.specs.declared.cmp.Ordering.{Ordering}
use Rattle.std.specs.Cmp.Lexicographic.{slice_cmp}
use Rattle.std.specs.List.{list_any}
use Rattle.std.specs.List.Sorted.{IsStrictlyIncreasing, IsStrictlySortedBy}
use Rattle.std.specs.Option.{option_map_or}
use Rattle.std.specs.Ordering.{int_cmp, nat_cmp, ordering_then}
use Rattle.registry_core.specs.declared.facts.Booking.{Booking}
use Rattle.registry_core.specs.declared.facts.Session.{Session}
use Rattle.registry_core.specs.declared.facts.Uplink.{Uplink}
use Rattle.registry_core.specs.Derived.{is_session_of}
use Rattle.registry_core.specs.Numbered.{greatest, item_at}
use Rattle.registry_core.specs.Reports.{is_uplink_from}
use Rattle.registry_core.specs.State.{State}

-- ---- names and devices

-- the names that pass the test, each once, ordered by their octets
pub record AreNames (has : List ℕ → Bool) (names : List (List ℕ)) : Type 0 where
  pub rising : IsStrictlySortedBy (slice_cmp nat_cmp) names
  pub each : (name : List ℕ) → list_any (λ other. bytes_eq other name) names ≡ has name

-- the DevEUIs that pass the test, each once, in order
pub record AreDevices (has : ℕ → Bool) (devices : List ℕ) : Type 0 where
  pub rising : IsStrictlyIncreasing devices
  pub each : (dev_eui : ℕ) → list_any (λ other. other == dev_eui) devices ≡ has dev_eui

-- a sender has the name
abbrev pub has_sender : State → List ℕ → Bool
has_sender s name = is_some (s.senders name)

-- there is a device with the DevEUI
abbrev pub has_device : State → ℕ → Bool
has_device s dev_eui = is_some (s.devices dev_eui)

-- ---- a device's sessions

-- the numbers of the items that pass the test; the items are numbered from `first` on
abbrev pub numbers_from : {X : Type 0} → ℕ → (X → Bool) → List X → List ℕ
numbers_from first test [] = []
numbers_from first test (x ∷ xs) = if test x then first ∷ numbers_from (first + 1) test xs else numbers_from (first + 1) test xs

-- the numbers of the device's sessions, in the order in which they began
abbrev pub sessions_of : List Session → ℕ → List ℕ
sessions_of sessions dev_eui = numbers_from 1 (is_session_of dev_eui) sessions

-- ---- a session's uplinks

-- the uplink is one of session n
abbrev pub is_of_session : ℕ → Uplink → Bool
is_of_session n uplink = uplink.session == n

-- the greatest start of the session's uplinks, joins and data, in microseconds since 1970 UTC
abbrev pub last_start : List Uplink → ℕ → Option ℕ
last_start uplinks n = greatest (map (λ uplink. uplink.start) (filter (is_of_session n) uplinks))

-- ---- items by start

-- an item with this number passes the test
abbrev pub passes_at : {X : Type 0} → (X → Bool) → List X → ℕ → Bool
passes_at test items n = option_map_or test (item_at items n) false

-- the start of the item with this number
abbrev pub start_at : {X : Type 0} → (X → ℤ) → List X → ℕ → ℤ
start_at start items n = option_map_or start (item_at items n) (pos 0)

-- by start, and those that start together by number
abbrev pub start_cmp : {X : Type 0} → (X → ℤ) → List X → ℕ → ℕ → Ordering
start_cmp start items m n = ordering_then (int_cmp (start_at start items m) (start_at start items n)) (nat_cmp m n)

-- the numbers of the items that pass the test, each once, ordered by start; those that start together by number
pub record AreNumbersByStart {X : Type 0} (start : X → ℤ) (test : X → Bool) (items : List X) (numbers : List ℕ) : Type 0 where
  pub rising : IsStrictlySortedBy (start_cmp start items) numbers
  pub each : (n : ℕ) → list_any (λ other. other == n) numbers ≡ passes_at test items n

-- when an uplink starts, in microseconds since 1970 UTC
abbrev pub uplink_start : Uplink → ℤ
uplink_start uplink = pos uplink.start

-- the numbers of the device's uplinks that start at `from` or later and before `to`, by start
abbrev pub AreUplinksFrom : State → ℕ → ℤ → ℤ → List ℕ → Type 0
AreUplinksFrom s dev_eui from to = AreNumbersByStart uplink_start (is_uplink_from s.sessions dev_eui from to) s.uplinks

-- when a booking starts, in microseconds since 1970 UTC
abbrev pub booking_start : Booking → ℤ
booking_start booking = booking.span.start

-- the booking is one of the gateway and starts at `from` or later and before `to`; it may be dropped
abbrev pub is_booking_from : List ℕ → ℤ → ℤ → Booking → Bool
is_booking_from gateway from to booking = bytes_eq booking.gateway gateway && int_le from booking.span.start && int_lt booking.span.start to

-- the numbers of the gateway's bookings that start at `from` or later and before `to`, dropped ones too, by start
abbrev pub AreBookingsFrom : State → List ℕ → ℤ → ℤ → List ℕ → Type 0
AreBookingsFrom s gateway from to = AreNumbersByStart booking_start (is_booking_from gateway from to) s.bookings

-- ---- a device's receptions

-- the gateway reported a reception of the uplink with this number
abbrev pub has_reception : State → ℕ → List ℕ → Bool
has_reception s number gateway = is_some (s.receptions number gateway)

-- an uplink's number and a gateway: by the uplink's start, then its number, then the gateway's octets
abbrev pub reception_cmp : State → ℕ × List ℕ → ℕ × List ℕ → Ordering
reception_cmp s a b = ordering_then (start_cmp uplink_start s.uplinks a.0 b.0) (slice_cmp nat_cmp a.1 b.1)

-- The receptions of the device's uplinks that start at `from` or later and before `to`, each once, by the number of the uplink and the
-- gateway: ordered by the uplink's start, then its number, then the gateway.
pub record AreReceptionsFrom (s : State) (dev_eui : ℕ) (from to : ℤ) (receptions : List (ℕ × List ℕ)) : Type 0 where
  pub rising : IsStrictlySortedBy (reception_cmp s) receptions
  pub each : (number : ℕ) (gateway : List ℕ) → list_any (λ (other : ℕ × List ℕ). other.0 == number && bytes_eq other.1 gateway) receptions
      ≡ (passes_at (is_uplink_from s.sessions dev_eui from to) s.uplinks number && has_reception s number gateway)
