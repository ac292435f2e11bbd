-- Worked rows, computed from the definitions only: what a list of effects leaves in the columns of counters.
use Rattle.std.proofs.Common.{◌≡◌, ℕ, List, [], ◌∷◌, map, length, Option, Some, false, refl}
use Rattle.std.specs.Prelude.{codes, pos}
use Rattle.radio_core.specs.declared.bands.Band.{Band}
use Rattle.radio_core.specs.declared.bands.Band.TheVariants.{B1, B3, B4}
use Rattle.radio_core.specs.declared.data_rates.DataRate.TheVariants.{Dr5}
use Rattle.registry_core.specs.declared.effects.Effect.{Effect}
use Rattle.registry_core.specs.declared.effects.Effect.TheVariants.{AddsOwner, AddsGateway, AddsDevice, MovesDevice, AddsSession, AddsUplink, AddsBooking, EndsBooking, SetsLimit}
use Rattle.registry_core.specs.declared.facts.Kind.{Kind}
use Rattle.registry_core.specs.declared.facts.Kind.TheVariants.{Join, Data}
use Rattle.registry_core.specs.declared.facts.Reception.{Reception}
use Rattle.registry_core.specs.declared.facts.Standing.{Standing}
use Rattle.registry_core.specs.declared.facts.Standing.TheVariants.{Booked, Dropped}
use Rattle.registry_core.specs.declared.facts.Uplink.{Uplink}
use Rattle.desk_rows.specs.Rows.{Rows, BookingRow, ReceptionRow, DeviceRow, LimitRow, ReplyRow, SessionRow}
use Rattle.desk_rows.specs.order.Changes.{opening_rows, rows_with}

abbrev reply : ReplyRow
reply = record { sender = codes "office"; number = 1; message = []; answer = [] }

-- the rows after these effects, one after another
abbrev rows_after : Rows → List Effect → Rows
rows_after r [] = r
rows_after r (effect ∷ effects) = rows_after (rows_with effect reply r) effects

abbrev rows_of : List Effect → Rows
rows_of effects = rows_after (opening_rows (record { receiver = codes "desk"; operator = codes "office"; base = 0x01a00000; addresses = 16 })) effects

abbrev heard : Reception
heard = record { end = 1706745600000000; rate = record { freq = 868100000; dr = Dr5 } }

abbrev uplink_of : ℕ → Kind → ℕ → Uplink
uplink_of session kind counter =
    record { session = session; kind = kind; counter = counter; octets = []; start = 1706745599900000; airtime = 61696; band = B3 }

abbrev device_of_town : ℕ → Effect
device_of_town dev_eui = AddsDevice dev_eui (record { join_eui = 7; owner = codes "town" })

abbrev join_of : ℕ → ℕ → ℕ → Effect
join_of session dev_eui nonce = AddsSession (record { device = dev_eui; nonce = nonce }) (uplink_of session Join nonce) (codes "gw-a") heard

abbrev data_of : ℕ → ℕ → Effect
data_of session counter = AddsUplink (uplink_of session Data counter) (codes "gw-a") heard

abbrev down_to : ℕ → Effect
down_to uplink = AddsBooking
    (record { uplink = uplink; gateway = codes "gw-a"; band = B3; span = record { start = pos 1706745601000000; len = 51456 }; standing = Booked })

-- two devices; the first joins, sends, joins again, and the second joins and sends
abbrev effects : List Effect
effects = AddsOwner (codes "town") ∷ AddsOwner (codes "port") ∷ AddsGateway (codes "gw-a") ∷ device_of_town 1 ∷ device_of_town 2
    ∷ join_of 1 1 5 ∷ data_of 1 0 ∷ join_of 2 1 6 ∷ join_of 3 2 5 ∷ data_of 3 9 ∷ []

abbrev floors : List Effect → List (Option ℕ)
floors es = map (λ (d : DeviceRow). d.floor) (rows_of es).devices

-- a join leaves the floor, data raise that of their own device
floors_worked : floors effects ≡ Some 1 ∷ Some 3 ∷ []
floors_worked = refl

-- data of the later session raise it further, those of the earlier one leave it
later_floor : map (λ (d : DeviceRow). d.floor) (rows_after (rows_of effects) (data_of 2 0 ∷ data_of 1 1 ∷ [])).devices ≡ Some 2 ∷ Some 3 ∷ []
later_floor = refl

-- uplinks 2 and 5 are data of sessions 1 and 3, uplink 1 a join: a downlink that answers it isn't counted
abbrev booked : Rows
booked = rows_after (rows_of effects) (down_to 2 ∷ down_to 1 ∷ down_to 5 ∷ EndsBooking 1 false ∷ down_to 2 ∷ [])

next_downs_worked : map (λ (s : SessionRow). s.next_down) booked.sessions ≡ 2 ∷ 0 ∷ 1 ∷ []
next_downs_worked = refl

bookings_worked : ◌≡◌ {A = List (ℕ × Kind × Standing)} (map (λ (b : BookingRow). (b.session, b.kind, b.booking.standing)) booked.bookings)
    ((1, Data, Dropped) ∷ (1, Join, Booked) ∷ (3, Data, Booked) ∷ (1, Data, Booked) ∷ [])
bookings_worked = refl

-- a device that moves has the same floor, and no other moves
moved_worked : ◌≡◌ {A = List (List ℕ × Option ℕ)}
    (map (λ (d : DeviceRow). (d.device.owner, d.floor)) (rows_after booked (MovesDevice 1 (codes "port") ∷ [])).devices)
    ((codes "port", Some 1) ∷ (codes "town", Some 3) ∷ [])
moved_worked = refl

-- the copies are numbered by their uplinks, and each effect has added one reply
receptions_worked : map (λ (c : ReceptionRow). c.uplink) booked.receptions ≡ 1 ∷ 2 ∷ 3 ∷ 4 ∷ 5 ∷ []
receptions_worked = refl

replies_worked : length booked.replies ≡ 15
replies_worked = refl

-- the gateway's name, the band and the limit
abbrev limits : List Effect → List (List ℕ × Band × ℕ)
limits es = map (λ (l : LimitRow). (l.gateway, l.limit.band, l.limit.most)) (rows_of es).limits

abbrev limit_to : List ℕ → Band → ℕ → Effect
limit_to gateway band most = SetsLimit gateway (record { band = band; most = most })

-- a limit that is set again changes its row, and no other
limits_worked : limits (limit_to (codes "gw-a") B4 991232 ∷ limit_to (codes "gw-a") B1 0 ∷ limit_to (codes "gw-b") B4 7 ∷ limit_to (codes "gw-a") B4 3600000 ∷ [])
    ≡ (codes "gw-a", B4, 3600000) ∷ (codes "gw-a", B1, 0) ∷ (codes "gw-b", B4, 7) ∷ []
limits_worked = refl
