-- What an effect's rows need of the rows that are there before it.
use Rattle.std.specs.Prelude.{◌≡◌, ℕ, ◌+◌, List, length, Option, Some, MatchOption, Result}
use Rattle.radio_core.specs.Bands.{band_number}
use Rattle.registry_core.specs.declared.effects.Effect.{Effect}
use Rattle.registry_core.specs.declared.effects.Effect.TheVariants.{MovesDevice, AddsSession, AddsUplink, AddsReception, AddsBooking, EndsBooking, SetsLimit}
use Rattle.registry_core.specs.declared.facts.Booking.{Booking}
use Rattle.registry_core.specs.declared.facts.Uplink.{Uplink}
use Rattle.registry_core.specs.declared.messages.Envelope.{Envelope}
use Rattle.registry_core.specs.Limits.{Limit}
use Rattle.registry_core.specs.Numbered.{item_at, item_changed}
use Rattle.registry_core.specs.JsonIntegers.{IsJsonInteger}
use Rattle.sqlite_keyed.specs.Lists.{update_where}
use Rattle.desk_rows.specs.Rows.{Rows, ReplyRow, SessionRow, is_device, is_reply}
use Rattle.desk_rows.specs.order.Changes.{booking_row, devices_raised, has_limit, kind_at, rows_changed, session_of_uplink, sessions_counted}
use Rattle.desk_rows.specs.order.Keys.{HasOnly, IsFree, IsFreeFor, IsThereFor, floor_set, next_down_set}
use Rattle.desk_rows.specs.declared.faults.RowFault.{RowFault}
use Rattle.sqlite.specs.State.{State}
use Rattle.desk_tables.specs.steps.Calls.{Makes}
use Rattle.desk_tables.specs.Seen.{IsSeen}
use Rattle.desk_tables.specs.declared.effects.input.Known.{Known}
use Rattle.desk_tables.specs.declared.effects.input.EffectInput.{EffectInput}
use Rattle.desk_tables.specs.declared.effects.input.EffectInput.TheVariants as input

-- the row of a message with its answer
abbrev pub reply_row : Envelope → List ℕ → List ℕ → ReplyRow
reply_row e message answer = record { sender = e.sender; number = e.transaction; message = message; answer = answer }

-- ---- what is read

-- this is the device whose floor rises to the session, or none rises
abbrev pub IsRaised : ℕ → Rows → Option ℕ → Type 0
IsRaised session r raises = MatchOption raises (devices_raised r.sessions session r.devices ≡ r.devices)
    (λ dev_eui. HasOnly (is_device dev_eui) r.devices
    × (devices_raised r.sessions session r.devices ≡ update_where (is_device dev_eui) (floor_set session) r.devices))

-- there is a session with this number
abbrev pub HasSession : ℕ → Rows → Type 0
HasSession number r = (row : SessionRow) × (item_at r.sessions number ≡ Some row)

-- this is the next downlink counter of the session in which the booking counts, or it counts in none
abbrev pub CountsInSession : Booking → Rows → ℕ → Option ℕ → Type 0
CountsInSession booking r session counter =
    let counted = sessions_counted (kind_at r.uplinks booking.uplink) (session_of_uplink r.uplinks booking.uplink) r.sessions in
    MatchOption counter (counted ≡ r.sessions) (λ n. HasSession session r × (counted ≡ item_changed (next_down_set n) r.sessions session))

-- the next downlink counter of the session, with one more downlink
abbrev pub IsNextDown : ℕ → Rows → ℕ → Type 0
IsNextDown number r counter = (row : SessionRow) × (item_at r.sessions number ≡ Some row) × (counter ≡ row.next_down + 1)

abbrev pub IsInputOfSession : Rows → EffectInput → Type 0
IsInputOfSession r (input.Session number) = number ≡ length r.uplinks + 1
IsInputOfSession r _ = ⊥

abbrev pub IsInputOfUplink : Uplink → Rows → EffectInput → Type 0
IsInputOfUplink uplink r (input.Uplink number raises) = (number ≡ length r.uplinks + 1) × IsRaised uplink.session r raises
IsInputOfUplink uplink r _ = ⊥

abbrev pub IsInputOfBooking : Booking → Rows → EffectInput → Type 0
IsInputOfBooking booking r (input.Booking session kind counter) =
    (booking_row r.uplinks booking ≡ record { booking = booking; session = session; kind = kind }) × CountsInSession booking r session counter
IsInputOfBooking booking r _ = ⊥

abbrev pub IsInputOfLimit : List ℕ → Limit → Rows → EffectInput → Type 0
IsInputOfLimit gateway limit r (input.Limit is_set) = is_set ≡ has_limit gateway (band_number limit.band) r.limits
IsInputOfLimit gateway limit r _ = ⊥

-- what was read is what the effect needs of the rows
abbrev pub IsInput : Effect → Rows → EffectInput → Type 0
IsInput (AddsSession session uplink gateway reception) r input = IsInputOfSession r input
IsInput (AddsUplink uplink gateway reception) r input = IsInputOfUplink uplink r input
IsInput (AddsBooking booking) r input = IsInputOfBooking booking r input
IsInput (SetsLimit gateway limit) r input = IsInputOfLimit gateway limit r input
IsInput effect r input = Unit {0}

-- this is the number of uplinks, and the cache is right
pub record IsKnown (r : Rows) (known : Known) : Type 0 where
  pub uplinks : known.uplinks ≡ length r.uplinks
  pub seen : IsSeen r known.seen

-- the rows that the effect changes are there, and this is known of the rows
abbrev pub IsThereAndKnown : Effect → Known → Rows → Type 0
IsThereAndKnown effect known r = IsThereFor effect r × IsKnown r known

-- ---- the rows to which an effect may be written

-- the session of the uplink that a booking answers has a number below 2^53, and so is its next downlink counter
abbrev pub CountsInJsonIntegers : Booking → Rows → Type 0
CountsInJsonIntegers booking r = (uplink : Uplink) → item_at r.uplinks booking.uplink ≡ Some uplink
    → IsJsonInteger uplink.session × ((session : SessionRow) → item_at r.sessions uplink.session ≡ Some session → IsJsonInteger (session.next_down + 1))

-- the numbers that the effect names or gives, and those of the rows that it changes, are integers below 2^53
abbrev pub AreJsonIntegers : Effect → Rows → Type 0
AreJsonIntegers (MovesDevice dev_eui owner) r = IsJsonInteger (length r.devices)
AreJsonIntegers (AddsSession session uplink gateway reception) r = IsJsonInteger uplink.session × IsJsonInteger (length r.uplinks + 1)
AreJsonIntegers (AddsUplink uplink gateway reception) r = IsJsonInteger uplink.session × IsJsonInteger (length r.uplinks + 1) × IsJsonInteger (length r.devices)
AreJsonIntegers (AddsReception number gateway reception) r = IsJsonInteger number
AreJsonIntegers (AddsBooking booking) r = IsJsonInteger booking.uplink × CountsInJsonIntegers booking r
AreJsonIntegers (EndsBooking number sent) r = IsJsonInteger number
AreJsonIntegers (SetsLimit gateway limit) r = IsJsonInteger (length r.limits)
AreJsonIntegers effect r = Unit {0}

-- the keys that the effect adds are free, the rows that it changes are there, and its numbers are in range
pub record IsOpenTo (effect : Effect) (r : Rows) : Type 0 where
  pub free : IsFreeFor effect r
  pub there : IsThereFor effect r
  pub json_integers : AreJsonIntegers effect r

-- the same, and the key of the message is free
pub record IsOpenToBoth (effect : Effect) (e : Envelope) (r : Rows) : Type 0 where
  pub change : IsOpenTo effect r
  pub reply : IsFree (is_reply e.sender e.transaction) r.replies

-- the effect is written, with what was read for it
abbrev pub WritesEffect : State → State → Result (Unit {0}) RowFault → Effect → EffectInput → Type 0
WritesEffect old new result effect input = Makes old new result (λ r. IsInput effect r input) (IsOpenTo effect) (rows_changed effect)
