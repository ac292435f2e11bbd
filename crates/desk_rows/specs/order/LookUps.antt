-- What look-ups in the rows return, by the registry's facts.
use Rattle.std.specs.Prelude.{◌≡◌, ℕ, ◌+◌, ◌≤◌, ◌==◌, ◌&&◌, Bool, true, false, List, [], ◌∷◌, filter, length, Option, Some, slice_get, option_map, option_and_then}
use Rattle.std.specs.declared.cmp.Ordering.{Ordering}
use Rattle.std.specs.List.{list_any}
use Rattle.std.specs.Option.{option_map_or}
use Rattle.std.specs.Ordering.{is_gt}
use Rattle.radio_core.specs.declared.bands.Band.{Band}
use Rattle.radio_core.specs.Bands.{band_number, limit_of}
use Rattle.registry_core.specs.declared.facts.Kind.TheVariants.{Join, Data}
use Rattle.registry_core.specs.declared.facts.Uplink.{Uplink}
use Rattle.registry_core.specs.Bookings.{is_answer_to, is_answered, limit_standing, next_down}
use Rattle.registry_core.specs.Derived.{data_with, is_below, is_below_floor, join_with, last_counter, last_nonce}
use Rattle.registry_core.specs.Limits.{Limit}
use Rattle.registry_core.specs.Numbered.{first_that, item_at}
use Rattle.registry_core.specs.Settings.{Settings}
use Rattle.registry_core.specs.State.{State}
use Rattle.sqlite_keyed.specs.Lists.{sort_by}
use Rattle.desk_rows.specs.Rows.{Rows, BookingRow, DeviceRow, SessionRow, kind_number, is_device, is_session, is_uplink}
use Rattle.desk_rows.specs.order.Changes.{limits_set}
use Rattle.desk_rows.specs.order.Facts.{limit_found}
use Rattle.desk_rows.specs.order.RowsOf.{AreRowsOf}
use Rattle.std.specs.Prelude.{find}

-- ---- rows in an order

-- the rows, each with its number
abbrev pub zip_from : {X : Type 0} → ℕ → List X → List (ℕ × X)
zip_from first [] = []
zip_from first (x ∷ xs) = (first, x) ∷ zip_from (first + 1) xs

-- the rows that pass the test, in this order
abbrev pub rows_by : {X : Type 0} → (ℕ × X → ℕ × X → Ordering) → (X → Bool) → List X → List (ℕ × X)
rows_by order test rows = sort_by order (filter (λ row. test row.1) (zip_from 1 rows))

-- the value in the first of them
abbrev pub first_by : {X Y : Type 0} → (X → Y) → (ℕ × X → ℕ × X → Ordering) → (X → Bool) → List X → Option Y
first_by show order test rows = option_map (λ row. show row.1) (slice_get (rows_by order test rows) 0)

-- in this order keys fall: a later one is not greater than an earlier one
pub record Falls {A : Type 0} (key : A → ℕ) (order : A → A → Ordering) : Type 0 where
  pub after : (a b : A) → is_gt (order a b) ≡ true → key a ≤ key b
  pub before : (a b : A) → is_gt (order a b) ≡ false → key b ≤ key a

-- the number of the first of all rows, 0 if there is none
abbrev pub first_number : {X : Type 0} → (ℕ × X → ℕ × X → Ordering) → List X → ℕ
first_number order rows = option_map_or (λ row. row.0) (slice_get (sort_by order (zip_from 1 rows)) 0) 0

-- ---- the row with a key or a number

-- the first row that passes the test, with its number
abbrev pub row_with : {X : Type 0} → (X → Bool) → List X → Option (ℕ × X)
row_with test rows = find (λ row. test row.1) (zip_from 1 rows)

-- the row with this number
abbrev pub row_at : {X : Type 0} → ℕ → List X → Option X
row_at n rows = option_map (λ row. row.1) (find (λ row. row.0 == n) (zip_from 1 rows))

-- ---- what is looked up

-- the floor in the device's row
abbrev pub floor_in : List DeviceRow → ℕ → Option ℕ
floor_in devices dev_eui = option_and_then (λ (d : DeviceRow). d.floor) (find (is_device dev_eui) devices)

-- the next downlink counter in the session's row
abbrev pub next_down_in : List SessionRow → ℕ → ℕ
next_down_in sessions n = option_map_or (λ (s : SessionRow). s.next_down) (row_at n sessions) 0

abbrev pub is_row_of_device : ℕ → SessionRow → Bool
is_row_of_device dev_eui s = s.session.device == dev_eui

-- a data uplink of the session
abbrev pub is_data_row : ℕ → Uplink → Bool
is_data_row n u = u.session == n && kind_number u.kind == kind_number Data

-- the number of the session of the device with the nonce
abbrev pub session_joined : List SessionRow → ℕ → ℕ → Option ℕ
session_joined sessions dev_eui nonce = option_map (λ (found : ℕ × SessionRow). found.0) (row_with (is_session dev_eui nonce) sessions)

-- the join uplink of that session with that counter
abbrev pub uplink_joined : Rows → ℕ → ℕ → Option (ℕ × Uplink)
uplink_joined r dev_eui nonce = option_and_then (λ (n : ℕ). row_with (is_uplink n Join nonce) r.uplinks) (session_joined r.sessions dev_eui nonce)

-- ---- laws, of the rows of facts

-- the stored counters are the registry's: a device that isn't there has no floor, and a session that isn't there has no downlinks
pub record CountersTell (facts : State) (r : Rows) : Type 0 where
  pub floor : (dev_eui n : ℕ) → is_below n (floor_in r.devices dev_eui) ≡ is_below_floor facts.uplinks facts.sessions dev_eui n
  pub next_down : (n : ℕ) → next_down_in r.sessions n ≡ next_down facts.bookings facts.uplinks n

-- the last nonce and the last counter are those of the first row in falling order
pub record LastOnesTell (facts : State) (r : Rows) : Type 0 where
  pub nonce : (dev_eui : ℕ) (order : ℕ × SessionRow → ℕ × SessionRow → Ordering) → Falls (λ s. s.1.session.nonce) order
      → first_by (λ s. s.session.nonce) order (is_row_of_device dev_eui) r.sessions ≡ last_nonce facts.sessions dev_eui
  pub counter : (n : ℕ) (order : ℕ × Uplink → ℕ × Uplink → Ordering) → Falls (λ u. u.1.counter) order
      → first_by (λ u. u.counter) order (is_data_row n) r.uplinks ≡ last_counter facts.uplinks n

-- a row that is found with its number is the item with that number in the list of rows
pub record RowsAreItems (r : Rows) : Type 0 where
  pub session_numbered : (n : ℕ) → row_at n r.sessions ≡ item_at r.sessions n
  pub uplink_at : (n : ℕ) → row_at n r.uplinks ≡ item_at r.uplinks n
  pub booking_at : (n : ℕ) → row_at n r.bookings ≡ item_at r.bookings n
  pub session_that : (test : SessionRow → Bool) → row_with test r.sessions ≡ first_that test r.sessions
  pub uplink_with : (test : Uplink → Bool) → row_with test r.uplinks ≡ first_that test r.uplinks

-- the row with a number
pub record NumbersTell (facts : State) (r : Rows) : Type 0 where
  pub session : (n : ℕ) → option_map (λ (s : SessionRow). s.session) (row_at n r.sessions) ≡ item_at facts.sessions n
  pub uplink : (n : ℕ) → row_at n r.uplinks ≡ item_at facts.uplinks n
  pub booking : (n : ℕ) → option_map (λ (b : BookingRow). b.booking) (row_at n r.bookings) ≡ item_at facts.bookings n
  -- a booking that isn't dropped answers the uplink with the number
  pub answered : (n : ℕ) → list_any (λ (b : BookingRow). is_answer_to n b.booking) r.bookings ≡ is_answered facts.bookings n

-- the number of items is the number of the last row, which is the first in falling order
pub record CountsTell (facts : State) (r : Rows) : Type 0 where
  pub sessions : (order : ℕ × SessionRow → ℕ × SessionRow → Ordering) → Falls (λ s. s.0) order → first_number order r.sessions ≡ length facts.sessions
  pub uplinks : (order : ℕ × Uplink → ℕ × Uplink → Ordering) → Falls (λ u. u.0) order → first_number order r.uplinks ≡ length facts.uplinks
  pub bookings : (order : ℕ × BookingRow → ℕ × BookingRow → Ordering) → Falls (λ b. b.0) order → first_number order r.bookings ≡ length facts.bookings

-- a frame is found by its session, kind and counter
pub record FramesTell (facts : State) (r : Rows) : Type 0 where
  pub join : (dev_eui nonce : ℕ) → uplink_joined r dev_eui nonce ≡ join_with facts.uplinks facts.sessions dev_eui nonce
  pub data_up : (n counter : ℕ) → row_with (is_uplink n Data counter) r.uplinks ≡ data_with facts.uplinks n counter

-- The limit in the row of a gateway's band is the one that was set, and if there is no row, the limit is the band's own. After a limit is
-- set, it is the one that is found.
pub record LimitsTell (facts : State) (r : Rows) : Type 0 where
  pub standing : (gateway : List ℕ) (band : Band)
      → option_map_or (λ most. most) (limit_found r.limits gateway (band_number band)) (limit_of band) ≡ limit_standing facts gateway band
  pub set : (gateway : List ℕ) (limit : Limit) → limit_found (limits_set gateway limit r.limits) gateway (band_number limit.band) ≡ Some limit.most

abbrev pub LookUpsTell : Type 0
LookUpsTell = (c : Settings) (facts : State) (r : Rows) → AreRowsOf c facts r
    → RowsAreItems r × CountersTell facts r × LastOnesTell facts r × NumbersTell facts r × CountsTell facts r × FramesTell facts r × LimitsTell facts r
