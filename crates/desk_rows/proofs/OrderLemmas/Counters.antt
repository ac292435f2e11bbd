-- The stored counters with each effect: floors, next downlink counters, a booking's session and kind.
use Rattle.std.proofs.Common.{◌≡◌, ℕ, ◌+◌, ◌==◌, ◌&&◌, Bool, true, false, cond, List, [], ◌∷◌, ◌++◌, map, Option, Some, None, option_map, refl, sym, ap, ap₂, ◌∙◌, add-zero}
use Rattle.std.specs.Prelude.{max}
use Rattle.std.specs.List.{AllByRecursion}
use Rattle.std.specs.Option.{option_map_or}
use Rattle.std.proofs.lemmas.Bool.{and_right, both_ways, eq-eqb, eqb-true, ne_eqb}
use Rattle.std.proofs.lemmas.List.{map-append}
use Rattle.registry_core.specs.declared.facts.Booking.{Booking}
use Rattle.registry_core.specs.declared.facts.Kind.{Kind}
use Rattle.registry_core.specs.declared.facts.Kind.TheVariants.{Join, Data}
use Rattle.registry_core.specs.declared.facts.Session.{Session}
use Rattle.registry_core.specs.declared.facts.Uplink.{Uplink}
use Rattle.registry_core.specs.Bookings.{is_down_of, next_down}
use Rattle.registry_core.specs.Derived.{is_data, is_data_of, is_of_device, is_session_of}
use Rattle.registry_core.specs.Numbered.{greatest, item_at, item_changed}
use Rattle.registry_core.specs.State.{ended}
use Rattle.desk_rows.specs.Rows.{DeviceRow, SessionRow, BookingRow}
use Rattle.desk_rows.specs.order.Changes.{booking_row, counted_down, devices_raised, ended_row, kind_at, raised, session_of_uplink, sessions_counted}
use Rattle.desk_rows.specs.order.Facts.{bookings_in, sessions_in}
use Rattle.desk_rows.specs.order.RowsOf.{AnswersUplink, IsOfSession, floor_of, is_data_from}
use Rattle.desk_rows.proofs.OrderLemmas.Counting.{count_alike, count_changed, count_none, count_with, filter_alike, greatest-append}
use Rattle.desk_rows.proofs.OrderLemmas.Each.{all_at, all_changed, all_map, all_so}
use Rattle.desk_rows.proofs.OrderLemmas.Numbering.{item_at-changed, item_at-other, item_kept, map-item_changed}

-- ---- floors

abbrev pub HasFloor : List Uplink → List Session → DeviceRow → Type 0
HasFloor uplinks sessions d = d.floor ≡ floor_of uplinks sessions d.dev_eui

module _ (uplinks : List Uplink) (sessions : List Session) (uplink : Uplink) where
  floor_step : (dev_eui : ℕ) (b : Bool) → is_data_from sessions dev_eui uplink ≡ b
      → floor_of (uplinks ++ uplink ∷ []) sessions dev_eui
      ≡ cond b (Some (option_map_or (max uplink.session) (floor_of uplinks sessions dev_eui) uplink.session)) (floor_of uplinks sessions dev_eui)
  floor_step dev_eui b is = greatest-append (λ (u : Uplink). u.session) (is_data_from sessions dev_eui) uplinks uplink
      ∙ ap (λ c. cond c (Some (option_map_or (max uplink.session) (floor_of uplinks sessions dev_eui) uplink.session)) (floor_of uplinks sessions dev_eui)) is

  -- a join leaves each floor
  pub floor_join : uplink.kind ≡ Join → (dev_eui : ℕ) → floor_of (uplinks ++ uplink ∷ []) sessions dev_eui ≡ floor_of uplinks sessions dev_eui
  floor_join is dev_eui = floor_step dev_eui false (ap (λ k. is_data k && is_of_device sessions dev_eui uplink.session) is)

  module _ (is : uplink.kind ≡ Data) where
    floor_raised : (d : DeviceRow) (b : Bool) → is_of_device sessions d.dev_eui uplink.session ≡ b → HasFloor uplinks sessions d
        → HasFloor (uplinks ++ uplink ∷ []) sessions (cond b (raised uplink.session d) d)
    floor_raised d true own has =
        ap (λ last. Some (option_map_or (max uplink.session) last uplink.session)) has
        ∙ sym (floor_step d.dev_eui true (ap₂ (λ k c. is_data k && c) is own))
    floor_raised d false own has = has ∙ sym (floor_step d.dev_eui false (ap₂ (λ k c. is_data k && c) is own))

    raised_again : (d : DeviceRow) → HasFloor uplinks sessions d
        → HasFloor (uplinks ++ uplink ∷ []) sessions (cond (is_of_device sessions d.dev_eui uplink.session) (raised uplink.session d) d)
    raised_again d has = floor_raised d (is_of_device sessions d.dev_eui uplink.session) refl has

pub floors_raised : (uplinks : List Uplink) (sessions : List SessionRow) (uplink : Uplink) → uplink.kind ≡ Data → (devices : List DeviceRow)
    → AllByRecursion (HasFloor uplinks (sessions_in sessions)) devices
    → AllByRecursion (HasFloor (uplinks ++ uplink ∷ []) (sessions_in sessions)) (devices_raised sessions uplink.session devices)
floors_raised uplinks sessions uplink is devices each =
    all_map (HasFloor uplinks (sessions_in sessions)) (HasFloor (uplinks ++ uplink ∷ []) (sessions_in sessions)) _
    (raised_again uplinks (sessions_in sessions) uplink is) devices each

-- a session more changes none of those that uplinks have
module _ (sessions : List Session) (more : List Session) where
  same_session : (dev_eui : ℕ) (u : Uplink) → IsOfSession sessions u
      → is_of_device (sessions ++ more) dev_eui u.session ≡ is_of_device sessions dev_eui u.session
  same_session dev_eui u of =
      ap (λ found. option_map_or (is_session_of dev_eui) found false) (item_kept sessions more u.session of.session of.there ∙ sym of.there)

  pub floor_session : (uplinks : List Uplink) → AllByRecursion (IsOfSession sessions) uplinks → (dev_eui : ℕ)
      → floor_of uplinks (sessions ++ more) dev_eui ≡ floor_of uplinks sessions dev_eui
  floor_session uplinks each dev_eui =
      ap (λ us. greatest (map (λ (u : Uplink). u.session) us))
      (filter_alike (IsOfSession sessions) (is_data_from (sessions ++ more) dev_eui) (is_data_from sessions dev_eui)
      (λ u of. ap (λ b. is_data u.kind && b) (same_session dev_eui u of)) uplinks each)

-- ---- next downlink counters

module _ (uplinks more : List Uplink) where
  same_down : (n : ℕ) (b : BookingRow) → AnswersUplink uplinks b → is_down_of (uplinks ++ more) n b.booking ≡ is_down_of uplinks n b.booking
  same_down n b answers =
      ap (λ found. option_map_or (is_data_of n) found false) (item_kept uplinks more b.booking.uplink answers.uplink answers.there ∙ sym answers.there)

  -- an uplink more changes none
  pub next_down_kept : (bookings : List BookingRow) → AllByRecursion (AnswersUplink uplinks) bookings → (n : ℕ)
      → next_down (bookings_in bookings) (uplinks ++ more) n ≡ next_down (bookings_in bookings) uplinks n
  next_down_kept bookings each n =
      count_alike (AnswersUplink uplinks) (λ (b : BookingRow). b.booking) (is_down_of (uplinks ++ more) n) (is_down_of uplinks n) (same_down n) bookings each

-- a session that isn't there has none
module _ (uplinks : List Uplink) (sessions : List Session) (of : AllByRecursion (IsOfSession sessions) uplinks) (n : ℕ) (absent : item_at sessions n
    ≡ None) where
  not_down : (b : BookingRow) → AnswersUplink uplinks b → is_down_of uplinks n b.booking ≡ false
  not_down b answers =
      let own : IsOfSession sessions answers.uplink = all_at (IsOfSession sessions) uplinks b.booking.uplink answers.uplink answers.there of in
      ap (λ found. option_map_or (is_data_of n) found false) answers.there
      ∙ and_right (is_data answers.uplink.kind) _
      (ne_eqb answers.uplink.session n (λ same. is_there own.session (sym own.there ∙ ap (item_at sessions) same ∙ absent)))
    where
      is_there : (s : Session) → Some s ≡ None → ⊥
      is_there s is = cc

  pub next_down_none : (bookings : List BookingRow) → AllByRecursion (AnswersUplink uplinks) bookings → next_down (bookings_in bookings) uplinks n ≡ 0
  next_down_none bookings each =
      count_alike (AnswersUplink uplinks) (λ (b : BookingRow). b.booking) (is_down_of uplinks n) (λ b. false) not_down bookings each
      ∙ count_none (λ b. false) (λ b. refl) (bookings_in bookings)

abbrev pub HasDowns : List BookingRow → List Uplink → ℕ → SessionRow → Type 0
HasDowns bookings uplinks n s = s.next_down ≡ next_down (bookings_in bookings) uplinks n

-- one booking more, of an uplink that is there
module _ (bookings : List BookingRow) (uplinks : List Uplink) (booking : Booking) (uplink : Uplink) (there : item_at uplinks booking.uplink
    ≡ Some uplink) where
  next_down_with : (row : BookingRow) → row.booking ≡ booking → (n : ℕ) (b : Bool) → is_data_of n uplink ≡ b
      → next_down (bookings_in (bookings ++ row ∷ [])) uplinks n ≡ next_down (bookings_in bookings) uplinks n + cond b 1 0
  next_down_with row is n b answers =
      ap (λ bs. next_down bs uplinks n) (map-append (λ (r : BookingRow). r.booking) bookings (row ∷ []))
      ∙ count_with (is_down_of uplinks n) (bookings_in bookings) row.booking
      ∙ ap (λ c. next_down (bookings_in bookings) uplinks n + cond c 1 0)
      (ap (λ (x : Booking). is_down_of uplinks n x) is ∙ ap (λ found. option_map_or (is_data_of n) found false) there ∙ answers)

  module _ (sessions : List SessionRow) (had : (n : ℕ) (s : SessionRow) → item_at sessions n ≡ Some s
      → HasDowns bookings uplinks n s) (row : BookingRow) (is : row.booking ≡ booking) where
    none_more : (n : ℕ) (s : SessionRow) → item_at sessions n ≡ Some s → is_data_of n uplink ≡ false → HasDowns (bookings ++ row ∷ []) uplinks n s
    none_more n s at apart = had n s at ∙ sym (next_down_with row is n false apart ∙ add-zero _)

    some_changed : (n : ℕ) (s : SessionRow) (before : Option SessionRow) → item_at sessions n ≡ before → option_map counted_down before ≡ Some s
        → is_data_of n uplink ≡ true
        → HasDowns (bookings ++ row ∷ []) uplinks n s
    some_changed n s None at now own = let no : None ≡ Some s = now in cc
    some_changed n s (Some old) at now own =
        let same : counted_down old ≡ s = cc in
        ap (λ (t : SessionRow). t.next_down) (sym same) ∙ ap (λ m. m + 1) (had n old at) ∙ sym (next_down_with row is n true own)

    pub downs_with : (kind : Kind) → uplink.kind ≡ kind → (n : ℕ) (s : SessionRow) → item_at (sessions_counted kind uplink.session sessions) n ≡ Some s
        → HasDowns (bookings ++ row ∷ []) uplinks n s
    downs_with Join k n s at = none_more n s at (ap (λ kind. is_data kind && uplink.session == n) k)
    downs_with Data k n s at = by (uplink.session == n) refl
      where
        by : (b : Bool) → (uplink.session == n) ≡ b → HasDowns (bookings ++ row ∷ []) uplinks n s
        by true same =
            let here : uplink.session ≡ n = eqb-true uplink.session n same in
            some_changed n s (item_at sessions n) refl
            (sym (item_at-changed counted_down sessions n) ∙ ap (λ m. item_at (item_changed counted_down sessions m) n) (sym here) ∙ at)
            (ap₂ (λ kind c. is_data kind && c) k same)
        by false apart = none_more n s
            (sym (item_at-other counted_down sessions uplink.session n (λ same. both_ways _ apart (eq-eqb uplink.session n same))) ∙ at)
            (ap₂ (λ kind c. is_data kind && c) k apart)

-- a booking that ends changes none
pub next_down_ended : (bookings : List BookingRow) (uplinks : List Uplink) (number : ℕ) (sent : Bool) (n : ℕ)
    → next_down (bookings_in (item_changed (ended_row sent) bookings number)) uplinks n ≡ next_down (bookings_in bookings) uplinks n
next_down_ended bookings uplinks number sent n =
    ap (λ bs. next_down bs uplinks n) (map-item_changed (λ (b : BookingRow). b.booking) (ended_row sent) (ended sent) (λ b. refl) bookings number)
    ∙ count_changed (is_down_of uplinks n) (ended sent) (λ b. refl) (bookings_in bookings) number

-- ---- a booking's uplink

pub answers_with : (uplinks more : List Uplink) (bookings : List BookingRow) → AllByRecursion (AnswersUplink uplinks) bookings
    → AllByRecursion (AnswersUplink (uplinks ++ more)) bookings
answers_with uplinks more bookings each = all_so (AnswersUplink uplinks) (AnswersUplink (uplinks ++ more))
    (λ b answers. record { uplink = answers.uplink; there = item_kept uplinks more b.booking.uplink answers.uplink answers.there; session = answers.session; kind = answers.kind })
    bookings each

pub answers_ended : (uplinks : List Uplink) (bookings : List BookingRow) (number : ℕ) (sent : Bool) → AllByRecursion (AnswersUplink uplinks) bookings
    → AllByRecursion (AnswersUplink uplinks) (item_changed (ended_row sent) bookings number)
answers_ended uplinks bookings number sent each = all_changed (AnswersUplink uplinks) (ended_row sent)
    (λ b answers. record { uplink = answers.uplink; there = answers.there; session = answers.session; kind = answers.kind }) bookings number each

pub session_found : (uplinks : List Uplink) (number : ℕ) (uplink : Uplink) → item_at uplinks number ≡ Some uplink → session_of_uplink uplinks number ≡ uplink.session
session_found uplinks number uplink there = ap (λ found. option_map_or (λ (u : Uplink). u.session) found 0) there

pub kind_found : (uplinks : List Uplink) (number : ℕ) (uplink : Uplink) → item_at uplinks number ≡ Some uplink → kind_at uplinks number ≡ uplink.kind
kind_found uplinks number uplink there = ap (λ found. option_map_or (λ (u : Uplink). u.kind) found Join) there

pub answers_new : (uplinks : List Uplink) (booking : Booking) (uplink : Uplink) → item_at uplinks booking.uplink ≡ Some uplink
    → AnswersUplink uplinks (booking_row uplinks booking)
answers_new uplinks booking uplink there = record {
  uplink = uplink;
  there = there;
  session = session_found uplinks booking.uplink uplink there;
  kind = kind_found uplinks booking.uplink uplink there;
}
