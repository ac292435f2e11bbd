-- A gateway's room agrees with what a DownBook is answered.
use Rattle.std.proofs.Common.{◌≡◌, ℕ, zero, suc, ◌+◌, ◌≤◌, Bool, true, false, not, List, [], ◌∷◌, ◌++◌, Option, Some, None, is_ok, refl, sym, subst, ◌∙◌, ap, arith}
use Rattle.std.specs.Prelude.{ℤ, pos, ◌≤ℤ◌, All}
use Rattle.std.specs.Int.{int_min, int_max}
use Rattle.std.specs.List.{AllByRecursion}
use Rattle.std.proofs.lemmas.Int.{ints, clamps}
use Rattle.std.proofs.lemmas.List.Elements.{recursion_from_All}
use Rattle.std.proofs.lemmas.List.Sums.{sum_by_push}
use Rattle.std.proofs.lemmas.Option.{same_Some}
use Rattle.radio_core.specs.declared.bands.Band.{Band}
use Rattle.radio_core.specs.declared.data_rates.Rate.{Rate}
use Rattle.radio_core.specs.Bands.{band_at}
use Rattle.duty_core.specs.Computed.{hours_within, is_clear}
use Rattle.duty_core.specs.Laws.{HoursWithinTells, IsClearTells}
use Rattle.duty_core.specs.Near.{greatest_length}
use Rattle.duty_core.specs.Room.{HasRoom}
use Rattle.duty_core.specs.Use.{Interval, end_of, hour_from, is_in, shared_count}
use Rattle.registry_core.specs.declared.answers.Answer.TheVariants.{Refused}
use Rattle.registry_core.specs.declared.answers.Refusal.{Refusal}
use Rattle.registry_core.specs.declared.answers.Refusal.TheVariants.{UnknownGateway, UnknownDevAddr, BadFrame, OutOfBand, NoUplink, DownCounter, Answered}
use Rattle.registry_core.specs.declared.facts.Booking.{Booking}
use Rattle.registry_core.specs.declared.facts.Reception.{Reception}
use Rattle.registry_core.specs.declared.facts.Uplink.{Uplink}
use Rattle.registry_core.specs.declared.windows.Window.{Window}
use Rattle.registry_core.specs.Bookings.{EveryHourKept, downlinks, downlinks_in, is_answered, limit_standing, next_down}
use Rattle.registry_core.specs.Checks.{Checked, ◌>>=◌, ◌>>◌, wants, needs}
use Rattle.registry_core.specs.Decision.{Decision, decision_or_refusal}
use Rattle.registry_core.specs.Derived.{address_of}
use Rattle.registry_core.specs.DownlinkLaws.{DownlinksAreShort, tells_booking}
use Rattle.registry_core.specs.Downlinks.{down_added, down_book, on_air}
use Rattle.registry_core.specs.Frames.{counts_as, downlink_to, frame_at_rate, goes_to}
use Rattle.registry_core.specs.Heard.{state_of}
use Rattle.registry_core.specs.Numbered.{item_at}
use Rattle.registry_core.specs.Rules.{RulesAreKept}
use Rattle.registry_core.specs.Settings.{Settings}
use Rattle.registry_core.specs.State.{State, opening, state_with}
use Rattle.registry_core.specs.Step.{checked_decision, step}
use Rattle.registry_core.specs.Windows.{delay, rate_in}
use Rattle.desk_engine.specs.Rooms.{IsBandRoom, RoomAgrees, RoomPassesChecks, comes_of_air}
use Rattle.desk_engine.proofs.KeptAfter.{state_after-push}
use Rattle.desk_engine.proofs.NearRooms.{none_between}

-- ---- the last two checks

module _ (tells_clear : IsClearTells) (tells_hours : HoursWithinTells) (s : State) (number : ℕ) (gateway : List ℕ) (band : Band) (start : ℕ) where
  abbrev new : ℕ → Interval
  new n = record { start = pos start; len = n }

  abbrev all : List Interval
  all = downlinks s.bookings gateway

  abbrev own : List Interval
  own = downlinks_in s.bookings gateway band

  abbrev limit : ℕ
  limit = limit_standing s gateway band

  -- they pass if there is room
  abbrev added : ℕ → Checked Decision
  added n = down_added s number gateway band start (new n)

  added_if : (n : ℕ) → HasRoom all own (pos start) limit n → is_ok (added n) ≡ true
  unfolding down_added
  added_if n has = rw ((tells_clear all (new n)).1 has.clear, (tells_hours (own ++ new n ∷ []) limit).1 has.hours) refl

  room_if : (n : ℕ) → is_ok (added n) ≡ true → HasRoom all own (pos start) limit n
  unfolding down_added
  room_if n = by (is_clear all (new n)) (hours_within (own ++ new n ∷ []) limit) refl refl
    where
      by : (a b : Bool) → is_clear all (new n) ≡ a → hours_within (own ++ new n ∷ []) limit ≡ b → is_ok (added n) ≡ true → HasRoom all own (pos start) limit n
      by true true e f = λ ok. record { clear = (tells_clear all (new n)).0 e; hours = (tells_hours (own ++ new n ∷ []) limit).0 f }
      by true false e f = rw (e, f) (λ ok. cc)
      by false b e f = rw e (λ ok. cc)

  -- a length of no microseconds has room in each state whose hours are within their limits
  in_none : (x : ℤ) → is_in (new 0) x ≡ false
  in_none x = grind (arith, ints)

  none_shared : (t : ℤ) → shared_count (new 0) (hour_from t) ≡ 0
  none_shared t = none_between _ _ (let ends : int_min (end_of (new 0)) (end_of (hour_from t)) ≤ℤ int_max (pos start) t = grind (arith, ints, clamps) in ends)

  none_has_room : EveryHourKept s → HasRoom all own (pos start) limit 0
  none_has_room kept = record {
    clear = λ x i. let out = in_none x in cc;
    hours = λ t. omega (arith, sum_by_push (λ a. shared_count a (hour_from t)) own (new 0), none_shared t, kept gateway band t);
  }

-- a length has room exactly if it is at most the room
module _ (tells_clear : IsClearTells) (tells_hours : HoursWithinTells) (s : State) (number : ℕ) (gateway : List ℕ) (band : Band) (start room : ℕ) where
  abbrev Fits : ℕ → Type 0
  Fits n = HasRoom (downlinks s.bookings gateway) (downlinks_in s.bookings gateway band) (pos start) (limit_standing s gateway band) n

  fits_room : (n : ℕ) → IsBandRoom s gateway band start room → n ≤ greatest_length → Fits n → n ≤ room
  fits_room zero is few has = omega arith
  fits_room (suc n) is few has = (is.exact (suc n) (omega arith) few).1 has

  room_fits : (n : ℕ) → IsBandRoom s gateway band start room → EveryHourKept s → n ≤ room → Fits n
  room_fits zero is kept upto = none_has_room tells_clear tells_hours s number gateway band start kept
  room_fits (suc n) is kept upto = (is.exact (suc n) (omega arith) (omega (arith, is.within, upto))).0 upto

pub room_passes_checks : IsClearTells → HoursWithinTells → RoomPassesChecks
room_passes_checks clear hours s number gateway band time room n is some few =
    let exact = is.exact n some few in
    (λ fits. added_if clear hours s number gateway band time n (exact.0 fits), λ ok. exact.1 (room_if clear hours s number gateway band time n ok))

-- ---- the checks before them

abbrev of_air : Checked Decision → Bool
of_air d = comes_of_air (decision_or_refusal d).1

-- what comes of the last two checks is what these decide
abbrev Decides : Checked Decision → Checked Decision → Type 0
Decides last d = of_air d ≡ true → d ≡ last

module _ (last : Checked Decision) where
  after_wants : (b : Bool) (refusal : Refusal) (next : Checked Decision) → comes_of_air (Refused refusal) ≡ false → Decides last next → Decides last (wants b refusal >> next)
  after_wants true refusal next other then = then
  after_wants false refusal next other then = λ air. cc

  after_needs : {X : Type 0} (found : Option X) (refusal : Refusal) (next : X → Checked Decision) → comes_of_air (Refused refusal) ≡ false
      → ((x : X) → found ≡ Some x → Decides last (next x)) → Decides last (needs found refusal >>= next)
  after_needs (Some x) refusal next other then = then x refl
  after_needs None refusal next other then = λ air. cc

  after_known : {X : Type 0} (found : Option X) (x : X) (refusal : Refusal) (next : X → Checked Decision) → comes_of_air (Refused refusal) ≡ false
      → found ≡ Some x → Decides last (next x) → Decides last (needs found refusal >>= next)
  after_known found x refusal next other is then = after_needs found refusal next other (λ y there. subst (λ z. Decides last (next z)) (same_Some x y (sym is ∙ there)) then)

last_two : (c : Settings) (s : State) (number : ℕ) (gateway : List ℕ) (window : Window) (octets : List ℕ) (uplink : Uplink) (reception : Reception) (band : Band)
    → item_at s.uplinks number ≡ Some uplink → s.receptions number gateway ≡ Some reception → band_at (rate_in window reception.rate).freq (rate_in window reception.rate).dr ≡ Some band
    → let start : ℕ = reception.end + delay uplink.kind window in
    Decides (down_added s number gateway band start (on_air start (rate_in window reception.rate) octets)) (down_book c s number gateway window octets)
unfolding down_book
last_two c s number gateway window octets uplink reception band there heard lies =
    let start : ℕ = reception.end + delay uplink.kind window in
    let rate : Rate = rate_in window reception.rate in
    let last : Checked Decision = down_added s number gateway band start (on_air start rate octets) in
    after_wants last (s.gateways gateway) UnknownGateway _ refl (after_known last (item_at s.uplinks number) uplink NoUplink _ refl there (after_known last (s.receptions number gateway) reception NoUplink _ refl heard
    (after_needs last (downlink_to uplink.kind (frame_at_rate rate.dr octets)) BadFrame _ refl (λ down _.
    after_wants last (goes_to (address_of c uplink.session) down) UnknownDevAddr _ refl (after_wants last (not (is_answered s.bookings number)) Answered _ refl
    (after_wants last (counts_as (next_down s.bookings s.uplinks uplink.session) down) DownCounter _ refl (after_known last (band_at rate.freq rate.dr) band OutOfBand _ refl lies (λ air. refl))))))))

-- it is booked if both pass
books_where : (s : State) (number : ℕ) (gateway : List ℕ) (band : Band) (start : ℕ) (span : Interval)
    → tells_booking (decision_or_refusal (down_added s number gateway band start span)).1 ≡ is_ok (down_added s number gateway band start span)
unfolding down_added
books_where s number gateway band start span = by (is_clear (downlinks s.bookings gateway) span) (hours_within (downlinks_in s.bookings gateway band ++ span ∷ []) (limit_standing s gateway band)) refl refl
  where
    by : (a b : Bool) → is_clear (downlinks s.bookings gateway) span ≡ a → hours_within (downlinks_in s.bookings gateway band ++ span ∷ []) (limit_standing s gateway band) ≡ b
        → tells_booking (decision_or_refusal (down_added s number gateway band start span)).1 ≡ is_ok (down_added s number gateway band start span)
    by true true e f = rw (e, f) refl
    by true false e f = rw (e, f) refl
    by false b e f = rw e refl

-- what is booked goes to the end
booked_last : (s : State) (number : ℕ) (gateway : List ℕ) (band : Band) (start : ℕ) (span : Interval) → is_ok (down_added s number gateway band start span) ≡ true
    → (booking : Booking) × (booking.span ≡ span) × ((state_with s (decision_or_refusal (down_added s number gateway band start span)).0).bookings ≡ s.bookings ++ booking ∷ [])
unfolding down_added
booked_last s number gateway band start span = by (is_clear (downlinks s.bookings gateway) span) (hours_within (downlinks_in s.bookings gateway band ++ span ∷ []) (limit_standing s gateway band)) refl refl
  where
    by : (a b : Bool) → is_clear (downlinks s.bookings gateway) span ≡ a → hours_within (downlinks_in s.bookings gateway band ++ span ∷ []) (limit_standing s gateway band) ≡ b
        → is_ok (down_added s number gateway band start span) ≡ true
        → (booking : Booking) × (booking.span ≡ span) × ((state_with s (decision_or_refusal (down_added s number gateway band start span)).0).bookings ≡ s.bookings ++ booking ∷ [])
    by true true e f = rw (e, f) (λ ok. (_, refl, refl))
    by true false e f = rw (e, f) (λ ok. cc)
    by false b e f = rw e (λ ok. cc)

last_of : (P : Booking → Type 0) (bookings : List Booking) (last : Booking) → All P (bookings ++ last ∷ []) → P last
last_of P bookings last each = by bookings (recursion_from_All P (bookings ++ last ∷ []) each)
  where
    by : (bookings : List Booking) → AllByRecursion P (bookings ++ last ∷ []) → P last
    by [] each = each.0
    by (b ∷ rest) each = by rest each.1

pub room_agrees : IsClearTells → HoursWithinTells → DownlinksAreShort → RulesAreKept → RoomAgrees
room_agrees clear hours short rules c heard e number gateway window octets uplink reception band room message there got lies is air =
    let s = state_of c heard in
    let start : ℕ = reception.end + delay uplink.kind window in
    let span : Interval = on_air start (rate_in window reception.rate) octets in
    let book : checked_decision c s e e.message ≡ down_book c s number gateway window octets = ap (checked_decision c s e) message in
    let two : down_book c s number gateway window octets ≡ down_added s number gateway band start span =
    last_two c s number gateway window octets uplink reception band there got lies (ap of_air (sym book) ∙ air) in
    let decided : checked_decision c s e e.message ≡ down_added s number gateway band start span = book ∙ two in
    let books : tells_booking (step c s e).1 ≡ is_ok (down_added s number gateway band start span) =
    ap (λ d. tells_booking (decision_or_refusal d).1) decided ∙ books_where s number gateway band start span in
    let kept : EveryHourKept s = (rules c heard).hours in
    let few : is_ok (down_added s number gateway band start span) ≡ true → span.len ≤ greatest_length =
    λ ok.
    let last = booked_last s number gateway band start span ok in
    let after : (state_of c (heard ++ e ∷ [])).bookings ≡ s.bookings ++ last.0 ∷ [] =
    ap (λ (t : State). t.bookings) (state_after-push c (opening c) heard e) ∙ ap (λ d. (state_with s (decision_or_refusal d).0).bookings) decided ∙ last.2 in
    subst (λ (a : Interval). a.len ≤ greatest_length) last.1
    (last_of (λ (b : Booking). b.span.len ≤ greatest_length) s.bookings last.0 (subst (All (λ (b : Booking). b.span.len ≤ greatest_length)) after (short c (heard ++ e ∷ [])))) in (
      λ booked.
          let ok : is_ok (down_added s number gateway band start span) ≡ true = sym books ∙ booked in
          fits_room clear hours s number gateway band start room span.len is (few ok) (room_if clear hours s number gateway band start span.len ok),
      λ fits. books ∙ added_if clear hours s number gateway band start span.len (room_fits clear hours s number gateway band start room span.len is kept fits),
    )
