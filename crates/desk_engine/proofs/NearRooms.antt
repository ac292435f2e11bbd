-- The downlinks of a gateway near a time decide its room then, and how much of the hour before it is used.
use Rattle.std.proofs.Common.{◌≡◌, ◌↔◌, ℕ, ◌≤◌, Bool, true, false, cond, List, [], ◌∷◌, ◌++◌, map, filter, refl, sym, subst, ◌∙◌, ap, arith}
use Rattle.std.specs.Prelude.{ℤ, pos, negsuc, ◌-ℤ◌, ◌≤ℤ◌, ◌==◌, ◌&&◌, All, IsPermutation, sum_by}
use Rattle.std.specs.Int.{int_min, int_max}
use Rattle.std.specs.List.{AllByRecursion}
use Rattle.std.proofs.lemmas.Int.{ints, clamps}
use Rattle.std.proofs.lemmas.List.Elements.{All-filter, All-map, recursion_from_All}
use Rattle.std.proofs.lemmas.List.Sorted.{IsPermutation-map, sum_by-IsPermutation}
use Rattle.std.proofs.lemmas.List.Sums.{sum_by-cons, sum_by_push}
use Rattle.std.proofs.lemmas.Simd.{map-map}
use Rattle.radio_core.specs.declared.bands.Band.{Band}
use Rattle.radio_core.specs.Bands.{band_number}
use Rattle.duty_core.specs.Laws.{ClearIgnoresOrder, NearOnesTellClear, NearOnesTellHours}
use Rattle.duty_core.specs.Near.{greatest_length, is_near, near_ones}
use Rattle.duty_core.specs.Room.{HasRoom, IsRoom}
use Rattle.duty_core.specs.Use.{EveryHourWithin, Interval, count_between, end_of, hour, hour_from, positive_part, shared_count, use_of}
use Rattle.registry_core.specs.declared.facts.Booking.{Booking}
use Rattle.registry_core.specs.declared.views.NearBooking.{NearBooking}
use Rattle.registry_core.specs.Bookings.{downlinks, downlinks_in, limit_standing, stands_at, stands_in}
use Rattle.registry_core.specs.Near.{bookings_near, near_shown, stands_near}
use Rattle.registry_core.specs.State.{State}
use Rattle.desk_engine.specs.Rooms.{IsBandRoom, used_before}
use Rattle.desk_engine.specs.steps.Rooms.{AreNear, KeepsAir, all_spans, spans_in}

-- ---- what isn't near a time has no microsecond in the hour before it

not_positive : (z : ℤ) → z ≤ℤ pos 0 → positive_part z ≡ 0
not_positive (pos n) h = omega (arith, ints, h)
not_positive (negsuc n) h = refl

pub none_between : (low high : ℤ) → high ≤ℤ low → count_between low high ≡ 0
none_between low high h = not_positive (high -ℤ low) (grind (arith, ints, h))

far_before : (a : Interval) (time : ℤ) → a.len ≤ greatest_length → is_near time a ≡ false
    → int_min (end_of a) (end_of (hour_from (time -ℤ pos hour))) ≤ℤ int_max a.start (time -ℤ pos hour)
far_before a time short far = grind (arith, ints, clamps)

far_unused : (a : Interval) (time : ℤ) → a.len ≤ greatest_length → is_near time a ≡ false → shared_count a (hour_from (time -ℤ pos hour)) ≡ 0
far_unused a time short far = none_between _ _ (far_before a time short far)

abbrev AreShort : List Interval → Type 0
AreShort l = All (λ a. a.len ≤ greatest_length) l

module _ (time : ℤ) where
  abbrev before : ℤ
  before = time -ℤ pos hour

  abbrev share : Interval → ℕ
  share a = shared_count a (hour_from before)

  near_used : (l : List Interval) → AllByRecursion (λ a. a.len ≤ greatest_length) l → use_of (near_ones time l) before ≡ use_of l before
  near_used [] short = refl
  near_used (a ∷ l) short = by (is_near time a) refl (near_used l short.1)
    where
      by : (near : Bool) → is_near time a ≡ near → use_of (near_ones time l) before ≡ use_of l before
          → sum_by share (cond near (a ∷ near_ones time l) (near_ones time l)) ≡ sum_by share (a ∷ l)
      by true e same = omega (arith, sum_by-cons share a (near_ones time l), sum_by-cons share a l, same)
      by false e same = omega (arith, sum_by-cons share a l, far_unused a time short.0 e, same)

-- ---- the near downlinks of a gateway, and those in a band

-- a filter of what is shown of the items that pass a test
filter_shown : {X Y : Type 0} (f : X → Y) (p q : X → Bool) (r : Y → Bool) → ((x : X) → r (f x) ≡ q x) → (xs : List X)
    → filter r (map f (filter p xs)) ≡ map f (filter (λ x. p x && q x) xs)
filter_shown f p q r same [] = refl
filter_shown f p q r same (x ∷ xs) = by (p x) (filter_shown f p q r same xs)
  where
    kept : (b : Bool) → cond b (f x ∷ map f (filter (λ x. p x && q x) xs)) (map f (filter (λ x. p x && q x) xs)) ≡ map f (cond b (x ∷ filter (λ x. p x && q x) xs) (filter (λ x. p x && q x) xs))
    kept true = refl
    kept false = refl

    by : (b : Bool) → filter r (map f (filter p xs)) ≡ map f (filter (λ x. p x && q x) xs)
        → filter r (map f (cond b (x ∷ filter p xs) (filter p xs))) ≡ map f (cond (b && q x) (x ∷ filter (λ x. p x && q x) xs) (filter (λ x. p x && q x) xs))
    by true e = rw (same x, e) (kept (q x))
    by false e = e

same_filter : {X : Type 0} (p q : X → Bool) → ((x : X) → p x ≡ q x) → (xs : List X) → filter p xs ≡ filter q xs
same_filter p q same xs = ap (λ f. filter f xs) (λ i x. same x i)

-- the use of those that pass a test is a sum over all
sum_passing : (share : Interval → ℕ) (p : NearBooking → Bool) (near : List NearBooking) → sum_by share (map (λ n. n.span) (filter p near)) ≡ sum_by (λ n. cond (p n) (share n.span) 0) near
sum_passing share p [] = refl
sum_passing share p (n ∷ near) = by (p n) refl (sum_passing share p near)
  where
    by : (b : Bool) → p n ≡ b → sum_by share (map (λ n. n.span) (filter p near)) ≡ sum_by (λ n. cond (p n) (share n.span) 0) near
        → sum_by share (map (λ n. n.span) (cond b (n ∷ filter p near) (filter p near))) ≡ sum_by (λ n. cond (p n) (share n.span) 0) (n ∷ near)
    by true e same = omega (arith, sum_by-cons share n.span (map (λ n. n.span) (filter p near)), sum_by-cons (λ n. cond (p n) (share n.span) 0) n near, ap (λ b. cond b (share n.span) 0) e, same)
    by false e same = omega (arith, sum_by-cons (λ n. cond (p n) (share n.span) 0) n near, ap (λ b. cond b (share n.span) 0) e, same)

abbrev is_of : Band → NearBooking → Bool
is_of band near = band_number near.band == band_number band

and_exchange : (a b c : Bool) → ((a && b) && c) ≡ ((a && c) && b)
and_exchange true true true = refl
and_exchange true true false = refl
and_exchange true false true = refl
and_exchange true false false = refl
and_exchange false b c = refl

module _ (bookings : List Booking) (gateway : List ℕ) (time : ℤ) where
  abbrev near : List NearBooking
  near = bookings_near bookings gateway time

  near_all : map (λ n. n.span) near ≡ near_ones time (downlinks bookings gateway)
  near_all = map-map (λ (n : NearBooking). n.span) near_shown (filter (stands_near gateway time) bookings)
      ∙ sym (filter_shown (λ (b : Booking). b.span) (stands_at gateway) (λ b. is_near time b.span) (is_near time) (λ b. refl) bookings)

  near_of : (band : Band) → map (λ n. n.span) (filter (is_of band) near) ≡ near_ones time (downlinks_in bookings gateway band)
  near_of band =
      let own : Booking → Bool = λ b. band_number b.band == band_number band in
      let close : Booking → Bool = λ b. is_near time b.span in
      ap (map (λ n. n.span)) (filter_shown near_shown (stands_near gateway time) own (is_of band) (λ b. refl) bookings)
      ∙ map-map (λ (n : NearBooking). n.span) near_shown (filter (λ b. stands_near gateway time b && own b) bookings)
      ∙ ap (map (λ (b : Booking). b.span)) (same_filter (λ b. stands_near gateway time b && own b) (λ b. stands_in gateway band b && close b) (λ b. and_exchange (stands_at gateway b) (close b) (own b)) bookings)
      ∙ sym (filter_shown (λ (b : Booking). b.span) (stands_in gateway band) close (is_near time) (λ b. refl) bookings)

  -- in any order they use each hour as much
  same_use : (band : Band) (other : List NearBooking) → IsPermutation near other → (t : ℤ) → use_of (spans_in band other) t ≡ use_of (near_ones time (downlinks_in bookings gateway band)) t
  same_use band other moved t =
      let share : Interval → ℕ = λ a. shared_count a (hour_from t) in
      let passing : NearBooking → ℕ = λ n. cond (is_of band n) (share n.span) 0 in
      sum_passing share (is_of band) other ∙ sum_by-IsPermutation passing near other moved
      ∙ sym (sum_passing share (is_of band) near) ∙ ap (λ l. use_of l t) (near_of band)

-- ---- the room and the hour before

spans_short : (p : Booking → Bool) (bookings : List Booking) → All (λ booking. booking.span.len ≤ greatest_length) bookings → AreShort (map (λ booking. booking.span) (filter p bookings))
spans_short p bookings short =
    All-map (λ a. a.len ≤ greatest_length) (λ (b : Booking). b.span) (filter p bookings) (All-filter p (λ (b : Booking). b.span.len ≤ greatest_length) bookings short)

-- two lists that use each hour as much do so with one more interval
same_hours : (l k : List Interval) (new : Interval) (limit : ℕ) → ((t : ℤ) → use_of k t ≡ use_of l t) → EveryHourWithin (l ++ new ∷ []) limit → EveryHourWithin (k ++ new ∷ []) limit
same_hours l k new limit same within t =
    let share : Interval → ℕ = λ a. shared_count a (hour_from t) in
    omega (arith, sum_by_push share l new, sum_by_push share k new, same t, within t)

module _ (clear : NearOnesTellClear) (hours : NearOnesTellHours) (order : ClearIgnoresOrder) (s : State) (gateway : List ℕ) (time : ℕ) (near : List NearBooking) (keeps : KeepsAir s) (are : AreNear s gateway time near) where
  abbrev new : ℕ → Interval
  new n = record { start = pos time; len = n }

  same_room : (band : Band) (limit n : ℕ) → limit ≡ limit_standing s gateway band → n ≤ greatest_length
      → HasRoom (all_spans near) (spans_in band near) (pos time) limit n ↔ HasRoom (downlinks s.bookings gateway) (downlinks_in s.bookings gateway band) (pos time) (limit_standing s gateway band) n
  same_room band limit n is few =
      let all = downlinks s.bookings gateway in
      let own = downlinks_in s.bookings gateway band in
      let moved : IsPermutation (near_ones (pos time) all) (all_spans near) = subst (λ l. IsPermutation l (all_spans near)) (near_all s.bookings gateway (pos time)) (IsPermutation-map (λ n. n.span) _ _ are.same) in
      let uses : (t : ℤ) → use_of (spans_in band near) t ≡ use_of (near_ones (pos time) own) t = same_use s.bookings gateway (pos time) band near are.same in
      let by_clear = clear all (new n) (spans_short (stands_at gateway) s.bookings keeps.short) few in
      let by_order = order (near_ones (pos time) all) (all_spans near) (new n) moved in
      let by_hours = hours own (new n) (limit_standing s gateway band) (spans_short (stands_in gateway band) s.bookings keeps.short) few (keeps.hours gateway band) in (
        λ has. record {
          clear = by_clear.0 (by_order.0 has.clear);
          hours = by_hours.0 (same_hours (spans_in band near) (near_ones (pos time) own) (new n) (limit_standing s gateway band) (λ t. sym (uses t)) (subst (EveryHourWithin (spans_in band near ++ new n ∷ [])) is has.hours));
        },
        λ has. record {
          clear = by_order.1 (by_clear.1 has.clear);
          hours = subst (EveryHourWithin (spans_in band near ++ new n ∷ [])) (sym is) (same_hours (near_ones (pos time) own) (spans_in band near) (new n) (limit_standing s gateway band) uses (by_hours.1 has.hours));
        },
      )

  pub room_by_near : (band : Band) (limit room : ℕ) → limit ≡ limit_standing s gateway band → IsRoom (all_spans near) (spans_in band near) (pos time) limit greatest_length room → IsBandRoom s gateway band time room
  room_by_near band limit room is by_near = record {
    within = by_near.within;
    exact = λ n some few. let same = same_room band limit n is few in let told = by_near.exact n some few in (λ fits. same.0 (told.0 fits), λ has. told.1 (same.1 has));
  }

  pub used_by_near : (band : Band) → use_of (spans_in band near) (pos time -ℤ pos hour) ≡ used_before s gateway band time
  used_by_near band =
      same_use s.bookings gateway (pos time) band near are.same (pos time -ℤ pos hour)
      ∙ near_used (pos time) (downlinks_in s.bookings gateway band) (recursion_from_All (λ a. a.len ≤ greatest_length) _ (spans_short (stands_in gateway band) s.bookings keeps.short))
