-- Near bookings in order of start, and of them those that pass a test.
use Rattle.std.proofs.Common.{◌≡◌, ℕ, zero, suc, ◌+◌, ◌≤◌, Bool, true, false, cond, List, [], ◌∷◌, ◌++◌, length, map, Option, Some, None, refl, sym, subst, ◌∙◌, ap, arith}
use Rattle.std.specs.Prelude.{ℤ, pos, int_lt, ◌≤ℤ◌, ◌==◌, ◌&&◌, not, filter, slice_index_or, IsPermutation}
use Rattle.std.specs.List.{cons_option}
use Rattle.std.specs.Option.{option_map_or}
use Rattle.std.specs.Ordering.{int_eq}
use Rattle.std.proofs.lemmas.Int.{ints}
use Rattle.std.proofs.lemmas.Bool.Decides.{Decides-int_eq}
use Rattle.std.proofs.lemmas.List.Filters.{length-filter_both}
use Rattle.std.proofs.lemmas.List.Sorted.{IsPermutation-refl, IsPermutation-sym, IsPermutation-trans, IsPermutation-map, IsPermutation-append_right, IsPermutation-filter_both}
use Rattle.radio_core.specs.declared.bands.Band.{Band}
use Rattle.radio_core.specs.declared.data_rates.Rate.{Rate}
use Rattle.radio_core.specs.Bands.{band_at, band_number}
use Rattle.duty_core.specs.InOrder.{IsByStart, StartsAscend}
use Rattle.duty_core.specs.Near.{is_near, near_ones}
use Rattle.duty_core.specs.Use.{Interval}
use Rattle.registry_core.specs.declared.facts.Booking.{Booking}
use Rattle.registry_core.specs.declared.views.NearBooking.{NearBooking}
use Rattle.registry_core.specs.Bookings.{downlinks, downlinks_in, limit_standing, stands_at, stands_in}
use Rattle.registry_core.specs.Near.{AreByStart, bookings_near, near_shown, stands_near}
use Rattle.desk_store.specs.steps.ByKey.{NoneBelow, Rises, in_order}
use Rattle.registry_core.specs.State.{State}
use Rattle.registry_core.specs.Viewed.{near_in}
use Rattle.desk_store.specs.declared.air.AirView.{AirView}
use Rattle.desk_store.specs.steps.Downlinks.{IsAirAfter, spans_in}
use Rattle.desk_store.proofs.ByKey.{in_order_permutation, in_order_rises, in_order_together}
use Rattle.desk_store.proofs.Parted.{rises_filter}

abbrev start_of : NearBooking → ℤ
start_of near = near.span.start

abbrev spans : List NearBooking → List Interval
spans near = map (λ n. n.span) near

-- ---- starts that ascend, from each to the next and from each to all after it

at_most : (a b : ℤ) → int_lt b a ≡ false → a ≤ℤ b
at_most a b ba = grind (arith, ints)

not_below : (a b : ℤ) → a ≤ℤ b → int_lt b a ≡ false
not_below a b ab = grind (arith, ints)

none_below_after : (a b c : ℤ) → a ≤ℤ b → int_lt c b ≡ false → int_lt c a ≡ false
none_below_after a b c ab cb = grind (arith, ints)

none_below_weaker : (x y : NearBooking) (ys : List NearBooking) → start_of x ≤ℤ start_of y → NoneBelow start_of y ys → NoneBelow start_of x ys
none_below_weaker x y [] before all = tt
none_below_weaker x y (z ∷ zs) before all = (none_below_after (start_of x) (start_of y) (start_of z) before all.0, none_below_weaker x y zs before all.1)

ascend_of_tail : (x : NearBooking) (xs : List NearBooking) → StartsAscend (spans (x ∷ xs)) → StartsAscend (spans xs)
ascend_of_tail x xs up k d within =
    let place : suc k + 1 ≡ suc (k + 1) = omega arith in
    subst (λ n. (slice_index_or (spans xs) k d).start ≤ℤ (slice_index_or (spans (x ∷ xs)) n d).start) place (up (suc k) d (omega (arith, within)))

rises_from : (xs : List NearBooking) → StartsAscend (spans xs) → Rises start_of xs
rises_from [] up = tt
rises_from (x ∷ []) up = (tt, tt)
rises_from (x ∷ y ∷ ys) up =
    let before : start_of x ≤ℤ start_of y = up 0 x.span (omega arith) in
    let rest = rises_from (y ∷ ys) (ascend_of_tail x (y ∷ ys) up) in
    ((not_below (start_of x) (start_of y) before, none_below_weaker x y ys before rest.0), rest)

ascends_from : (xs : List NearBooking) → Rises start_of xs → StartsAscend (spans xs)
ascends_from [] rises k d within = absurd (omega arith)
ascends_from (x ∷ []) rises k d within = absurd (omega arith)
ascends_from (x ∷ y ∷ ys) rises zero d within = at_most (start_of x) (start_of y) rises.0.0
ascends_from (x ∷ y ∷ ys) rises (suc k) d within =
    let place : suc k + 1 ≡ suc (k + 1) = omega arith in
    rw place (ascends_from (y ∷ ys) rises.1 k d (omega arith))

-- ---- put in order

pub near_by_start : (xs : List NearBooking) → AreByStart xs (in_order start_of xs)
near_by_start xs = record {
  same = in_order_permutation start_of xs;
  ascend = ascends_from (in_order start_of xs) (in_order_rises start_of xs);
  together = λ start. in_order_together start_of start xs;
}

-- ---- those of each start

abbrev at : ℤ → NearBooking → Bool
at start near = int_eq near.span.start start

abbrev Together : List NearBooking → List NearBooking → Type 0
Together xs ys = (start : ℤ) → filter (at start) ys ≡ filter (at start) xs

filter_filter : (p q : NearBooking → Bool) (xs : List NearBooking) → filter p (filter q xs) ≡ filter q (filter p xs)
filter_filter p q [] = refl
filter_filter p q (x ∷ xs) = by (p x) (q x) refl refl (filter_filter p q xs)
  where
    by : (s t : Bool) → p x ≡ s → q x ≡ t → filter p (filter q xs) ≡ filter q (filter p xs)
        → filter p (cond t (x ∷ filter q xs) (filter q xs)) ≡ filter q (cond s (x ∷ filter p xs) (filter p xs))
    by true true e f rest = rw (e, f) (ap (λ ys. x ∷ ys) rest)
    by true false e f rest = rw f rest
    by false true e f rest = rw e rest
    by false false e f rest = rest

together_of_filter : (p : NearBooking → Bool) (xs ys : List NearBooking) → Together xs ys → Together (filter p xs) (filter p ys)
together_of_filter p xs ys same start = filter_filter (at start) p ys ∙ ap (filter p) (same start) ∙ filter_filter p (at start) xs

at_itself : (x : NearBooking) → at x.span.start x ≡ true
at_itself x = (Decides-int_eq x.span.start x.span.start).1 refl

filter_first : (p : NearBooking → Bool) (x : NearBooking) (xs : List NearBooking) → p x ≡ true → filter p (x ∷ xs) ≡ x ∷ filter p xs
filter_first p x xs is = rw is refl

-- lists with the same bookings at each start have the same bookings
same_by_together : (n : ℕ) (xs ys : List NearBooking) → length xs ≤ n → Together xs ys → IsPermutation xs ys
same_by_together n [] [] short t = IsPermutation-refl []
same_by_together n [] (y ∷ ys) short t = absurd (omega (arith, ap length (t (start_of y)), ap length (filter_first (at (start_of y)) y ys (at_itself y))))
same_by_together zero (x ∷ xs) ys short t = absurd (omega (arith, short))
same_by_together (suc n) (x ∷ xs) ys short t =
    let first : NearBooking → Bool = at (start_of x) in
    let other : NearBooking → Bool = λ y. not (first y) in
    let all = x ∷ xs in
    let long = length-filter_both first other (λ y. refl) all in
    let fewer : length (filter other all) ≤ n = omega (arith, short, long, ap length (filter_first first x xs (at_itself x))) in
    let others = same_by_together n (filter other all) (filter other ys) fewer (together_of_filter other all ys t) in
    let joined : IsPermutation all (filter first all ++ filter other ys) =
    IsPermutation-trans all (filter first all ++ filter other all) (filter first all ++ filter other ys)
    (IsPermutation-filter_both first other (λ y. refl) all) (IsPermutation-append_right (filter first all) (filter other all) (filter other ys) others) in
    let parted : IsPermutation (filter first all ++ filter other ys) ys =
    IsPermutation-sym ys (filter first all ++ filter other ys) (subst (λ zs. IsPermutation ys (zs ++ filter other ys)) (t (start_of x)) (IsPermutation-filter_both first other (λ y. refl) ys)) in
    IsPermutation-trans all (filter first all ++ filter other ys) ys joined parted

-- ---- when those are on the air that pass a test

spans_by : (x : NearBooking) (kept : List NearBooking) (t : Bool) → cond t (x.span ∷ spans kept) (spans kept) ≡ spans (cond t (x ∷ kept) kept)
spans_by x kept true = refl
spans_by x kept false = refl

starts_shown : (start : ℤ) (xs : List NearBooking) → filter (λ (a : Interval). int_eq a.start start) (spans xs) ≡ spans (filter (at start) xs)
starts_shown start [] = refl
starts_shown start (x ∷ xs) = ap (λ rest. cond (at start x) (x.span ∷ rest) rest) (starts_shown start xs) ∙ spans_by x (filter (at start) xs) (at start x)

spans_in_order : (xs ys : List NearBooking) → AreByStart xs ys → IsByStart (spans xs) (spans ys)
spans_in_order xs ys are = record {
  same = IsPermutation-map (λ n. n.span) xs ys are.same;
  ascend = are.ascend;
  together = λ start. starts_shown start ys ∙ ap spans (are.together start) ∙ sym (starts_shown start xs);
}

filter_in_order : (p : NearBooking → Bool) (xs ys : List NearBooking) → AreByStart xs ys → AreByStart (filter p xs) (filter p ys)
filter_in_order p xs ys are =
    let together = together_of_filter p xs ys are.together in
    record {
      same = same_by_together (length (filter p xs)) (filter p xs) (filter p ys) (omega arith) together;
      ascend = ascends_from (filter p ys) (rises_filter start_of p ys (rises_from ys are.ascend));
      together = together;
    }

-- ---- a gateway's, in all bands and in one

module _ (gateway : List ℕ) (start : ℤ) where
  all_step : (booking : Booking) (rest : List Booking) (stands near : Bool) → near ≡ is_near start booking.span
      → spans (map near_shown (filter (stands_near gateway start) rest)) ≡ near_ones start (map (λ (b : Booking). b.span) (filter (stands_at gateway) rest))
      → spans (map near_shown (cond (stands && near) (booking ∷ filter (stands_near gateway start) rest) (filter (stands_near gateway start) rest)))
      ≡ near_ones start (map (λ (b : Booking). b.span) (cond stands (booking ∷ filter (stands_at gateway) rest) (filter (stands_at gateway) rest)))
  all_step booking rest true true is same = rw (← is) (ap (λ shown. booking.span ∷ shown) same)
  all_step booking rest true false is same = rw (← is) same
  all_step booking rest false near is same = same

  spans_near : (bookings : List Booking) → spans (bookings_near bookings gateway start) ≡ near_ones start (downlinks bookings gateway)
  spans_near [] = refl
  spans_near (booking ∷ rest) = all_step booking rest (stands_at gateway booking) (is_near start booking.span) refl (spans_near rest)

  module _ (band : Band) where
    abbrev own : NearBooking → Bool
    own near = band_number near.band == band_number band

    own_shown : (near : NearBooking) (rest : List NearBooking) (b : Bool) (shown : List Interval) → shown ≡ spans rest
        → cons_option (cond b (Some near.span) None) shown ≡ spans (cond b (near ∷ rest) rest)
    own_shown near rest true shown is = ap (λ more. near.span ∷ more) is
    own_shown near rest false shown is = is

    spans_in_own : (near : List NearBooking) → spans_in band near ≡ spans (filter own near)
    spans_in_own [] = refl
    spans_in_own (n ∷ near) = own_shown n (filter own near) (own n) (spans_in band near) (spans_in_own near)

    one_step : (booking : Booking) (rest : List Booking) (stands near of : Bool) → near ≡ is_near start booking.span → of ≡ (band_number booking.band == band_number band)
        → spans (filter own (map near_shown (filter (stands_near gateway start) rest))) ≡ near_ones start (map (λ (b : Booking). b.span) (filter (stands_in gateway band) rest))
        → spans (filter own (map near_shown (cond (stands && near) (booking ∷ filter (stands_near gateway start) rest) (filter (stands_near gateway start) rest))))
        ≡ near_ones start (map (λ (b : Booking). b.span) (cond (stands && of) (booking ∷ filter (stands_in gateway band) rest) (filter (stands_in gateway band) rest)))
    one_step booking rest true true true is of_is same = rw (← is, ← of_is) (ap (λ shown. booking.span ∷ shown) same)
    one_step booking rest true true false is of_is same = rw (← of_is) same
    one_step booking rest true false true is of_is same = rw (← is) same
    one_step booking rest true false false is of_is same = same
    one_step booking rest false near of is of_is same = same

    spans_near_in : (bookings : List Booking) → spans (filter own (bookings_near bookings gateway start)) ≡ near_ones start (downlinks_in bookings gateway band)
    spans_near_in [] = refl
    spans_near_in (booking ∷ rest) =
        one_step booking rest (stands_at gateway booking) (is_near start booking.span) (band_number booking.band == band_number band) refl refl (spans_near_in rest)

  module _ (bookings : List Booking) (near : List NearBooking) (are : AreByStart (bookings_near bookings gateway start) near) where
    all_by_start : IsByStart (near_ones start (downlinks bookings gateway)) (spans near)
    all_by_start = subst (λ xs. IsByStart xs (spans near)) (spans_near bookings) (spans_in_order (bookings_near bookings gateway start) near are)

    band_by_start : (band : Band) → IsByStart (near_ones start (downlinks_in bookings gateway band)) (spans_in band near)
    band_by_start band =
        subst (IsByStart (near_ones start (downlinks_in bookings gateway band))) (sym (spans_in_own band near))
        (subst (λ xs. IsByStart xs (spans (filter (own band) near))) (spans_near_in band bookings)
        (spans_in_order (filter (own band) (bookings_near bookings gateway start)) (filter (own band) near)
        (filter_in_order (own band) (bookings_near bookings gateway start) near are)))

    in_band_by_start : (band : Option Band)
        → IsByStart (option_map_or (λ band. near_ones start (downlinks_in bookings gateway band)) band []) (option_map_or (λ band. spans_in band near) band [])
    in_band_by_start None = record { same = IsPermutation-refl []; ascend = λ k d within. absurd (omega arith); together = λ s. refl }
    in_band_by_start (Some band) = band_by_start band

-- ---- what is loaded for a downlink

pub air_by_start : (s : State) (gateway : List ℕ) (start : ℕ) (rate : Rate) (near : List NearBooking) (air : AirView)
    → AreByStart (bookings_near s.bookings gateway (pos start)) near
    → air.limit ≡ option_map_or (limit_standing s gateway) (band_at rate.freq rate.dr) 0
    → air.near.items ≡ map (λ n. n.span) near
    → air.in_band.items ≡ option_map_or (λ band. spans_in band near) (band_at rate.freq rate.dr) []
    → IsAirAfter s gateway (Some (start, rate)) air
air_by_start s gateway start rate near air are limit_is near_is in_band_is = record {
  limit = limit_is;
  near = subst (IsByStart (near_ones (pos start) (downlinks s.bookings gateway))) (sym near_is) (all_by_start gateway (pos start) s.bookings near are);
  in_band = subst (IsByStart (near_in s gateway (start, rate))) (sym in_band_is) (in_band_by_start gateway (pos start) s.bookings near are (band_at rate.freq rate.dr));
}
