-- What the index finds of the bookings at a gateway's places is what a search of all bookings finds, ordered by start.
use Rattle.std.proofs.Common.{◌≡◌, ℕ, Bool, true, false, cond, List, [], ◌∷◌, Some, None, map, refl, sym, ◌∙◌, ap, subst}
use Rattle.std.specs.Prelude.{ℤ, pos, ◌+ℤ◌, ◌-ℤ◌, int_lt, ◌==◌, ◌&&◌, not, bytes_eq, filter}
use Rattle.std.specs.List.{cons_option, filter_map}
use Rattle.radio_core.specs.declared.bands.Band.{Band}
use Rattle.radio_core.specs.Bands.{band_number}
use Rattle.duty_core.specs.InOrder.{IsByStart}
use Rattle.duty_core.specs.Near.{near_reach}
use Rattle.duty_core.specs.Use.{Interval}
use Rattle.registry_core.specs.declared.facts.Booking.{Booking}
use Rattle.registry_core.specs.declared.views.NearBooking.{NearBooking}
use Rattle.registry_core.specs.Bookings.{is_dropped, downlinks_in, stands_in}
use Rattle.registry_core.specs.Near.{AreByStart, bookings_near, near_shown, stands_near}
use Rattle.desk_store.specs.steps.BookingPlaces.{booking_places, booking_span_at, near_booking, near_booking_at, span_in_band}
use Rattle.desk_store.specs.steps.ByKey.{in_order}
use Rattle.desk_store.specs.steps.StartIndex.{is_near_place}
use Rattle.desk_store.proofs.NearBookings.{near_by_start}
use Rattle.desk_store.proofs.ToldInOrder.{all_kept, by_start_from, shown_if, told_in_order}

abbrev starts_at : Booking → ℤ
starts_at booking = booking.span.start

-- what is shown of those that pass has their start
shown_start : {Y : Type 0} (start : Y → ℤ) (shown : Booking → Y) (keeps : (booking : Booking) → start (shown booking) ≡ starts_at booking)
    (passes : Bool) (booking : Booking) (y : Y) → cond passes (Some (shown booking)) None ≡ Some y → start y ≡ starts_at booking
shown_start start shown keeps true booking y is = let same : shown booking ≡ y = cc in sym (ap start same) ∙ keeps booking
shown_start start shown keeps false booking y is = let no : ⊥ = cc in absurd no

-- what is shown of one booking and of the rest
shown_step : {Y : Type 0} (y : Y) (own near passes all : Bool) (rest : List Y) → all ≡ (own && (passes && near))
    → cons_option (cond own (cond near (cond passes (Some y) None) None) None) rest ≡ cond all (y ∷ rest) rest
shown_step y true true true all rest is = rw is refl
shown_step y true true false all rest is = rw is refl
shown_step y true false true all rest is = rw is refl
shown_step y true false false all rest is = rw is refl
shown_step y false near passes all rest is = rw is refl

map_by : {Y : Type 0} (shown : Booking → Y) (booking : Booking) (rest : List Booking) (b : Bool)
    → cond b (shown booking ∷ map shown rest) (map shown rest) ≡ map shown (cond b (booking ∷ rest) rest)
map_by shown booking rest true = refl
map_by shown booking rest false = refl

module _ (gateway : List ℕ) where
  abbrev own : Booking → Bool
  own booking = bytes_eq booking.gateway gateway

  -- ---- near a start

  near_start : (booking : Booking) (near : NearBooking) → near_booking booking ≡ Some near → near.span.start ≡ starts_at booking
  near_start booking near is = shown_start (λ (n : NearBooking). n.span.start) near_shown (λ b. refl) (not (is_dropped booking.standing)) booking near is

  module _ (start : ℤ) where
    abbrev near_test : ℤ → Bool
    near_test s = int_lt (start -ℤ pos near_reach) s && int_lt s (start +ℤ pos near_reach)

    stands_near_is : (at on near : Bool) → ((at && on) && near) ≡ (at && (on && near))
    stands_near_is true on near = refl
    stands_near_is false on near = refl

    near_through : (bookings : List Booking)
        → filter_map (shown_if starts_at own (λ (n : NearBooking). n.span.start) near_booking near_start near_test) bookings ≡ bookings_near bookings gateway start
    near_through [] = refl
    near_through (booking ∷ rest) =
        ap (cons_option (shown_if starts_at own (λ (n : NearBooking). n.span.start) near_booking near_start near_test booking)) (near_through rest)
        ∙ shown_step (near_shown booking) (own booking) (near_test (starts_at booking)) (not (is_dropped booking.standing)) (stands_near gateway start booking)
        (bookings_near rest gateway start) (stands_near_is (own booking) (not (is_dropped booking.standing)) (near_test (starts_at booking)))
        ∙ map_by near_shown booking (filter (stands_near gateway start) rest) (stands_near gateway start booking)

  pub near_listed : (bookings : List Booking) (start : ℕ) (near : List NearBooking)
      → near ≡ filter_map (near_booking_at bookings) (filter (is_near_place start) (booking_places bookings gateway))
      → AreByStart (bookings_near bookings gateway (pos start)) near
  near_listed bookings start near is =
      let ordered : near ≡ in_order (λ (n : NearBooking). n.span.start) (bookings_near bookings gateway (pos start)) =
      is ∙ told_in_order starts_at own (λ (n : NearBooking). n.span.start) near_booking near_start (near_test (pos start)) bookings
      ∙ ap (in_order (λ (n : NearBooking). n.span.start)) (near_through (pos start) bookings) in
      subst (AreByStart (bookings_near bookings gateway (pos start))) (sym ordered) (near_by_start (bookings_near bookings gateway (pos start)))

  -- ---- in a band

  module _ (band : Band) where
    in_band_start : (booking : Booking) (a : Interval) → span_in_band band booking ≡ Some a → a.start ≡ starts_at booking
    in_band_start booking a is =
        shown_start (λ (i : Interval). i.start) (λ (b : Booking). b.span) (λ b. refl) (not (is_dropped booking.standing) && band_number booking.band == band_number band) booking a is

    stands_in_is : (at on of : Bool) → ((at && on) && of) ≡ (at && ((on && of) && true))
    stands_in_is true true true = refl
    stands_in_is true true false = refl
    stands_in_is true false of = refl
    stands_in_is false on of = refl

    band_through : (bookings : List Booking)
        → filter_map (shown_if starts_at own (λ (a : Interval). a.start) (span_in_band band) in_band_start (λ s. true)) bookings ≡ downlinks_in bookings gateway band
    band_through [] = refl
    band_through (booking ∷ rest) =
        ap (cons_option (shown_if starts_at own (λ (a : Interval). a.start) (span_in_band band) in_band_start (λ s. true) booking)) (band_through rest)
        ∙ shown_step booking.span (own booking) true (not (is_dropped booking.standing) && band_number booking.band == band_number band)
        (stands_in gateway band booking) (downlinks_in rest gateway band)
        (stands_in_is (own booking) (not (is_dropped booking.standing)) (band_number booking.band == band_number band))
        ∙ map_by (λ (b : Booking). b.span) booking (filter (stands_in gateway band) rest) (stands_in gateway band booking)

    pub band_listed : (bookings : List Booking) (spans : List Interval) → spans ≡ filter_map (booking_span_at bookings band) (booking_places bookings gateway)
        → IsByStart (downlinks_in bookings gateway band) spans
    band_listed bookings spans is =
        by_start_from (downlinks_in bookings gateway band) spans
        (is ∙ ap (filter_map (booking_span_at bookings band)) (sym (all_kept (booking_places bookings gateway)))
        ∙ told_in_order starts_at own (λ (a : Interval). a.start) (span_in_band band) in_band_start (λ s. true) bookings
        ∙ ap (in_order (λ (a : Interval). a.start)) (band_through bookings))
