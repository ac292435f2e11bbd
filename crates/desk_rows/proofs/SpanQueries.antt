-- Queries of bookings by start: a gateway's bookings in a band, those near a start, and those between two starts.
use Rattle.std.proofs.Common.{◌≡◌, ◌==◌, ◌&&◌, ◌<◌, ◌^◌, ℕ, pos, List, [], ◌∷◌, map, Vec, Bool, true, false, cond, not, Result, bytes_eq, refl, sym, ap, ap₂, ◌∙◌}
use Rattle.std.proofs.Common.{Less, Equal, Greater, arith, int_cmp}
use Rattle.std.specs.declared.alloc.Global.{Global}
use Rattle.std.specs.Ordering.{is_ge, is_gt, is_lt, ordering_then}
use Rattle.std.specs.Prelude.{ℤ, int_le, int_lt}
use Rattle.std.proofs.Math.Bool.{and_assoc}
use Rattle.std.proofs.lemmas.Int.{ints}
use Rattle.sqlite_value.specs.declared.keys.Key.{Key}
use Rattle.sqlite_value.specs.declared.value.Value.TheVariants.{Int, Text}
use Rattle.sqlite_value.proofs.OrderLemmas.{value_cmp-Int}
use Rattle.sqlite_value.specs.declared.keys.Collation.TheVariants.{Binary}
use Rattle.sqlite_sql.specs.declared.ops.BinaryOp.TheVariants.{Compare}
use Rattle.sqlite_sql.specs.declared.ops.CompareOp.TheVariants.{Ge, Gt, Lt}
use Rattle.sqlite_sql.specs.Ops.{is_true, binary}
use Rattle.sqlite_sql.specs.Term.{Term, col}
use Rattle.sqlite.specs.State.{State}
use Rattle.duty_core.specs.Near.{is_near, starts_between}
use Rattle.duty_core.specs.Range.{IsStart}
use Rattle.duty_core.specs.Use.{Interval}
use Rattle.radio_core.specs.declared.bands.Band.{Band}
use Rattle.radio_core.specs.Bands.{band_number}
use Rattle.registry_core.specs.declared.views.NearBooking.{NearBooking}
use Rattle.registry_core.specs.Bookings.{is_dropped, stands_at, stands_in}
use Rattle.registry_core.specs.Listing.{is_booking_from}
use Rattle.registry_core.specs.Near.{near_shown}
use Rattle.desk_rows.specs.Calls.{ReadsRows}
use Rattle.desk_rows.specs.Rows.{BookingRow, IsBooking, booking_cells, number}
use Rattle.desk_rows.specs.order.Arranged.{booking_span, by_start, is_near_at, near_by, spans_by}
use Rattle.desk_rows.specs.order.Listed.{bookings_listed}
use Rattle.desk_rows.specs.steps.Queries.{FindsAll}
use Rattle.desk_rows.specs.steps.Shown.{near_booking_shown, span_shown}
use Rattle.desk_rows.specs.steps.Texts.{AsksFor, bookings_asked, bookings_between_asked, near_asked}
use Rattle.desk_rows.specs.declared.faults.RowFault.{RowFault}
use Rattle.desk_rows.proofs.AnsweredUplinks.{stands}
use Rattle.desk_rows.proofs.Lookups.{says_so}
use Rattle.desk_rows.proofs.OrderLemmas.Orders.{not_both}
use Rattle.desk_rows.proofs.Ordered.{rising}
use Rattle.desk_rows.proofs.Ranges.{IsSpan, reads_by_start, rows_alike, reads_spans}
use Rattle.desk_rows.proofs.ReadLemmas.{truth_again}
use Rattle.desk_rows.proofs.StatementTexts.{lookup_is}
use Rattle.desk_rows.proofs.Terms.{is, and_true, text_equal, number_equal}

moved : (a b c : Bool) → (a && (b && c)) ≡ ((a && c) && b)
moved true true true = refl
moved true true false = refl
moved true false true = refl
moved true false false = refl
moved false b c = refl

module _ {sql : List ℕ} {names : List (List ℕ)} (means : AsksFor sql 2 bookings_asked names) {old new : State} (gateway : List ℕ) where
  pub reads_band : (band : Band) {result : Result (Vec Interval Global) RowFault} → FindsAll sql (Text gateway ∷ number (band_number band) ∷ []) old new
      (λ s. s) span_shown IsSpan result
      → ReadsRows old new result (λ r spans. spans.items ≡ spans_by booking_span (by_start (λ (b : BookingRow). (booking_span b).start))
      (λ b. stands_in gateway band b.booking) r.bookings)
  reads_band band found = reads_spans (lookup_is means) (Text gateway ∷ number (band_number band) ∷ []) refl refl booking_cells (λ r. r.bookings) (λ r has. has.ten.booking)
      (λ b. stands_in gateway band b.booking)
      (λ b. ap₂ (λ s t. s && t) (text_equal b.1.booking.gateway gateway)
      (ap₂ (λ s t. s && t) (number_equal (band_number b.1.booking.band) (band_number band)) (and_true _ ∙ stands b.1.booking.standing))
      ∙ moved (bytes_eq b.1.booking.gateway gateway) (band_number b.1.booking.band == band_number band) (not (is_dropped b.1.booking.standing)))
      booking_span (λ b. refl)
      (λ b c. ap₂ (λ u v. ordering_then u (ordering_then v Equal)) (value_cmp-Int (booking_span b.1).start (booking_span c.1).start)
      (value_cmp-Int (pos b.0) (pos c.0)))
      IsBooking (λ r has. has.ten.in_range.bookings) (λ b fits. (fits.start, fits.len)) found

-- ---- comparisons of integers

gt_lt : (a b : ℤ) → is_gt (int_cmp a b) ≡ int_lt b a
gt_lt a b = by (int_lt a b) (int_lt b a) refl refl
  where
    by : (p q : Bool) → int_lt a b ≡ p → int_lt b a ≡ q → is_gt (cond p Less (cond q Greater Equal)) ≡ q
    by true q is js = sym (not_both a b is) ∙ js
    by false true is js = refl
    by false false is js = refl

lt_lt : (a b : ℤ) → is_lt (int_cmp a b) ≡ int_lt a b
lt_lt a b = by (int_lt a b) (int_lt b a)
  where
    by : (p q : Bool) → is_lt (cond p Less (cond q Greater Equal)) ≡ p
    by true q = refl
    by false true = refl
    by false false = refl

ge_le : (a b : ℤ) → is_ge (int_cmp a b) ≡ int_le b a
ge_le a b = grind (arith, ints)

pub int_from : (a b : ℤ) → is_true (binary (Compare Ge Binary) (Int a) (Int b)) ≡ int_le b a
unfolding binary
int_from a b = truth_again _ ∙ ap is_ge (value_cmp-Int a b) ∙ ge_le a b

pub int_above : (a b : ℤ) → is_true (binary (Compare Gt Binary) (Int a) (Int b)) ≡ int_lt b a
unfolding binary
int_above a b = truth_again _ ∙ ap is_gt (value_cmp-Int a b) ∙ gt_lt a b

pub int_below : (a b : ℤ) → is_true (binary (Compare Lt Binary) (Int a) (Int b)) ≡ int_lt a b
unfolding binary
int_below a b = truth_again _ ∙ ap is_lt (value_cmp-Int a b) ∙ lt_lt a b

-- ---- near a start

near_moved : (g a b s : Bool) → (g && (a && (b && s))) ≡ ((g && s) && (a && b))
near_moved false a b s = refl
near_moved true false b true = refl
near_moved true false b false = refl
near_moved true true false true = refl
near_moved true true false false = refl
near_moved true true true true = refl
near_moved true true true false = refl

abbrev pub IsNearBooking : NearBooking → Type 0
IsNearBooking near = IsStart near.span.start × (near.span.len < 2 ^ 32)

module _ {sql : List ℕ} {names : List (List ℕ)} (means : AsksFor sql 3 near_asked names) {old new : State} (gateway : List ℕ) (after before : ℤ) where
  between : {result : Result (Vec NearBooking Global) RowFault} → FindsAll sql (Text gateway ∷ Int after ∷ Int before ∷ []) old new
      (λ n. n) near_booking_shown IsNearBooking result
      → ReadsRows old new result (λ r near. near.items ≡ near_by (by_start (λ (b : BookingRow). (booking_span b).start))
      (λ b. stands_at gateway b.booking && starts_between after before (booking_span b)) r.bookings)
  between found = reads_by_start (lookup_is means) (Text gateway ∷ Int after ∷ Int before ∷ []) refl refl booking_cells (λ r. r.bookings) (λ r has. has.ten.booking)
      (λ b. stands_at gateway b.booking && starts_between after before (booking_span b))
      (λ b. ap₂ (λ s t. s && t) (text_equal b.1.booking.gateway gateway) (ap₂ (λ s t. s && t) (int_above (booking_span b.1).start after)
      (ap₂ (λ s t. s && t) (int_below (booking_span b.1).start before) (and_true _ ∙ stands b.1.booking.standing)))
      ∙ near_moved (bytes_eq b.1.booking.gateway gateway) (int_lt after (booking_span b.1).start) (int_lt (booking_span b.1).start before)
      (not (is_dropped b.1.booking.standing)))
      near_booking_shown IsNearBooking (λ b. near_shown b.1.booking) (λ b. refl) (λ b. (booking_span b).start)
      (λ b c. ap₂ (λ u v. ordering_then u (ordering_then v Equal)) (value_cmp-Int (booking_span b.1).start (booking_span c.1).start)
      (value_cmp-Int (pos b.0) (pos c.0)))
      IsBooking (λ r has. has.ten.in_range.bookings) (λ b fits. (fits.start, fits.len)) found

  -- what lies between the two starts is what is near the one
  pub reads_near : (start : ℤ) → ((a : Interval) → IsStart a.start → is_near start a ≡ starts_between after before a)
      → {result : Result (Vec NearBooking Global) RowFault} → FindsAll sql (Text gateway ∷ Int after ∷ Int before ∷ []) old new
      (λ n. n) near_booking_shown IsNearBooking result
      → ReadsRows old new result (λ r near. near.items ≡ near_by (by_start (λ (b : BookingRow). (booking_span b).start)) (is_near_at gateway start) r.bookings)
  reads_near start near found = says_so (between found)
      (λ r has shown is. is ∙ ap (map (λ (row : ℕ × BookingRow). near_shown row.1.booking))
      (rows_alike (by_start (λ (b : BookingRow). (booking_span b).start)) IsBooking
      (λ b. stands_at gateway b.booking && starts_between after before (booking_span b)) (is_near_at gateway start)
      (λ b fits. ap (λ t. stands_at gateway b.booking && t) (sym (near (booking_span b) fits.start))) r.bookings has.ten.in_range.bookings))

-- ---- between two starts

module _ {sql : List ℕ} {names : List (List ℕ)} (means : AsksFor sql 3 bookings_between_asked names) {old new : State} (gateway : List ℕ) (from to : ℤ) where
  pub reads_between : {result : Result (Vec ℕ Global) RowFault} → FindsAll sql (Text gateway ∷ Int from ∷ Int to ∷ []) old new
      (λ n. n) (λ n. number n ∷ []) (λ n. Unit {0}) result
      → ReadsRows old new result (λ r numbers. numbers.items ≡ bookings_listed gateway from to r)
  reads_between found = reads_by_start (lookup_is means) (Text gateway ∷ Int from ∷ Int to ∷ []) refl refl booking_cells (λ r. r.bookings) (λ r has. has.ten.booking)
      (λ b. is_booking_from gateway from to b.booking)
      (λ b. ap₂ (λ s t. s && t) (text_equal b.1.booking.gateway gateway) (ap₂ (λ s t. s && t) (int_from (booking_span b.1).start from)
      (and_true _ ∙ int_below (booking_span b.1).start to))
      ∙ sym (and_assoc (bytes_eq b.1.booking.gateway gateway) (int_le from (booking_span b.1).start) (int_lt (booking_span b.1).start to)))
      (λ n. number n ∷ []) (λ n. Unit {0}) (λ b. b.0) (λ b. refl) (λ b. (booking_span b).start)
      (λ b c. ap₂ (λ u v. ordering_then u (ordering_then v Equal)) (value_cmp-Int (booking_span b.1).start (booking_span c.1).start)
      (value_cmp-Int (pos b.0) (pos c.0)))
      IsBooking (λ r has. has.ten.in_range.bookings) (λ b fits. tt) found
