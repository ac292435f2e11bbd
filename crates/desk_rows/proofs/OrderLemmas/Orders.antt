-- Orders by columns: by start and then by number, by DevEUI, and by a key that falls.
use Rattle.std.proofs.Common.{◌≡◌, ℕ, ◌<◌, ◌≤◌, Bool, true, false, cond, refl, sym, ap, ◌∙◌, arith, Ordering, Less, Equal, Greater}
use Rattle.std.specs.Prelude.{ℤ, pos, int_lt}
use Rattle.std.specs.Ordering.{int_cmp, is_gt, ordering_then}
use Rattle.std.proofs.lemmas.Int.{ints}
use Rattle.registry_core.specs.declared.facts.Uplink.{Uplink}
use Rattle.registry_core.specs.Reports.{interval_of}
use Rattle.desk_rows.specs.Rows.{BookingRow, SessionRow}
use Rattle.desk_rows.specs.order.Arranged.{FallsFirst, OrdersHold, PutsByStart, booking_span, by_start}
use Rattle.desk_rows.proofs.OrderLemmas.Euis.{rises_by_eui}

-- ---- by start

pub not_both : (a b : ℤ) → int_lt a b ≡ true → int_lt b a ≡ false
not_both a b ab = grind (arith, ints)

below : (m n : ℕ) → m < n → int_lt (pos m) (pos n) ≡ true
below m n less = grind (arith, ints)

lower_first : (m n : ℕ) → m < n → is_gt (ordering_then (int_cmp (pos m) (pos n)) Equal) ≡ false
lower_first m n less = ap (λ b. is_gt (ordering_then (cond b Less (cond (int_lt (pos n) (pos m)) Greater Equal)) Equal)) (below m n less)

pub puts_by_start : {X : Type 0} (start : X → ℤ) → PutsByStart start (by_start start)
puts_by_start start a b less = by (int_lt (start a.1) (start b.1)) (int_lt (start b.1) (start a.1)) refl refl
  where
    by : (p q : Bool) → int_lt (start a.1) (start b.1) ≡ p → int_lt (start b.1) (start a.1) ≡ q
        → is_gt (ordering_then (cond p Less (cond q Greater Equal)) (ordering_then (int_cmp (pos a.0) (pos b.0)) Equal)) ≡ q
    by true q is js = sym (not_both (start a.1) (start b.1) is) ∙ js
    by false true is js = refl
    by false false is js = lower_first a.0 b.0 less

-- ---- by a key that falls

at_most : (m n : ℕ) → int_lt (pos n) (pos m) ≡ false → m ≤ n
at_most m n above = grind (arith, ints)

at_most_below : (m n : ℕ) → int_lt (pos m) (pos n) ≡ true → m ≤ n
at_most_below m n less = grind (arith, ints)

module _ {A : Type 0} (key : A → ℕ) (rest : A → A → Ordering) (a b : A) where
  abbrev order_by : Bool → Bool → Ordering
  order_by p q = ordering_then (cond p Less (cond q Greater Equal)) (rest a b)

  after_by : (p q : Bool) → int_lt (pos (key b)) (pos (key a)) ≡ p → int_lt (pos (key a)) (pos (key b)) ≡ q → is_gt (order_by p q) ≡ true → key a ≤ key b
  after_by true q is js gt = let no : false ≡ true = gt in cc
  after_by false q is js gt = at_most (key a) (key b) is

  before_by : (p q : Bool) → int_lt (pos (key b)) (pos (key a)) ≡ p → int_lt (pos (key a)) (pos (key b)) ≡ q → is_gt (order_by p q) ≡ false → key b ≤ key a
  before_by true q is js gt = at_most_below (key b) (key a) is
  before_by false true is js gt = let no : true ≡ false = gt in cc
  before_by false false is js gt = at_most (key b) (key a) js

falls_first : {A : Type 0} (key : A → ℕ) → FallsFirst key
falls_first key rest = record {
  after = λ a b. after_by key rest a b (int_lt (pos (key b)) (pos (key a))) (int_lt (pos (key a)) (pos (key b))) refl refl;
  before = λ a b. before_by key rest a b (int_lt (pos (key b)) (pos (key a))) (int_lt (pos (key a)) (pos (key b))) refl refl;
}

pub orders_hold : OrdersHold
orders_hold = record {
  bookings = puts_by_start (λ (b : BookingRow). (booking_span b).start);
  uplinks = puts_by_start (λ (u : Uplink). (interval_of u).start);
  devices = rises_by_eui;
  nonces = falls_first (λ (s : ℕ × SessionRow). s.1.session.nonce);
  counters = falls_first (λ (u : ℕ × Uplink). u.1.counter);
  session_numbers = falls_first (λ (s : ℕ × SessionRow). s.0);
  uplink_numbers = falls_first (λ (u : ℕ × Uplink). u.0);
  booking_numbers = falls_first (λ (b : ℕ × BookingRow). b.0);
}
