-- A shorter interval has room where a longer one has it.
use Rattle.std.proofs.Common.{◌≡◌, ℕ, ◌+◌, ◌≤◌, ◌<◌, arith, List, [], ◌∷◌, ◌++◌}
use Rattle.std.specs.Prelude.{ℤ, IsTrue}
use Rattle.std.proofs.lemmas.Int.{ints}
use borrow.Author.Differences.{up, down}
use Rattle.duty_core.specs.Use.{Interval, is_in, shared_count, hour, hour_from, use_of, EveryHourWithin, IsClear}
use native.Mathlib.Decide.{dec_le}
use Rattle.duty_core.specs.Room.{HasRoom, IsRoom}
use Rattle.duty_core.proofs.Counting.{lap_is}
use Rattle.duty_core.proofs.EdgeHours.{use_of-push}

abbrev pub span : ℤ → ℕ → Interval
span start n = record { start = start; len = n }

shared_grows : (start t : ℤ) (m n : ℕ) → m ≤ n → shared_count (span start m) (hour_from t) ≤ shared_count (span start n) (hour_from t)
shared_grows start t m n h =
    omega (arith, lap_is (span start m) t hour (up start + down t) (up t + down start) (omega arith), lap_is (span start n) t hour (up start + down t) (up t + down start) (omega arith))

in_longer : (start x : ℤ) (m n : ℕ) → m ≤ n → IsTrue (is_in (span start m) x) → IsTrue (is_in (span start n) x)
in_longer start x m n h i = grind (arith, ints)

pub room_of_shorter : (all of_band : List Interval) (start : ℤ) (limit m n : ℕ) → m ≤ n → HasRoom all of_band start limit n → HasRoom all of_band start limit m
room_of_shorter all of_band start limit m n h r = record {
  clear = λ x i. r.clear x (in_longer start x m n h i);
  hours = λ t. omega (arith, use_of-push of_band (span start m) t, use_of-push of_band (span start n) t, shared_grows start t m n h, r.hours t);
}

-- ---- the greatest length

greatest : (all of_band : List Interval) (start : ℤ) (limit most r s : ℕ) → IsRoom all of_band start limit most r → IsRoom all of_band start limit most s → r ≤ s
greatest all of_band start limit most r s one other = by r (dec_le r 0) (omega arith)
  where
    by : (n : ℕ) → Dec (n ≤ 0) → n ≤ r → n ≤ s
    by n (yes none) h = omega (arith, none)
    by n (no some) h = (other.exact n (omega (arith, some)) (omega (arith, h, one.within))).1 ((one.exact n (omega (arith, some)) (omega (arith, h, one.within))).0 h)

pub room_is_unique : (all of_band : List Interval) (start : ℤ) (limit most r s : ℕ) → IsRoom all of_band start limit most r → IsRoom all of_band start limit most s → r ≡ s
room_is_unique all of_band start limit most r s one other =
    omega (arith, greatest all of_band start limit most r s one other, greatest all of_band start limit most s r other one)

-- the lengths up to one that has room have it, and none above it has
pub room_of : (all of_band : List Interval) (start : ℤ) (limit most r g : ℕ) → r ≤ g → g ≤ r → g ≤ most
    → (0 < r → HasRoom all of_band start limit r) → ((n : ℕ) → g < n → n ≤ most → ¬ HasRoom all of_band start limit n) → IsRoom all of_band start limit most r
room_of all of_band start limit most r g le ge within has none = record {
  within = omega arith;
  exact = λ n some short. (λ h. room_of_shorter all of_band start limit n r h (has (omega arith)), λ h. below n short h (dec_le n r));
}
  where
    below : (n : ℕ) → n ≤ most → HasRoom all of_band start limit n → Dec (n ≤ r) → n ≤ r
    below n short h (yes k) = k
    below n short h (no k) = absurd (none n (omega (arith, k)) short h)

-- if a length doesn't have room, no greater one does
pub none_longer : (all of_band : List Interval) (start : ℤ) (limit m n : ℕ) → ¬ HasRoom all of_band start limit m → m ≤ n → ¬ HasRoom all of_band start limit n
none_longer all of_band start limit m n not h has = not (room_of_shorter all of_band start limit m n h has)
