-- The octets of DevEUIs, the most significant first, compare as the numbers do.
use Rattle.std.proofs.Common.{◌≡◌, inl, inr, zero, suc, ◌+◌, ◌*◌, ◌/◌, ◌%◌, ◌<◌, ◌≤◌, ◌^◌, ℕ, true, false, true≢false, refl, sym, arith}
use Rattle.std.proofs.Common.{Ordering, Less, Equal, Greater}
use Rattle.std.proofs.Math.Nat.{div-div-eq-div-mul, div-mul-le_self, div-zero}
use Rattle.std.proofs.lemmas.Nat.{le-div}
use Rattle.std.proofs.lemmas.Bool.{cases_lt}
use Rattle.std.specs.Cmp.Lexicographic.{slice_cmp}
use Rattle.std.specs.Int.{to_be_bytes, w64}
use Rattle.std.specs.Ordering.{MatchOrdering, is_gt, nat_cmp, ordering_then}
use Rattle.std.specs.Prelude.{nat_lt}
use Rattle.std.specs.Cmp.{ranks}
use Rattle.desk_rows.specs.order.Arranged.{RisesByEui, by_eui}

-- this is how one number compares with another
abbrev Ranks : ℕ → ℕ → Ordering → Type 0
Ranks a b o = MatchOrdering o (a < b) (a ≡ b) (b < a)

-- with the higher octets the same, one octet decides, or else those that follow
step : (x y p q a b : ℕ) (o : Ordering) → x ≡ x % 256 + p * 256 → y ≡ y % 256 + q * 256 → p ≡ q → (x < y → a < b) → (y < x → b < a) → (x ≡ y → Ranks a b o)
    → Ranks a b (ordering_then (nat_cmp (x % 256) (y % 256)) o)
step x y p q a b o x_is y_is high below above rest = by (nat_cmp (x % 256) (y % 256)) (ranks (x % 256) (y % 256))
  where
    by : (first : Ordering) → Ranks (x % 256) (y % 256) first → Ranks a b (ordering_then first o)
    by Less rank = below (omega (arith, rank, x_is, y_is, high))
    by Equal rank = rest (omega (arith, rank, x_is, y_is, high))
    by Greater rank = above (omega (arith, rank, x_is, y_is, high))

parts : (n m : ℕ) → n / m ≡ n / m % 256 + n / (m * 256) * 256
parts n m = omega (arith, div-div-eq-div-mul n m 256)

less : (m a b : ℕ) → a / m < b / m → a < b
less zero a b h = absurd (omega (arith, h, div-zero a, div-zero b))
less (suc m) a b h = elim (cases_lt a b) [
  | inl below ↦ below
  | inr past ↦ absurd (let up : b / suc m ≤ a / suc m = le-div (b / suc m) a (suc m) (omega arith) (omega (arith, div-mul-le_self b (suc m), past)) in omega
      (arith, up, h))
]

octets_rank : (a b : ℕ) → a < 2 ^ 64 → b < 2 ^ 64 → Ranks a b (slice_cmp nat_cmp (to_be_bytes w64 a) (to_be_bytes w64 b))
octets_rank a b low small =
    step (a / 72057594037927936) (b / 72057594037927936) 0 0 a b _ (omega (arith, low)) (omega (arith, small)) refl (less 72057594037927936 a b)
    (less 72057594037927936 b a) (λ s7.
    step (a / 281474976710656) (b / 281474976710656) (a / 72057594037927936) (b / 72057594037927936) a b _ (parts a 281474976710656)
    (parts b 281474976710656) s7 (less 281474976710656 a b) (less 281474976710656 b a) (λ s6.
    step (a / 1099511627776) (b / 1099511627776) (a / 281474976710656) (b / 281474976710656) a b _ (parts a 1099511627776) (parts b 1099511627776) s6
    (less 1099511627776 a b) (less 1099511627776 b a) (λ s5.
    step (a / 4294967296) (b / 4294967296) (a / 1099511627776) (b / 1099511627776) a b _ (parts a 4294967296) (parts b 4294967296) s5 (less 4294967296 a b)
    (less 4294967296 b a) (λ s4.
    step (a / 16777216) (b / 16777216) (a / 4294967296) (b / 4294967296) a b _ (parts a 16777216) (parts b 16777216) s4 (less 16777216 a b)
    (less 16777216 b a) (λ s3.
    step (a / 65536) (b / 65536) (a / 16777216) (b / 16777216) a b _ (parts a 65536) (parts b 65536) s3 (less 65536 a b) (less 65536 b a) (λ s2.
    step (a / 256) (b / 256) (a / 65536) (b / 65536) a b _ (parts a 256) (parts b 256) s2 (less 256 a b) (less 256 b a) (λ s1.
    step a b (a / 256) (b / 256) a b _ (omega arith) (omega arith) s1 (λ h. h) (λ h. h) (λ s0. s0))))))))

-- one is above another as its octets are
pub octets_above : (a b : ℕ) → a < 2 ^ 64 → b < 2 ^ 64 → is_gt (slice_cmp nat_cmp (to_be_bytes w64 a) (to_be_bytes w64 b)) ≡ nat_lt b a
octets_above a b low small = by (slice_cmp nat_cmp (to_be_bytes w64 a) (to_be_bytes w64 b)) (octets_rank a b low small)
  where
    by : (o : Ordering) → Ranks a b o → is_gt o ≡ nat_lt b a
    by Less rank = grind arith
    by Equal rank = grind arith
    by Greater rank = grind arith

pub rises_by_eui : RisesByEui by_eui
rises_by_eui = record {
  after = λ a b low small. after (slice_cmp nat_cmp (to_be_bytes w64 a.1.dev_eui) (to_be_bytes w64 b.1.dev_eui)) _ a.1.dev_eui b.1.dev_eui
      (octets_rank a.1.dev_eui b.1.dev_eui low small);
  before = λ a b low small. before (slice_cmp nat_cmp (to_be_bytes w64 a.1.dev_eui) (to_be_bytes w64 b.1.dev_eui)) _ a.1.dev_eui b.1.dev_eui
      (octets_rank a.1.dev_eui b.1.dev_eui low small);
}
  where
    after : (o rest : Ordering) (a b : ℕ) → Ranks a b o → is_gt (ordering_then o rest) ≡ true → b ≤ a
    after Less rest a b rank gt = absurd (true≢false (sym gt))
    after Equal rest a b rank gt = omega (arith, rank)
    after Greater rest a b rank gt = omega (arith, rank)

    before : (o rest : Ordering) (a b : ℕ) → Ranks a b o → is_gt (ordering_then o rest) ≡ false → a ≤ b
    before Less rest a b rank gt = omega (arith, rank)
    before Equal rest a b rank gt = omega (arith, rank)
    before Greater rest a b rank gt = absurd (true≢false gt)
