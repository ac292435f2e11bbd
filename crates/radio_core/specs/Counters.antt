-- Frame counters of 32 bits. A frame has the low 16 bits (LoRaWAN L2 1.0.4, section 4.3.1.5).
use Rattle.std.specs.Prelude.{◌≡◌, ℕ, ◌+◌, ◌%◌, Bool, ◌&&◌, Option, Some, None, IsTrue, nat_lt, nat_le, ◌==◌}

-- The counter that a frame has. Without a last counter it is the low bits themselves, and else the one in the next 65,536 numbers that has
-- these low bits, if that is at most 4,294,967,295 (that the next 65,536 are looked at is this project's).
abbrev pub is_candidate : Option ℕ → ℕ → ℕ → Bool
is_candidate None low counter = counter == low
is_candidate (Some last) low counter =
    nat_lt last counter && nat_le counter (last + 65536) && counter % 65536 == low && nat_le counter 4294967295

-- a frame has at most one counter
abbrev pub CandidateIsOnly : Type 0
CandidateIsOnly = (last : Option ℕ) (low one other : ℕ) →
    IsTrue (is_candidate last low one) → IsTrue (is_candidate last low other) → one ≡ other
