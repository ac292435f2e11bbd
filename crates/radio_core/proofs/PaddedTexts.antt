-- A text in an array has its length, and the array is the text and zeros.
use Rattle.std.proofs.Common.{◌≡◌, ℕ, ◌-◌, List, length, take, replicate, ap}
use Rattle.std.proofs.Math.Seq.{take-append_seam}
use Rattle.radio_core.specs.steps.Padding.{padded, IsPadded}

-- the text that an array begins with
pub take-padded : (n : ℕ) (xs : List ℕ) → take (length xs) (padded n xs) ≡ xs
take-padded n xs = take-append_seam xs (replicate (n - length xs) 0)

pub padded_front : (n : ℕ) (xs : List ℕ) → IsPadded n (padded n xs) (length xs)
padded_front n xs = record { room = ap length (take-padded n xs); noughts = ap (padded n) (take-padded n xs) }
