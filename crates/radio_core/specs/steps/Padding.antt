-- A shorter text in an array of a fixed size.
use Rattle.std.specs.Prelude.{◌≡◌, ℕ, ◌-◌, List, ◌++◌, length, take, replicate}

-- the text with zeros after it, n octets in all
abbrev pub padded : ℕ → List ℕ → List ℕ
padded n text = text ++ replicate (n - length text) 0

-- an array of n octets that has a text in its first places, and zeros after it
pub record IsPadded (n : ℕ) (array : List ℕ) (size : ℕ) : Type 0 where
  pub room : length (take size array) ≡ size
  pub noughts : padded n (take size array) ≡ array
