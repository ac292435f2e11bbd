-- The digits of an address are those of its lowest 32 bits.
use Rattle.std.proofs.Common.{◌≡◌, ◌%◌, ℕ, ◌∷◌, [], ap, arith}
use Rattle.desk_wire.specs.Hexadecimal.{addr_digits, octet_digits}

same_octets : (a b c d e f g h : ℕ) → a ≡ e → b ≡ f → c ≡ g → d ≡ h → (a ∷ b ∷ c ∷ d ∷ []) ≡ (e ∷ f ∷ g ∷ h ∷ [])
same_octets a b c d e f g h w x y z = λ i. w i ∷ x i ∷ y i ∷ z i ∷ []

pub low_digits : (n : ℕ) → addr_digits (n % 4294967296) ≡ addr_digits n
unfolding addr_digits
low_digits n = ap octet_digits (same_octets _ _ _ _ _ _ _ _ (omega arith) (omega arith) (omega arith) (omega arith))
