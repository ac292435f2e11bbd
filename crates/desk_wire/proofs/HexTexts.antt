-- Hexadecimal text: which digits are octets, the ranges of octets and EUIs that are read, and that the text of either is
-- read as it.
use Rattle.std.proofs.Common.{◌≡◌, ℕ, zero, suc, ◌*◌, ◌/◌, ◌%◌, ◌<◌, ◌≤◌, ◌^◌, List, [], ◌∷◌, length, slice_index, Bool, false, nat_le, ◌==◌, Option, Some, None, Result, Ok, Err, IsUtf8, refl, ap, ◌∙◌, arith}
use Rattle.std.specs.Int.{w64, from_be_bytes, to_be_bytes, bytes_high_first, byte_at}
use Rattle.std.specs.Result.{result_ok}
use Rattle.std.proofs.lemmas.Bool.{leb-true, le-leb}
use Rattle.std.proofs.lemmas.Bool.Decides.{nat_tests}
use Rattle.std.proofs.lemmas.Nat.{from_be_bytes-to_be_bytes_8}
use Rattle.std.proofs.lemmas.Str.{IsUtf8-from_ascii}
use Rattle.hex.specs.Hex.{decode_of, encode_lower, encode_with, hex_digit_value, lower_digits, IsBytes}
use Rattle.hex.specs.declared.error.FromHexError.{FromHexError}
use Rattle.hex.proofs.HexLemmas.{decode_of-ok, decode_of-encode_lower, IsAscii-encode_with, IsDigits-lower_digits}
use Rattle.registry_core.specs.Ranges.{IsOctets, IsEui}
use Rattle.desk_wire.specs.Hexadecimal.{unprefixed, decoded, octets_in, eui_in, octet_digits, eui_digits}
use Rattle.desk_wire.specs.Optional.{◌>>=◌, only_if}
use Rattle.desk_wire.proofs.Kept.{Keeps, made, missing, mapped, tested, passed}
use Rattle.desk_wire.proofs.NameTexts.{are_ascii}

-- ---- digits that are octets

-- digits for more than 255 octets are none
too_long_found : (digits : List ℕ) (found : Result (List ℕ) FromHexError) → decode_of digits ≡ found → 255 < length digits / 2
    → (result_ok found >>= only_if (λ octets. nat_le (length octets) 255)) ≡ None
too_long_found digits (Ok octets) is many =
    let twice : length digits ≡ 2 * length octets = (decode_of-ok digits octets is).2 in
    let not_fits : nat_le (length octets) 255 ≡ false = grind (arith, nat_tests) in
    rw not_fits refl
too_long_found digits (Err e) is many = refl

pub too_long : (digits : List ℕ) → 255 < length digits / 2 → decoded digits ≡ None
unfolding decoded
too_long digits many = too_long_found digits (decode_of digits) refl many

-- ---- the octets of a number

byte_at-below : (i n : ℕ) → byte_at i n < 256
byte_at-below zero n = omega arith
byte_at-below (suc i) n = omega arith

IsBytes-bytes_high_first : (k n : ℕ) → IsBytes (bytes_high_first k n)
IsBytes-bytes_high_first zero n i = omega arith
IsBytes-bytes_high_first (suc k) n zero = byte_at-below k n
IsBytes-bytes_high_first (suc k) n (suc i) = IsBytes-bytes_high_first k n i

from_be_bytes-below : (octets : List ℕ) → IsBytes octets → from_be_bytes w64 octets < 2 ^ 64
from_be_bytes-below octets bytes = omega (arith, bytes 0, bytes 1, bytes 2, bytes 3, bytes 4, bytes 5, bytes 6, bytes 7)

-- ---- what is read

bytes_kept : (digits : List ℕ) (found : Result (List ℕ) FromHexError) → decode_of digits ≡ found → Keeps IsBytes (result_ok found)
bytes_kept digits (Ok octets) is = made (decode_of-ok digits octets is).3
bytes_kept digits (Err e) is = missing

decoded_kept : (digits : List ℕ) → Keeps IsBytes (decoded digits)
unfolding decoded
decoded_kept digits = passed (λ octets. nat_le (length octets) 255) (result_ok (decode_of digits)) (bytes_kept digits (decode_of digits) refl)

pub octets_kept : (text : List ℕ) → Keeps IsOctets (octets_in text)
unfolding decoded
octets_kept text =
    let found : Option (List ℕ) = result_ok (decode_of (unprefixed text)) in
    let fits : List ℕ → Bool = λ octets. nat_le (length octets) 255 in
    record {
      holds = λ octets same. record {
        few = leb-true (length octets) 255 ((tested fits found).holds octets same);
        each = (decoded_kept (unprefixed text)).holds octets same;
      };
    }

pub eui_kept : (text : List ℕ) → Keeps IsEui (eui_in text)
unfolding eui_in
eui_kept text = mapped _ (passed (λ octets. length octets == 8) (octets_in text) (decoded_kept (unprefixed text))) from_be_bytes-below

-- ---- a text of octets is read as they are

-- a digit isn't an `x`
not_x : (c d : ℕ) → hex_digit_value c ≡ Some d → (c == 120) ≡ false
not_x c d value = grind (arith, nat_tests)

unprefixed-digits : (c d : ℕ) (rest : List ℕ) → (d == 120) ≡ false → unprefixed (c ∷ d ∷ rest) ≡ c ∷ d ∷ rest
unprefixed-digits c d rest other = grind (arith, nat_tests)

unprefixed-encode_lower : (octets : List ℕ) → unprefixed (encode_lower octets) ≡ encode_lower octets
unfolding encode_with
unprefixed-encode_lower [] = refl
unprefixed-encode_lower (b ∷ rest) =
    let low : b % 16 < 16 = omega arith in
    unprefixed-digits _ _ _ (not_x (slice_index lower_digits (b % 16)) (b % 16) (IsDigits-lower_digits (b % 16) low))

decoded-encode_lower : (octets : List ℕ) → IsBytes octets → length octets ≤ 255 → decoded (encode_lower octets) ≡ Some octets
unfolding decoded
decoded-encode_lower octets bytes few = rw (decode_of-encode_lower octets bytes, le-leb (length octets) 255 few) refl

pub octets_in-octet_digits : (octets : List ℕ) → IsBytes octets → length octets ≤ 255 → octets_in (octet_digits octets) ≡ Some octets
unfolding octet_digits
octets_in-octet_digits octets bytes few = ap decoded (unprefixed-encode_lower octets) ∙ decoded-encode_lower octets bytes few

pub eui_in-eui_digits : (n : ℕ) → IsEui n → eui_in (eui_digits n) ≡ Some n
unfolding eui_in eui_digits
eui_in-eui_digits n fits =
    let octets : List ℕ = to_be_bytes w64 n in
    let read : octets_in (octet_digits octets) ≡ Some octets = octets_in-octet_digits octets (IsBytes-bytes_high_first 8 n) (omega arith) in
    rw (read, from_be_bytes-to_be_bytes_8 n fits) refl

-- ---- the texts are UTF-8

pub IsUtf8-octet_digits : (octets : List ℕ) → IsUtf8 (octet_digits octets)
unfolding octet_digits
IsUtf8-octet_digits octets = IsUtf8-from_ascii _ (IsAscii-encode_with lower_digits octets (are_ascii lower_digits refl))

pub IsUtf8-eui_digits : (n : ℕ) → IsUtf8 (eui_digits n)
unfolding eui_digits
IsUtf8-eui_digits n = IsUtf8-octet_digits (to_be_bytes w64 n)
