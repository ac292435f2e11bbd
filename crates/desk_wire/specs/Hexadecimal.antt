-- Hexadecimal text: which octets, which EUI or which device address a text is, and how they are written (this project's
-- form).
use Rattle.std.specs.Prelude.{ℕ, List, length, take, drop, codes, nat_le, ◌==◌, Option, option_map, if◌then◌else◌}
use Rattle.std.specs.Int.{w32, w64, from_be_bytes, to_be_bytes}
use Rattle.std.specs.Result.{result_ok}
use Rattle.std.specs.Str.{bytes_eq}
use Rattle.hex.specs.Hex.{decode_of, encode_lower}
use Rattle.desk_wire.specs.Optional.{◌>>=◌, only_if}

-- the digits: what follows `0x` if the text begins with it, and else the whole text
abbrev pub unprefixed : List ℕ → List ℕ
unprefixed text = if bytes_eq (take 2 text) (codes "0x") then drop 2 text else text

-- the octets that digits are: two digits for each, the high four bits first, in either case, and at most 255 octets
unfoldable pub decoded : List ℕ → Option (List ℕ)
decoded digits = result_ok (decode_of digits) >>= only_if (λ octets. nat_le (length octets) 255)

-- the octets that a text is, with or without the `0x`
abbrev pub octets_in : List ℕ → Option (List ℕ)
octets_in text = decoded (unprefixed text)

-- the EUI that a text is: exactly 8 octets, the most significant first
unfoldable pub eui_in : List ℕ → Option ℕ
eui_in text = option_map (from_be_bytes w64) (octets_in text >>= only_if (λ octets. length octets == 8))

-- the EUI that digits are: exactly 8 octets with no `0x`, the most significant first
unfoldable pub eui_of_digits : List ℕ → Option ℕ
eui_of_digits text = option_map (from_be_bytes w64) (decoded text >>= only_if (λ octets. length octets == 8))

-- the device address that a text is: exactly 4 octets with no `0x`, the most significant first
unfoldable pub addr_in : List ℕ → Option ℕ
addr_in text = option_map (from_be_bytes w32) (decoded text >>= only_if (λ octets. length octets == 4))

-- the text of octets: two digits for each, in lower case
unfoldable pub octet_digits : List ℕ → List ℕ
octet_digits octets = encode_lower octets

-- the text of an EUI: 16 digits in lower case, the most significant first
unfoldable pub eui_digits : ℕ → List ℕ
eui_digits eui = octet_digits (to_be_bytes w64 eui)

-- the text of a device address: 8 digits in lower case, the most significant first
unfoldable pub addr_digits : ℕ → List ℕ
addr_digits addr = octet_digits (to_be_bytes w32 addr)
