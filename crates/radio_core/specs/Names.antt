-- Names (this project's form).
use Rattle.std.specs.Prelude.{ℕ, Bool, ◌&&◌, ◌||◌, List, length, nat_le, ◌==◌}
use Rattle.std.specs.Char.{is_ascii_alphanumeric}
use Rattle.std.specs.List.{list_all}

-- an ASCII letter or digit, `-`, `_` or `.`
abbrev pub is_name_octet : ℕ → Bool
is_name_octet octet = is_ascii_alphanumeric octet || octet == 45 || octet == 95 || octet == 46

-- a name: 1 to 32 such octets
abbrev pub is_name : List ℕ → Bool
is_name text = nat_le 1 (length text) && nat_le (length text) 32 && list_all is_name_octet text
