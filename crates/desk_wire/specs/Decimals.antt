-- Decimal text: which numbers digits write (this project's forms).
use Rattle.std.specs.Prelude.{ℕ, ◌^◌, Bool, ◌&&◌, List, length, Option, Some, None, nat_le, nat_lt, if◌then◌else◌}
use Rattle.std.specs.Char.{is_ascii_digit}
use Rattle.std.specs.List.{list_all}
use Rattle.std.specs.Str.Parse.{digits_value}
use Rattle.desk_wire.specs.Optional.{◌>>=◌, only_if}

-- one to sixteen decimal digits and nothing else
abbrev pub is_decimal : List ℕ → Bool
is_decimal text = nat_le 1 (length text) && nat_le (length text) 16 && list_all is_ascii_digit text

-- the integer that such digits write
unfoldable pub decimal_in : List ℕ → Option ℕ
decimal_in text = if is_decimal text then Some (digits_value 10 text) else None

-- the integer if it is below the limit
abbrev pub decimal_below : ℕ → List ℕ → Option ℕ
decimal_below limit text = decimal_in text >>= only_if (λ n. nat_lt n limit)

-- a count: at most ten such digits, below 2^32
abbrev pub count_in : List ℕ → Option ℕ
count_in text = if nat_le (length text) 10 then decimal_below (2 ^ 32) text else None
