-- Integers as messages have them (this project's range).
use Rattle.std.specs.Prelude.{ℕ, ◌+◌, ◌≤◌}

-- 2^53 - 1
abbrev pub greatest_json_integer : ℕ
greatest_json_integer = 9007199254740991

-- all of them are below this
abbrev pub json_integer_limit : ℕ
json_integer_limit = greatest_json_integer + 1

abbrev pub IsJsonInteger : ℕ → Type 0
IsJsonInteger n = n ≤ greatest_json_integer
