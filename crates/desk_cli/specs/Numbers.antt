-- Counts within their limits, as arguments write them (this project's forms).
use Rattle.std.specs.Prelude.{ℕ, ◌&&◌, List, Option, Some, None, nat_le, option_and_then, if◌then◌else◌}
use Rattle.desk_wire.specs.Decimals.{count_in}

-- at least 1, and at most this
abbrev pub up_to : ℕ → ℕ → Option ℕ
up_to most n = if nat_le 1 n && nat_le n most then Some n else None

abbrev pub port_of : List ℕ → Option ℕ
port_of text = option_and_then (up_to 65535) (count_in text)

abbrev pub connections_of : List ℕ → Option ℕ
connections_of text = option_and_then (up_to 1000000) (count_in text)
