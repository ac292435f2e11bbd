-- The two hours at the edges of an interval: the one that begins where it begins, and the one that ends where it ends.
use Rattle.std.specs.Prelude.{ℕ, pos, ◌-ℤ◌, Bool, ◌&&◌, nat_le, List}
use Rattle.duty_core.specs.Use.{Interval, end_of, hour, use_of}

-- the use of both is within m
abbrev pub edges_within : List Interval → ℕ → Interval → Bool
edges_within l m a = nat_le (use_of l a.start) m && nat_le (use_of l (end_of a -ℤ pos hour)) m
