-- Values that may be missing: the next step if there is one, and the value if it passes a test.
use Rattle.std.specs.Prelude.{Bool, Option, Some, None, option_and_then, if◌then◌else◌}

infixl 10 ◌>>=◌
abbrev pub ◌>>=◌ : {X Y : Type 0} → Option X → (X → Option Y) → Option Y
found >>= next = option_and_then next found

abbrev pub only_if : {X : Type 0} → (X → Bool) → X → Option X
only_if test x = if test x then Some x else None
