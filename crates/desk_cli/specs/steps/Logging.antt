-- How a line is written to a log.
use Rattle.std.specs.Prelude.{◌≡◌, ℕ, List, Option, Some, None, Vec}
use Rattle.desk_cli.specs.Faults.{IsBegun}

-- what the writer of the log has: the line or its first octets were written, if there are a log and a line; else nothing was
abbrev pub Puts : {G Z : Type 0} → (G → Option (List ℕ)) → Option G → Option G → Option (Vec ℕ Z) → Type 0
Puts contents None None line = Unit {0}
Puts contents (Some before) (Some after) None = after ≡ before
Puts contents (Some before) (Some after) (Some line) = IsBegun (contents before) (contents after) line.items
Puts contents _ _ line = ⊥
