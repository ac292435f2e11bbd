-- A connection between two calls.
use Rattle.std.specs.Prelude.{◌≡◌, false, None}
use Rattle.sqlite.specs.Held.{Held}

-- no transaction is open on it, and its statements have no limit of steps
abbrev pub IsAtRest : {S : Type 0} → Held S → Type 0
IsAtRest conn = (conn.in_transaction ≡ false) × (conn.step_limit ≡ None)
