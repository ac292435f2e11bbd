-- The keys of the maps in memory: of an entry a transaction number and the sender's name, of a reception an uplink's number and the gateway.
use Rattle.std.specs.Prelude.{ℕ, ◌==◌, Bool, List, bytes_eq}

-- the key is of a message of the sender
abbrev pub is_key_of : List ℕ → ℕ × List ℕ → Bool
is_key_of sender key = bytes_eq key.1 sender

-- the key is of a reception of the uplink with this number
abbrev pub is_reception_of : ℕ → ℕ × List ℕ → Bool
is_reception_of uplink key = key.0 == uplink
