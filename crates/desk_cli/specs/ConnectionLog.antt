-- The log of connections: a line for each, of fields with one space between them (this project's form).
use Rattle.std.specs.Prelude.{◌≡◌, ◌⊎◌, ◌/◌, ◌%◌, ◌+◌, ℕ, Bool, ◌&&◌, ◌||◌, ◌==◌, not, List, [], ◌∷◌, ◌++◌, Option, Some, None, length, codes, flat_map, nat_lt, if◌then◌else◌}
use Rattle.std.specs.Fmt.{decimal}
use Rattle.std.specs.List.{after_first, before_first}
use Rattle.desk_engine.specs.Lines.{line_feed}
use Rattle.registry_core.specs.Refusals.{refusal_number}
use Rattle.registry_core.specs.declared.answers.Refusal.{Refusal}
use Rattle.desk_wire.specs.declared.heads.Head.{Head}
use Rattle.desk_http.specs.declared.serving.ServeEnd.{ServeEnd}
use Rattle.desk_http.specs.declared.serving.ServeEnd.TheVariants.{Done, Closed, Read, Write, Memory}
use Rattle.desk_cli.specs.Faults.{IsBegun}
use Rattle.desk_cli.specs.declared.connection_log.lines.Served.{Served}
use Rattle.desk_cli.specs.declared.connection_log.recorders.Record.{Record}

-- ---- fields

-- what isn't there
abbrev pub none_field : List ℕ
none_field = codes "-"

-- the status of the response, or how the connection ended without one
abbrev pub end_field : ServeEnd → List ℕ
end_field (Done status) = decimal status
end_field Closed = codes "closed"
end_field Read = codes "read"
end_field Write = codes "write"
end_field Memory = codes "memory"

-- printable ASCII, and none of the space, both quotes and the backslash
abbrev pub is_plain : ℕ → Bool
is_plain octet = nat_lt 32 octet && nat_lt octet 127 && not (octet == 34) && not (octet == 39) && not (octet == 92)

-- 0 to 9 and a to f, for 0 to 15
abbrev pub hexadecimal_digit : ℕ → ℕ
hexadecimal_digit n = if nat_lt n 10 then 48 + n else 87 + n

-- an octet that a client sent: itself if it is plain, else `\x` and two hexadecimal digits
abbrev pub octet_field : ℕ → List ℕ
octet_field octet = if is_plain octet then octet ∷ [] else 92 ∷ 120 ∷ hexadecimal_digit (octet / 16) ∷ hexadecimal_digit (octet % 16) ∷ []

-- octets that a client sent
abbrev pub text_field : List ℕ → List ℕ
text_field text = if length text == 0 then none_field else flat_map octet_field text

-- ---- what a request line has

abbrev pub is_line_end : ℕ → Bool
is_line_end octet = octet == 13 || octet == 10

-- a space or the end of a line
abbrev pub is_gap : ℕ → Bool
is_gap octet = octet == 32 || is_line_end octet

-- the octets before the first space or end of a line
abbrev pub first_word : List ℕ → List ℕ
first_word text = before_first is_gap text

-- the octets after the first space or end of a line
abbrev pub after_word : List ℕ → List ℕ
after_word text = after_first is_gap text

-- ---- the line

-- before further fields
abbrev pub with_space : List ℕ → List ℕ → List ℕ
with_space field fields = field ++ (codes " " ++ fields)

-- a message's sender, its transaction number and its type
abbrev pub head_fields : Option Head → List ℕ
head_fields (Some head) = with_space head.sender (with_space (decimal head.transaction) head.type_name)
head_fields None = codes "- - -"

-- the number of the refusal
abbrev pub refusal_field : Option Refusal → List ℕ
refusal_field (Some refusal) = decimal (refusal_number refusal)
refusal_field None = none_field

-- the octets read and written, the microseconds, and what the answer reports
abbrev pub later_fields : Served → List ℕ
later_fields s =
    with_space (decimal s.read) (with_space (decimal s.written) (with_space (decimal s.micros)
    (with_space (head_fields s.head) (refusal_field s.refusal ++ line_feed ∷ []))))

-- the line of a connection
abbrev pub connection_line : Served → List ℕ
connection_line s = with_space (end_field s.end) (with_space (text_field s.method.now) (with_space (text_field s.target.now) (later_fields s)))

-- ---- what is written

-- the line is that of a connection that ended so, given the octets that were recorded
pub record IsLineOf (end : ServeEnd) (read written : Record) (line : List ℕ) : Type 0 where
  pub served : Served
  pub ended : served.end ≡ end
  pub method : served.method.now ≡ first_word read.first.items
  pub target : served.target.now ≡ first_word (after_word read.first.items)
  pub was_read : served.read ≡ read.count
  pub was_written : served.written ≡ written.count
  pub line_is : line ≡ connection_line served

-- the same if octets were recorded; else there is no line
abbrev pub IsLine : ServeEnd → Option Record → Option Record → List ℕ → Type 0
IsLine end (Some read) (Some written) line = IsLineOf end read written line
IsLine end _ _ line = ⊥

-- What the writer of the log has. If there is a log, the line of a connection was written to it, or the first octets of the line if a write
-- failed; or there was no memory for the line or no time, and nothing was written. If there is none, there is none afterwards.
abbrev pub Logs : {G : Type 0} → (G → Option (List ℕ)) → Option G → Option G → ServeEnd → Option Record → Option Record → Type 0
Logs contents None None end read written = Unit {0}
Logs contents (Some before) (Some after) end read written =
    ((line : List ℕ) × IsLine end read written line × IsBegun (contents before) (contents after) line) ⊎ (after ≡ before)
Logs contents _ _ end read written = ⊥
