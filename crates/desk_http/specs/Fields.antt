-- What the fields of a request's head state about its body, and about where the request comes from.
use Rattle.std.specs.Prelude.{ℕ, List, [], ◌∷◌, length, Bool, ◌&&◌, codes, map, filter, nat_lt, if◌then◌else◌}
use Rattle.std.specs.List.{list_all, list_any}
use Rattle.std.specs.Str.{bytes_eq}
use Rattle.std.specs.Str.Parse.{digits_value}
use Rattle.std.specs.Char.{is_ascii_digit, to_ascii_lowercase}
use Rattle.desk_engine.specs.Told.{longest_message}
use Rattle.desk_http.specs.declared.fields.BodyLength.{BodyLength}
use Rattle.desk_http.specs.declared.fields.BodyLength.TheVariants.{Absent, Number, TooLong, Bad}

-- a field: its name, and its value without spaces and tabs around it
abbrev pub NamedValue : Type 0
NamedValue = List ℕ × List ℕ

-- a text is this name in any case; the name is given in lower case
abbrev pub has_name : List ℕ → List ℕ → Bool
has_name name text = bytes_eq (map to_ascii_lowercase text) name

-- the field has this name
abbrev pub is_named : List ℕ → NamedValue → Bool
is_named name field = has_name name field.0

-- some field has this name
abbrev pub has_field : List ℕ → List NamedValue → Bool
has_field name fields = list_any (is_named name) fields

-- some field names a transfer encoding
abbrev pub has_transfer_encoding : List NamedValue → Bool
has_transfer_encoding fields = has_field (codes "transfer-encoding") fields

-- Some field names an origin, whatever its value. Browsers send one with what a page posts to another site.
abbrev pub has_origin : List NamedValue → Bool
has_origin fields = has_field (codes "origin") fields

-- the values of the fields of this name, in their order
abbrev pub values_of : List ℕ → List NamedValue → List (List ℕ)
values_of name fields = map (λ field. field.1) (filter (is_named name) fields)

-- one or more digits
abbrev pub is_number : List ℕ → Bool
is_number text = nat_lt 0 (length text) && list_all is_ascii_digit text

-- the length that a value gives
unfoldable pub length_of : List ℕ → BodyLength
length_of text = if is_number text then (if nat_lt longest_message (digits_value 10 text) then TooLong else Number (digits_value 10 text)) else Bad

-- the length that these values give: none, that of the only one, or bad if there are two or more
abbrev pub length_by : List (List ℕ) → BodyLength
length_by [] = Absent
length_by (value ∷ []) = length_of value
length_by (value ∷ other ∷ more) = Bad

-- the length that the fields give
abbrev pub body_length : List NamedValue → BodyLength
body_length fields = length_by (values_of (codes "content-length") fields)
