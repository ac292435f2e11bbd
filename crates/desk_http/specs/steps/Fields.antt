-- What the fields so far state, in a loop over the fields.
use Rattle.std.specs.Prelude.{ℕ, List, Bool, false, ◌||◌, codes, fold, if◌then◌else◌}
use Rattle.desk_http.specs.declared.fields.BodyLength.{BodyLength}
use Rattle.desk_http.specs.declared.fields.BodyLength.TheVariants.{Absent, Bad}
use Rattle.desk_http.specs.Fields.{NamedValue, is_named, length_of}

abbrev pub or_named : List ℕ → Bool → NamedValue → Bool
or_named name so_far field = so_far || is_named name field

-- some field so far has this name
abbrev pub named_so_far : List ℕ → List NamedValue → Bool
named_so_far name fields = fold (or_named name) false fields

abbrev pub length_with : BodyLength → BodyLength → BodyLength
length_with Absent new = new
length_with _ new = Bad

abbrev pub length_after : BodyLength → NamedValue → BodyLength
length_after so_far field = if is_named (codes "content-length") field then length_with so_far (length_of field.1) else so_far

-- the length that the fields so far give
abbrev pub length_so_far : List NamedValue → BodyLength
length_so_far fields = fold length_after Absent fields
