-- Whether fields have a name, and the length that they give, computed field by field.
use Rattle.std.proofs.Common.{◌≡◌, ◌≤◌, ℕ, Bool, true, false, cond, List, [], ◌∷◌, ◌||◌, codes, length, map, take, refl, ap, ◌∙◌}
use Rattle.std.proofs.lemmas.List.{take_all}
use Rattle.std.specs.Prelude.{filter, fold, nat_lt, if◌then◌else◌}
use Rattle.std.specs.Str.Parse.{digits_value}
use Rattle.httparse.specs.Spans.{header_bytes}
use Rattle.httparse.specs.declared.spans.HeaderSpan.{HeaderSpan}
use Rattle.desk_engine.specs.Told.{longest_message}
use Rattle.desk_http.specs.declared.fields.BodyLength.{BodyLength}
use Rattle.desk_http.specs.declared.fields.BodyLength.TheVariants.{Absent, Number, TooLong, Bad}
use Rattle.desk_http.specs.Fields.{NamedValue, body_length, has_field, is_named, is_number, length_by, length_of, values_of}
use Rattle.desk_http.specs.steps.Fields.{length_after, length_so_far, length_with, named_so_far, or_named}

-- ---- a field of a name

named-from : (name : List ℕ) (so_far : Bool) (fields : List NamedValue) → fold (or_named name) so_far fields ≡ (so_far || has_field name fields)
named-from name true [] = refl
named-from name false [] = refl
named-from name true (field ∷ fields) = named-from name true fields
named-from name false (field ∷ fields) = named-from name (is_named name field) fields

-- once all fields are gone through
pub named_by_all : (name octets : List ℕ) (headers : List HeaderSpan) (n : ℕ) → length headers ≤ n
    → named_so_far name (map (header_bytes octets) (take n headers)) ≡ has_field name (map (header_bytes octets) headers)
named_by_all name octets headers n all =
    ap (λ taken. named_so_far name (map (header_bytes octets) taken)) (take_all n headers all) ∙ named-from name false (map (header_bytes octets) headers)

-- ---- a length

no_length-with : (number more : Bool) (n : ℕ) (length : BodyLength) → length_with (if number then (if more then TooLong else Number n) else Bad) length ≡ Bad
no_length-with true true n length = refl
no_length-with true false n length = refl
no_length-with false more n length = refl

-- a length after another is bad
after-length : (text : List ℕ) (length : BodyLength) → length_with (length_of text) length ≡ Bad
unfolding length_of
after-length text length = no_length-with (is_number text) (nat_lt longest_message (digits_value 10 text)) (digits_value 10 text) length

bad-stays : (lengths : List BodyLength) → fold length_with Bad lengths ≡ Bad
bad-stays [] = refl
bad-stays (length ∷ lengths) = bad-stays lengths

by-values : (values : List (List ℕ)) → fold length_with Absent (map length_of values) ≡ length_by values
by-values [] = refl
by-values (value ∷ []) = refl
by-values (value ∷ other ∷ more) =
    ap (λ l. fold length_with l (map length_of more)) (after-length value (length_of other)) ∙ bad-stays (map length_of more)

-- the lengths of these fields, in their order
abbrev lengths_of : List NamedValue → List BodyLength
lengths_of fields = map length_of (map (λ field. field.1) fields)

one-more : (b : Bool) (so_far : BodyLength) (field : NamedValue) (fields named : List NamedValue)
    → ((l : BodyLength) → fold length_after l fields ≡ fold length_with l (lengths_of named))
    → fold length_after (if b then length_with so_far (length_of field.1) else so_far) fields
    ≡ fold length_with so_far (lengths_of (cond b (field ∷ named) named))
one-more true so_far field fields named more = more (length_with so_far (length_of field.1))
one-more false so_far field fields named more = more so_far

length-from : (so_far : BodyLength) (fields : List NamedValue)
    → fold length_after so_far fields ≡ fold length_with so_far (map length_of (values_of (codes "content-length") fields))
length-from so_far [] = refl
length-from so_far (field ∷ fields) =
    one-more (is_named (codes "content-length") field) so_far field fields (filter (is_named (codes "content-length")) fields) (λ l. length-from l fields)

length_whole : (fields : List NamedValue) → length_so_far fields ≡ body_length fields
length_whole fields = length-from Absent fields ∙ by-values (values_of (codes "content-length") fields)

-- once all fields are gone through
pub length_by_all : (octets : List ℕ) (headers : List HeaderSpan) (n : ℕ) → length headers ≤ n
    → length_so_far (map (header_bytes octets) (take n headers)) ≡ body_length (map (header_bytes octets) headers)
length_by_all octets headers n all =
    ap (λ taken. length_so_far (map (header_bytes octets) taken)) (take_all n headers all) ∙ length_whole (map (header_bytes octets) headers)
