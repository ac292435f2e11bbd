-- A name is ASCII, and so it is UTF-8. A type's name is a name.
use Rattle.std.proofs.Common.{◌≡◌, ℕ, zero, suc, ◌<◌, List, [], ◌∷◌, length, nat_le, ◌&&◌, true, IsUtf8, arith, refl}
use Rattle.std.proofs.lemmas.Bool.{and_parts}
use Rattle.std.proofs.lemmas.Bool.Decides.{nat_tests}
use Rattle.std.proofs.lemmas.Str.{IsUtf8-from_ascii}
use Rattle.std.specs.Str.{IsAscii}
use Rattle.std.specs.List.{list_all}
use Rattle.std.specs.Char.{is_ascii_alphabetic}
use Rattle.radio_core.specs.Names.{is_name, is_name_octet}
use Rattle.desk_wire.specs.TypeNames.{is_type_name}

name_octet_small : (c : ℕ) → is_name_octet c ≡ true → c < 128
name_octet_small c h = grind (arith, nat_tests)

pub are_ascii : (text : List ℕ) → list_all is_name_octet text ≡ true → IsAscii text
are_ascii [] h i = omega arith
are_ascii (c ∷ text) h zero = name_octet_small c (and_parts _ _ h).0
are_ascii (c ∷ text) h (suc i) = are_ascii text (and_parts _ _ h).1 i

pub IsUtf8-name : (text : List ℕ) → is_name text ≡ true → IsUtf8 text
IsUtf8-name text h = IsUtf8-from_ascii text (are_ascii text (and_parts _ _ h).1)

letter_in_names : (c : ℕ) → is_ascii_alphabetic c ≡ true → is_name_octet c ≡ true
letter_in_names c h = grind (arith, nat_tests)

letters_in_names : (text : List ℕ) → list_all is_ascii_alphabetic text ≡ true → list_all is_name_octet text ≡ true
letters_in_names [] h = refl
letters_in_names (c ∷ text) h = rw (letter_in_names c (and_parts _ _ h).0) (letters_in_names text (and_parts _ _ h).1)

pub type_name_is_name : (text : List ℕ) → is_type_name text ≡ true → is_name text ≡ true
type_name_is_name text h =
    let fits : (nat_le 1 (length text) && nat_le (length text) 32) ≡ true = (and_parts _ _ h).0 in
    let letters : list_all is_ascii_alphabetic text ≡ true = (and_parts _ _ h).1 in
    rw (fits, letters_in_names text letters) refl
