-- A name is ASCII, and so it is UTF-8.
use Rattle.std.proofs.Common.{◌≡◌, ℕ, zero, suc, ◌<◌, List, [], ◌∷◌, true, IsUtf8, arith, refl, Result, Ok, Err, IsOk, MatchResult}
use Rattle.std.proofs.lemmas.Bool.{and_parts}
use Rattle.std.proofs.lemmas.Bool.Decides.{nat_tests}
use Rattle.std.proofs.lemmas.Str.{IsUtf8-from_ascii}
use Rattle.std.specs.Str.{IsAscii}
use Rattle.std.specs.List.{list_all}
use Rattle.radio_core.specs.Names.{is_name, is_name_octet}

name_octet_small : (c : ℕ) → is_name_octet c ≡ true → c < 128
name_octet_small c h = grind (arith, nat_tests)

are_ascii : (text : List ℕ) → list_all is_name_octet text ≡ true → IsAscii text
are_ascii [] h i = omega arith
are_ascii (c ∷ text) h zero = name_octet_small c (and_parts _ _ h).0
are_ascii (c ∷ text) h (suc i) = are_ascii text (and_parts _ _ h).1 i

pub IsUtf8-name : (text : List ℕ) → is_name text ≡ true → IsUtf8 text
IsUtf8-name text h = IsUtf8-from_ascii text (are_ascii text (and_parts _ _ h).1)

-- what is refused only if a fact is false succeeds if it is true
pub ok_where : {T E : Type 0} (U : Type 0) (P : T → Type 0) (Q : E → Type 0) (r : Result T E) → MatchResult r P (λ e. (U → ⊥) × Q e) → U → IsOk r
ok_where U P Q (Ok x) h u = refl
ok_where U P Q (Err e) h u = absurd (h.0 u)
