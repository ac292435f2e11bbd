-- Decimal digits, as std reads them.
use Rattle.std.proofs.Common.{◌≡◌, ◌≢◌, ℕ, Bor, ◌<◌, ◌≤◌, ◌^◌, List, [], ◌∷◌, true, Result, Ok, Err, Some, None, Option, length, subst, lit<, arith, refl}
use Rattle.std.proofs.Math.Nat.{pow-le-pow_right}
use Rattle.std.proofs.lemmas.Bool.{and_parts}
use Rattle.std.proofs.lemmas.Bool.Decides.{nat_tests}
use Rattle.std.proofs.lemmas.Int.Digits.{digits_value-lt}
use Rattle.std.proofs.lemmas.Str.{IsUtf8-from_ascii}
use Rattle.std.proofs.lemmas.Str.Ascii.{IsAscii-cons, IsAscii-nil}
use Rattle.std.proofs.lemmas.Str.Parse.{without_leading_plus_none}
use Rattle.std.specs.Char.{digit_value, is_ascii_digit}
use Rattle.std.specs.List.{list_all}
use Rattle.std.specs.Prelude.{IsUtf8, MatchResult}
use Rattle.std.specs.Result.{result_ok}
use Rattle.std.specs.Str.{IsAscii}
use Rattle.std.specs.Str.Parse.{AllDigits, ParsesUnsigned, without_leading_plus}
use Rattle.desk_wire.specs.Decimals.{decimal_in, is_decimal}

digit : (c : ℕ) → is_ascii_digit c ≡ true → digit_value c < 10
digit c h = grind (arith, nat_tests)

ascii : (c : ℕ) → is_ascii_digit c ≡ true → c < 128
ascii c h = grind (arith, nat_tests)

are_digits : (text : List ℕ) → list_all is_ascii_digit text ≡ true → AllDigits 10 text
are_digits [] h = tt
are_digits (c ∷ text) h = (digit c (and_parts _ _ h).0, are_digits text (and_parts _ _ h).1)

are_ascii : (text : List ℕ) → list_all is_ascii_digit text ≡ true → IsAscii text
are_ascii [] h = IsAscii-nil
are_ascii (c ∷ text) h = IsAscii-cons c text (ascii c (and_parts _ _ h).0) (are_ascii text (and_parts _ _ h).1)

pub decimal_utf8 : (text : List ℕ) → is_decimal text ≡ true → IsUtf8 text
decimal_utf8 text h = IsUtf8-from_ascii text (are_ascii text (and_parts _ _ h).1)

-- a sign is no digit
no_sign : (c : ℕ) → digit_value c < 10 → c ≢ 43
no_sign c h = grind (arith, nat_tests)

no_plus : (text : List ℕ) → AllDigits 10 text → without_leading_plus text ≡ text
no_plus [] h = refl
no_plus (c ∷ text) h = without_leading_plus_none (c ∷ text) (no_sign c h.0)

-- sixteen digits write a number of 64 bits
sixteen : (v n : ℕ) → n ≤ 16 → v < 10 ^ n → v < 2 ^ 64
sixteen v n few below = omega (arith, below, pow-le-pow_right {n = 10} (lit< tt) few)

some_digit : (text : List ℕ) → is_decimal text ≡ true → 0 < length text
some_digit text h = grind (arith, nat_tests)

few_digits : (text : List ℕ) → is_decimal text ≡ true → length text ≤ 16
few_digits text h = grind (arith, nat_tests)

pub decimal_parses : {E : Type 0} (text : List ℕ) (r : Result ℕ E) → is_decimal text ≡ true → ParsesUnsigned 64 10 text r → result_ok r ≡ decimal_in text
unfolding decimal_in
decimal_parses text (Ok n) h parses =
    let all = are_digits text (and_parts _ _ h).1 in
    let fits = rw (no_plus text all) at parses in
    rw (fits.1, h) refl
decimal_parses text (Err e) h parses =
    let all = are_digits text (and_parts _ _ h).1 in
    let refused = rw (no_plus text all) at parses in
    absurd (refused ((some_digit text h, all), sixteen _ _ (few_digits text h) (digits_value-lt 10 text all)))

-- ---- digits as text

pub reads_utf8 : {E : Type 0} (Q : E → Type 0) (text : List ℕ) (r : Result (Bor (List ℕ)) E) → is_decimal text ≡ true
    → MatchResult r (λ s. (s.now ≡ text) × IsUtf8 text) (λ e. ¬ (IsUtf8 text) × Q e) → result_ok r ≢ None
reads_utf8 Q text (Ok s) h read = λ none. cc none
reads_utf8 Q text (Err e) h read = absurd (read.0 (decimal_utf8 text h))

abbrev now_of : Option (Bor (List ℕ)) → List ℕ
now_of None = []
now_of (Some s) = s.now

pub text_read : {E : Type 0} (Q : E → Type 0) (text : List ℕ) (r : Result (Bor (List ℕ)) E) (s : Bor (List ℕ))
    → MatchResult r (λ t. (t.now ≡ text) × IsUtf8 text) (λ e. ¬ (IsUtf8 text) × Q e) → result_ok r ≡ Some s → s.now ≡ text
text_read Q text (Ok t) s read is = subst (λ (o : Option (Bor (List ℕ))). now_of o ≡ text) is read.0
text_read Q text (Err e) s read is = cc is
