-- A month as a text, and when it begins and ends.
use Rattle.std.specs.Prelude.{◌≡◌, ℕ, ◌+◌, ◌*◌, ◌/◌, ◌%◌, List, [], ◌∷◌, ◌++◌, ℤ, pos, ◌+ℤ◌, ◌*ℤ◌, codes}
use Rattle.std.specs.Int.{IsInRange}
use Rattle.jiff.specs.Words.{IsYmd, days_in_month, epoch_day}

-- two decimal digits
abbrev pub two_digits : ℕ → List ℕ
two_digits n = (48 + n / 10) ∷ (48 + n % 10) ∷ []

-- YYYY-MM
abbrev pub month_text : ℕ → ℕ → List ℕ
month_text year month = two_digits (year / 100) ++ two_digits (year % 100) ++ codes "-" ++ two_digits month

-- the microseconds of a day
abbrev pub day_length : ℕ
day_length = 86400000000

-- the month's first day begins at this time, in microseconds since 1970 UTC
abbrev pub BeginsAt : ℕ → ℕ → ℤ → Type 0
BeginsAt year month time = (first : _) × IsYmd (pos year) (pos month) (pos 1) first × (time ≡ epoch_day first *ℤ pos day_length)

-- The text is a month from 2000-01 to 2099-12 (this project's range). The month begins at `from` and ends before `to`.
pub record IsMonth (text : List ℕ) (from to : ℤ) : Type 0 where
  pub year : ℕ
  pub month : ℕ
  pub in_years : IsInRange 2000 2099 year
  pub in_months : IsInRange 1 12 month
  pub text_is : text ≡ month_text year month
  pub begins : BeginsAt year month from
  pub ends : to ≡ from +ℤ pos (days_in_month (pos year) month * day_length)

-- if the text is a month, `P` is true of when it begins and ends
abbrev pub ForMonth : List ℕ → (ℤ → ℤ → Type 0) → Type 0
ForMonth text P = (from to : ℤ) → IsMonth text from to → P from to
