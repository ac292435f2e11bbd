-- A value read from a place of a row: at most one value fits what is stored there, and none fits a null.
use Rattle.std.proofs.Common.{◌≡◌, ◌<◌, inl, inr, ℕ, ℤ, pos, List, length, Result, Ok, Err, OnErr, true≢false, sym, ◌∙◌}
use Rattle.std.specs.Prelude.{OnOk}
use Rattle.std.specs.Result.{IsErr}
use Rattle.std.proofs.lemmas.Bool.{cases_lt}
use Rattle.std.proofs.lemmas.List.{get_or_past}
use Rattle.sqlite_value.specs.declared.value.Value.{Value}
use Rattle.sqlite_value.specs.declared.value.Value.TheVariants.{Blob, Int, Null, Text}
use Rattle.sqlite_value.specs.Order.{Row, column}
use Rattle.desk_rows.specs.declared.faults.RowFault.{RowFault}
use Rattle.desk_rows.specs.steps.Errors.{Decodes, ReadsAt}

within : (row : Row) (at : ℕ) → ¬ (column row at ≡ Null) → at < length row
within row at some = elim (cases_lt at (length row)) [ inl below ↦ below | inr past ↦ absurd (some (get_or_past row at Null past)) ]

-- what was to be read at it isn't there
pub unread : {T : Type 0} (shows : T → Value) (InRange : T → Type 0) (row : Row) (at : ℕ) (fault : RowFault) (x : T) → ReadsAt shows InRange row at (Err fault)
    → InRange x → ¬ (shows x ≡ Null) → ¬ (column row at ≡ shows x)
unread {T} shows InRange row at fault x reads fits some is =
    let no : (let told : Result T RowFault = Err fault in told) ≡ Ok x = reads x fits is (within row at (λ none. some (sym is ∙ none))) in cc

pub integer_is_some : (n : ℤ) → ¬ (Int n ≡ Null)
integer_is_some n is = cc

pub text_is_some : (octets : List ℕ) → ¬ (Text octets ≡ Null)
text_is_some octets is = cc

pub same_integer : (row : Row) (at : ℕ) (m n : ℤ) → column row at ≡ Int m → column row at ≡ Int n → m ≡ n
same_integer row at m n one two = let same : Int m ≡ Int n = sym one ∙ two in cc

pub same_number : (m n : ℕ) → pos m ≡ pos n → m ≡ n
same_number m n same = cc

pub octets_are_some : (octets : List ℕ) → ¬ (Blob octets ≡ Null)
octets_are_some octets is = cc

-- the row shows no such value
pub decodes_none : {T Seen : Type 0} (seen : T → Seen) (shows : Seen → Row) (InRange : Seen → Type 0) (row : Row) (result : Result T RowFault) → IsErr result
    → ((y : Seen) → InRange y → ¬ (row ≡ shows y)) → Decodes seen shows InRange row result
decodes_none seen shows InRange row (Ok x) failed never = absurd (true≢false (sym failed))
decodes_none seen shows InRange row (Err fault) failed never = λ y fits is. absurd (never y fits is)

-- ---- whatever the answer is

module _ {T : Type 0} {P : Type 0} where
  pub on_ok : (result : Result T RowFault) → P → OnOk result P
  on_ok (Ok x) so = so
  on_ok (Err fault) so = tt

  pub on_err : (result : Result T RowFault) → P → OnErr result P
  on_err (Ok x) so = tt
  on_err (Err fault) so = so
