-- What the tests of a WHERE and the keys of an index mean for rows, and how a value is stored unchanged.
use Rattle.std.proofs.Common.{◌≡◌, ◌<◌, ◌^◌, ℕ, ℤ, pos, List, Bool, true, false, ◌&&◌, ◌==◌, refl, sym, ap, ◌∙◌}
use Rattle.std.specs.Int.{from_be_bytes, to_be_bytes, w64}
use Rattle.std.specs.Ordering.{is_eq, int_eq}
use Rattle.std.specs.Bool.{one_answer}
use Rattle.std.specs.Str.{bytes_eq}
use Rattle.std.proofs.lemmas.Bool.Decides.{Decides-int_eq, Decides-eqb}
use Rattle.std.proofs.lemmas.Slice.Eq.{bytes_eq-Decides}
use Rattle.std.proofs.lemmas.Map.Text.{is_eq-slice_cmp}
use Rattle.std.proofs.lemmas.Nat.{from_be_bytes-to_be_bytes_8}
use Rattle.sqlite_value.specs.declared.value.Value.TheVariants.{Blob}
use Rattle.sqlite_value.specs.declared.value.Value.{Value}
use Rattle.sqlite_value.specs.declared.keys.Collation.TheVariants.{Binary}
use Rattle.sqlite_value.proofs.OrderLemmas.{value_cmp-Int, value_cmp-Blob}
use Rattle.sqlite_sql.specs.declared.ops.BinaryOp.TheVariants.{Compare}
use Rattle.sqlite_sql.specs.declared.ops.CompareOp.TheVariants.{Eq}
use Rattle.sqlite_sql.specs.Ops.{is_true, binary}
use Rattle.desk_rows.specs.Rows.{eui, number}
use Rattle.desk_rows.proofs.ReadLemmas.{truth_again}
pub use Rattle.desk_rows.proofs.ReadLemmas.{text_equal}
pub use Rattle.desk_rows.specs.steps.Texts.{is}

-- two values are the same, to SQL
abbrev pub same : Value → Value → Bool
same a b = is_true (binary (Compare Eq Binary) a b)

pub and_true : (b : Bool) → (b && true) ≡ b
and_true true = refl
and_true false = refl

same_numbers : (a b : ℕ) → int_eq (pos a) (pos b) ≡ (a == b)
same_numbers a b = one_answer {P = a ≡ b} _ _ (λ t. let e : ◌≡◌ {A = ℤ} (pos a) (pos b) = (Decides-int_eq (pos a) (pos b)).0 t in cc, λ e. (Decides-int_eq (pos a) (pos b)).1 (ap pos e)) (Decides-eqb a b)

pub number_equal : (a b : ℕ) → same (number a) (number b) ≡ (a == b)
unfolding binary
number_equal a b = truth_again _ ∙ ap is_eq (value_cmp-Int (pos a) (pos b)) ∙ same_numbers a b

blob_equal : (x y : List ℕ) → same (Blob x) (Blob y) ≡ bytes_eq x y
unfolding binary
blob_equal x y = truth_again _ ∙ ap is_eq (value_cmp-Blob x y) ∙ is_eq-slice_cmp x y

pub eui_again : (a b : ℕ) → a < 2 ^ 64 → b < 2 ^ 64 → to_be_bytes w64 a ≡ to_be_bytes w64 b → a ≡ b
eui_again a b low small e = sym (from_be_bytes-to_be_bytes_8 a low) ∙ ap (from_be_bytes w64) e ∙ from_be_bytes-to_be_bytes_8 b small

pub eui_equal : (a b : ℕ) → a < 2 ^ 64 → b < 2 ^ 64 → same (eui a) (eui b) ≡ (a == b)
eui_equal a b low small = blob_equal (to_be_bytes w64 a) (to_be_bytes w64 b)
    ∙ one_answer {P = a ≡ b} _ _ (λ t. eui_again a b low small ((bytes_eq-Decides _ _).0 t), λ e. (bytes_eq-Decides _ _).1 (ap (to_be_bytes w64) e)) (Decides-eqb a b)
