-- Rows with the rowids 1, 2, 3 and so on: the next rowid is one more than their number, and a row with it comes last.
use Rattle.std.proofs.Common.{◌≡◌, ℕ, ◌+◌, ◌<◌, pos, ◌+ℤ◌, List, [], ◌∷◌, ◌++◌, length, fold, true, refl, ap, ◌∙◌, Less, arith, rules}
use Rattle.std.specs.Ordering.{match_ordering}
use Rattle.std.specs.Prelude.{nat_lt}
use Rattle.sqlite_value.specs.declared.value.Value.TheVariants.{Null, Int}
use Rattle.sqlite_value.specs.Order.{Row, value_cmp}
use Rattle.sqlite_value.proofs.OrderLemmas.{value_cmp-Int}
use Rattle.sqlite_trees.specs.Tree.{rowid, put_row}
use Rattle.sqlite_rules.specs.Edit.{id_in, next_rowid, with_rowid}
use Rattle.sqlite_rules.specs.declared.error.Rowids.TheVariants.{Chosen}
use Rattle.desk_rows.specs.Rows.{rowids_from}

pub ints_rise : (n m : ℕ) → n < m → value_cmp (Int (pos n)) (Int (pos m)) ≡ Less
ints_rise n m low = value_cmp-Int (pos n) (pos m) ∙ (let is : nat_lt n m ≡ true = search rules in rw is)

next_from : (n : ℕ) (xs : List Row) → fold (λ _ r. id_in (rowid r) +ℤ pos 1) (pos n) (rowids_from n xs) ≡ pos (n + length xs)
next_from n [] = ap pos (omega arith)
next_from n (x ∷ xs) = next_from (n + 1) xs ∙ ap pos (omega arith)

pub next_is : (xs : List Row) → next_rowid (rowids_from 1 xs) ≡ pos (1 + length xs)
next_is xs = next_from 1 xs

pub put_last : (n m : ℕ) (xs : List Row) (cells : Row) → m ≡ n + length xs → put_row (Int (pos m) ∷ cells) (rowids_from n xs) ≡ rowids_from n (xs ++ cells ∷ [])
put_last n m [] cells is = ap (λ k. (Int (pos k) ∷ cells) ∷ []) (omega (arith, is))
put_last n m (x ∷ xs) cells is =
    ap (λ o. match_ordering o ((Int (pos n) ∷ x) ∷ put_row (Int (pos m) ∷ cells) (rowids_from (n + 1) xs)) ((Int (pos m) ∷ cells) ∷ rowids_from (n + 1) xs) ((Int (pos m) ∷ cells) ∷ (Int (pos n) ∷ x) ∷ rowids_from (n + 1) xs)) (ints_rise n m (omega (arith, is)))
    ∙ ap (λ rows. (Int (pos n) ∷ x) ∷ rows) (put_last (n + 1) m xs cells (omega (arith, is)))

-- a row that takes the next rowid comes last
pub put_next : (xs : List Row) (cells : Row) → put_row (with_rowid Chosen (rowids_from 1 xs) (Null ∷ cells)) (rowids_from 1 xs) ≡ rowids_from 1 (xs ++ cells ∷ [])
put_next xs cells = ap (λ n. put_row (Int n ∷ cells) (rowids_from 1 xs)) (next_is xs) ∙ put_last 1 (1 + length xs) xs cells refl
