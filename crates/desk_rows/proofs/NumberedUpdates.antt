-- If a list has an item with a number, only that one of its numbered items passes the test for the number.
use Rattle.std.proofs.Common.{◌≡◌, inl, inr, ℕ, ◌==◌, List, [], ◌∷◌, filter, option_map, Some, sym, ap, ◌∙◌}
use Rattle.registry_core.specs.Numbered.{item_at}
use Rattle.desk_rows.proofs.Ordered.{zip_from, find_head, found_number, head}
use Rattle.desk_rows.proofs.UpdateLemmas.{AreFew, few_numbers}

-- the row with this number is the one that passes
pub one_numbered : {X : Type 0} (n : ℕ) (xs : List X) (x : X) → item_at xs n ≡ Some x → filter (λ (b : ℕ × X). b.0 == n) (zip_from 1 xs) ≡ (n, x) ∷ []
one_numbered {X} n xs x there = go (few_numbers n 1 xs)
  where
    passing : List (ℕ × X)
    passing = filter (λ (b : ℕ × X). b.0 == n) (zip_from 1 xs)

    first : head passing ≡ Some (n, x)
    first = find_head (λ (b : ℕ × X). b.0 == n) (zip_from 1 xs) ∙ found_number n xs ∙ ap (option_map (λ x. (n, x))) there

    go : AreFew passing → passing ≡ (n, x) ∷ []
    go (inl none) = absurd (let e = sym (ap head none) ∙ first in cc)
    go (inr one) = let e = sym (ap head one.1) ∙ first in let same : one.0 ≡ (n, x) = cc in one.1 ∙ ap (λ b. b ∷ []) same
