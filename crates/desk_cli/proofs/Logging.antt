-- The log of connections: its fields octet by octet, and the line that is put to it.
use Rattle.std.proofs.Common.{arith, ◌≡◌, ◌+◌, ◌<◌, ◌++◌, ◌∙◌, ℕ, List, Some, None, length, take, get_or, ap, sym}
use Rattle.std.proofs.lemmas.List.{flat_map_more, take_more}
use Rattle.std.proofs.lemmas.List.Sums.{prefix_len-le-length}
use Rattle.std.specs.List.{flat_map, position_or_len}
use Rattle.std.specs.Prelude.{Bool, nat_lt, not, if◌then◌else◌}
use Rattle.desk_cli.specs.ConnectionLog.{octet_field}

-- the place of the first that passes, where one does, and the length where none does
pub found_at : {X : Type 0} (p : X → Bool) (xs : List X) (end : ℕ) → Some end ≡ (if nat_lt (position_or_len p xs) (length xs) then Some (position_or_len p xs) else None) → end ≡ position_or_len p xs
found_at p xs end is = grind (arith, is)

pub found_none : {X : Type 0} (p : X → Bool) (xs : List X) → None ≡ (if nat_lt (position_or_len p xs) (length xs) then Some (position_or_len p xs) else None) → length xs ≡ position_or_len p xs
found_none p xs is = let within = prefix_len-le-length (λ x. not (p x)) xs in grind (arith, is, within)

-- one octet more
pub more_octets : (before now after text : List ℕ) (i d : ℕ) → i < length text → now ≡ before ++ flat_map octet_field (take i text) → after ≡ now ++ octet_field (get_or text i d)
    → after ≡ before ++ flat_map octet_field (take (i + 1) text)
more_octets before now after text i d within so_far more =
    more ∙ ap (λ l. l ++ octet_field (get_or text i d)) so_far ∙ flat_map_more octet_field before (take i text) (get_or text i d)
    ∙ ap (λ l. before ++ flat_map octet_field l) (sym (take_more text i d within))
