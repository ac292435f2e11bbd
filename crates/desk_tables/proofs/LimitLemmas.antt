-- Whether the band of a gateway has a row.
use Rattle.std.proofs.Common.{◌≡◌, ℕ, List, find, Option, Some, None, is_some, option_map, refl, sym, ◌∙◌}
use Rattle.sqlite_keyed.proofs.SliceLemmas.{any_is_found}
use Rattle.desk_rows.specs.Rows.{LimitRow, is_limit}
use Rattle.desk_rows.specs.order.Changes.{has_limit}
use Rattle.desk_rows.specs.order.Facts.{limit_found}

some_mapped : {X V : Type 0} (f : X → V) (o : Option X) → is_some (option_map f o) ≡ is_some o
some_mapped f None = refl
some_mapped f (Some x) = refl

-- a limit is found where the band has a row
pub found_there : (limits : List LimitRow) (gateway : List ℕ) (band : ℕ) → is_some (limit_found limits gateway band) ≡ has_limit gateway band limits
found_there limits gateway band = some_mapped (λ (l : LimitRow). l.limit.most) (find (is_limit gateway band) limits) ∙ sym (any_is_found (is_limit gateway band) limits)
