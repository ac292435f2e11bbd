-- What contracts see of a list with an index.
use Rattle.std.specs.Prelude.{ℕ, List}

-- the items by number, and how many more can be added with no allocation, at least
pub record Growing (X : Type 0) : Type 0 where
  pub items : List X
  pub room : ℕ
