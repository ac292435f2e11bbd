-- What the query on the row of meta returns.
use Rattle.std.specs.Prelude.{◌≡◌, ℤ, pos}
use Rattle.registry_core.specs.Settings.{Settings}
use Rattle.sqlite_value.specs.declared.value.Value.TheVariants.{Int, Text}
use Rattle.sqlite_value.specs.Order.{Row, column}
use Rattle.desk_rows.specs.Meta.{IsConfig}

-- the row that the query returns is in form
pub record TellsRow (row : Row) (version : ℤ) (c : Settings) : Type 0 where
  pub id : column row 0 ≡ Int (pos 1)
  pub version_is : column row 1 ≡ Int version
  pub receiver : column row 2 ≡ Text c.receiver
  pub operator : column row 3 ≡ Text c.operator
  pub base : column row 4 ≡ Int (pos c.base)
  pub addresses : column row 5 ≡ Int (pos c.addresses)
  pub config : IsConfig c
