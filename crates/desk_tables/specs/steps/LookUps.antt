-- What rows show of the facts and entries that they represent.
use Rattle.std.specs.Prelude.{◌≡◌, ◌≤◌, length, map}
use Rattle.registry_core.specs.Heard.{most_heard}
use Rattle.registry_core.specs.Settings.{Settings}
use Rattle.desk_store.specs.Kept.{Kept}
use Rattle.desk_rows.specs.Rows.{InRange, Rows}
use Rattle.desk_rows.specs.order.RowsOf.{AreRowsOf}
use Rattle.desk_tables.specs.InOrder.{entry_in}

-- the rows are those of these facts and entries, in their ranges, and there are no more entries than there may be
pub record RowsTell (c : Settings) (kept : Kept) (r : Rows) : Type 0 where
  pub are : AreRowsOf c kept.facts r
  pub entries : kept.entries ≡ map entry_in r.replies
  pub in_range : InRange r
  pub few : length kept.entries ≤ most_heard

-- `P` is true of whatever the rows represent
abbrev pub OfKept : {T : Type 0} → (Kept → T → Type 0) → Rows → T → Type 0
OfKept P r x = (c : Settings) (kept : Kept) → RowsTell c kept r → P kept x
