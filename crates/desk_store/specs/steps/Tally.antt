-- Counts by number.
use Rattle.std.specs.Prelude.{ℕ, nat_eq}
use Rattle.std.specs.Option.{unwrap_or}
use Rattle.indexmap.specs.IndexMap.{get}
use Rattle.desk_store.specs.declared.tally.Tally.{Tally}

-- the number's count, 0 if none was set
abbrev pub tallied : Tally → ℕ → ℕ
tallied tally number = unwrap_or (get nat_eq tally.counts number) 0
