-- What a writing call leaves of the other tables.
use Rattle.std.specs.Prelude.{◌≡◌, ◌≢◌, ℕ}
use Rattle.std.specs.List.{AllByRecursion}
use Rattle.sqlite_trees.specs.Tree.{Trees}
use Rattle.desk_rows.specs.Schema.{desk_tables}

-- each other table of the desk is as it was
abbrev pub KeepsOthers : ℕ → Trees → Trees → Type 0
KeepsOthers tree old new = AllByRecursion (λ t. t.tree ≢ tree → new t.tree ≡ old t.tree) desk_tables
