-- The loop of `compared_tables`: the tables so far have the same rows in both stores, which are only read.
use Rattle.std.proofs.Common.{true, take}
use Rattle.std.specs.Prelude.{All}
use Rattle.sqlite_trees.specs.View.{IsClean}
use Rattle.desk_cli.specs.steps.Audit.{HaveSame, OnlyMoves}
use Rattle.desk_cli.proofs.audit.comparing.compared_tables.Given as goal

abbrev pub invariant-tables : goal.invariant-tables
invariant-tables g l = record {
  one : OnlyMoves (g.A.Store.view l.fn.one) (g.A.Store.view l.one) true;
  other : OnlyMoves (g.B.Store.view l.fn.other) (g.B.Store.view l.other) true;
  same : IsClean (g.A.Store.view l.one) → IsClean (g.B.Store.view l.other)
      → All (HaveSame (g.A.Store.view l.fn.one).trees (g.B.Store.view l.fn.other).trees) (take l.table-index l.tables);
}
