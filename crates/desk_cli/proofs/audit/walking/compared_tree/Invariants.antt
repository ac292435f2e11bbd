-- The loop of `compared_tree`: both stores are at the same place of the tree, and the rows before it are the same.
use Rattle.std.proofs.Common.{◌≡◌, take}
use Rattle.sqlite_trees.specs.View.{IsClean}
use Rattle.desk_cli.proofs.Walked.{IsAt}
use Rattle.desk_cli.proofs.audit.walking.compared_tree.Given as goal

abbrev pub invariant-rows : goal.invariant-rows
invariant-rows g l = record {
  one : IsAt (g.A.Store.view l.fn.one) (g.A.Store.view l.one) l.tree l.place;
  other : IsAt (g.B.Store.view l.fn.other) (g.B.Store.view l.other) l.tree l.place;
  front : IsClean (g.A.Store.view l.one) → IsClean (g.B.Store.view l.other)
      → take l.place ((g.A.Store.view l.fn.one).trees l.tree) ≡ take l.place ((g.B.Store.view l.fn.other).trees l.tree);
}
