-- The loop over the rows of a query: the values so far are those of the rows that were read.
use Rattle.std.proofs.Common.{◌≡◌}
use Rattle.sqlite.specs.Values.{bound}
use Rattle.desk_rows.specs.steps.Queries.{AreRead, IsGiving}
use Rattle.desk_rows.proofs.queries.find_all.Given as goal

abbrev pub invariant-rows : goal.invariant-rows
invariant-rows g l =
    (l.rows.conn.ghost_name ≡ l.initial.rows.conn.ghost_name)
    × IsGiving g.S.Store l.sql (bound l.params) l.fn.conn l.rows.conn.now
    (λ given. AreRead g.T.FromRow.seen g.T.FromRow.shows g.T.FromRow.InRange given l.all.items)
