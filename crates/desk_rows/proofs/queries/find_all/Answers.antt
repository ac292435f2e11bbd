-- Each row that is read is one value more; the last row ends the list, and a row that fails ends it with an error.
use Rattle.std.proofs.Common.{◌∙◌, refl, rules}
use Rattle.std.proofs.lemmas.Result.{err_from_is_err_and}
use Rattle.sqlite.specs.Values.{bound}
use Rattle.desk_rows.proofs.AllRows.{ends, fails, moves, read, unread}
use Rattle.desk_rows.proofs.queries.find_all.Goals as goal

pub returns-in_err-row : goal.returns-in_err-row
returns-in_err-row g c =
    let moved = c.next.follows.holds-at-none in
    let now = c.next.follows.lender-at-none.conn.now in
    let told = err_from_is_err_and c.from_residual-in_err-row.result c.from_residual-in_err-row.ensures.1 in
    let end = fails g.S.Store c.args.sql.now (bound c.args.params.now) c.args.conn.now
    g.T.FromRow.seen g.T.FromRow.shows g.T.FromRow.InRange _ now _ c.rows.invariant.1 moved.mode moved.survives
    c.in_err-row.field-0.0 told.0 told.2 (λ clean. rw c.in_err-row.was at (moved.err clean)) in
    rw told.1 (search rules)

pub returns-in_default : goal.returns-in_default
returns-in_default g c =
    let moved = c.next.follows.holds-at-none in
    let now = c.next.follows.lender-at-none.conn.now in
    let end = ends g.S.Store c.args.sql.now (bound c.args.params.now) c.args.conn.now
    g.T.FromRow.seen g.T.FromRow.shows g.T.FromRow.InRange _ now _ c.rows.invariant.1 moved.mode moved.survives c.rows.all refl
    (λ clean. rw (c.in_ok-row.was, c.in_default.is) at (moved.ok clean)) in
    search rules

pub returns-in_err-from_row : goal.returns-in_err-from_row
returns-in_err-from_row g c =
    let moved = c.next.follows.holds-at-none in
    let now = c.next.follows.lender-at-none.conn.now in
    let told = err_from_is_err_and c.from_residual-in_err-from_row.result c.from_residual-in_err-from_row.ensures.1 in
    let at = moves g.S.Store c.args.sql.now (bound c.args.params.now) c.args.conn.now
    g.T.FromRow.seen g.T.FromRow.shows g.T.FromRow.InRange _ now _ c.rows.invariant.1 moved.mode moved.survives
    c.in-Some.row.now (λ clean. rw (c.in_ok-row.was, c.in-Some.is) at (moved.ok clean)) (λ clean. rw c.in_ok-row.was at (moved.same clean)) in
    let end = unread g.S.Store c.args.sql.now (bound c.args.params.now) c.args.conn.now
    g.T.FromRow.seen g.T.FromRow.shows g.T.FromRow.InRange now _ _ at _
    (rw c.in_err-from_row.was at c.from_row.ensures) in
    rw (told.1, told.2) (search rules)

pub rows-preserved : goal.rows-preserved
rows-preserved g c =
    let moved = c.next.follows.holds-at-none in
    let now = c.next.follows.lender-at-none.conn.now in
    let at = moves g.S.Store c.args.sql.now (bound c.args.params.now) c.args.conn.now
    g.T.FromRow.seen g.T.FromRow.shows g.T.FromRow.InRange _ now _ c.rows.invariant.1 moved.mode moved.survives
    c.in-Some.row.now (λ clean. rw (c.in_ok-row.was, c.in-Some.is) at (moved.ok clean)) (λ clean. rw c.in_ok-row.was at (moved.same clean)) in
    let one = read g.S.Store c.args.sql.now (bound c.args.params.now) c.args.conn.now
    g.T.FromRow.seen g.T.FromRow.shows g.T.FromRow.InRange now _ _ at c.in_ok-from_row.field-0
    (rw c.in_ok-from_row.was at c.from_row.ensures) in
    (moved.same_reference ∙ c.rows.invariant.0, rw (c.push.ensures.items, c.in_ok-push.was) one)
