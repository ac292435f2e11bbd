-- Three ways out: the store is failed, the log is full, or the transaction ended and its result is noted.
use Rattle.std.proofs.Common.{arith}
use Rattle.desk_tables.proofs.NotedCommits.{commit_noted}
use Rattle.desk_tables.proofs.RefusedCommits.{commit_failed, commit_full}
use Rattle.desk_tables.proofs.tables.Tables.commit_message.Goals as goal

pub returns-then-self : goal.returns-then-self
returns-then-self g c = commit_failed g.S.Store c.args.self.now _ _ _ _ c.if-self.true

pub returns-then-self-2 : goal.returns-then-self-2
returns-then-self-2 g c = commit_full g.S.Store c.args.self.now _ _ _ _ c.if-self.false g.met.S.Store.settled c.if-self-2.true

pub returns : goal.returns
returns g c = commit_noted g.S.Store c.args.self.now _ _ _ _ c.if-self.false (omega (arith, c.if-self-2.false)) c.rows_follow_facts.ensures c.keys_are_free.ensures
    c.changed_rows_are_there.ensures g.met.S.Store.settled c.commit_rows-done.new.conn c.note_outcome.new.self c.commit_rows-done.result c.note_outcome.result
    c.commit_rows-done.ensures c.note_outcome.ensures
