-- The lines of the entries that the store represents are those of the messages in the log.
use Rattle.std.proofs.Common.{subst}
use Rattle.desk_engine.specs.Log.{LogEndBy}
use Rattle.desk_engine.specs.InOrder.{kept_after}
use Rattle.desk_engine.proofs.LogEnds.{lines_of}
use Rattle.desk_engine.proofs.log.write_log.Goals as goal

pub returns-clause-written : goal.returns-clause-written
returns-clause-written g c = λ s heard was.
    subst (λ lines. LogEndBy lines (g.W.Write.contents c.args.writer.now) (g.W.Write.contents c.write_entries.new.writer) c.write_entries.result)
    (lines_of c.args.which s heard c.args.from c.args.most) (c.write_entries.ensures.written (kept_after s heard) was.sound was.order.kept)
