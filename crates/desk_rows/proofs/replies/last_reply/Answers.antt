-- The greatest number in the log is its length, in the tables of schema 1 too.
use Rattle.desk_rows.proofs.DeskTables.{everything, reads_first, reads_number, refl, replies, understood}
use Rattle.desk_rows.proofs.replies.last_reply.Goals as goal

pub returns-clause-second : goal.returns-clause-second
unfolding understood everything
returns-clause-second g c = reads_number replies (refl, refl) c.find.ensures

pub returns-clause-first : goal.returns-clause-first
unfolding understood everything
returns-clause-first g c = reads_first replies (λ db r has. has.ten.reply) refl (refl, refl) c.find.ensures
