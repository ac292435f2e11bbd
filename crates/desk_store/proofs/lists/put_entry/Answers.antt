-- A new key comes last in the map, so the entry is the last of the log.
use Rattle.desk_store.proofs.Entries.{entry_put}
use Rattle.desk_store.proofs.lists.put_entry.Goals as goal

pub returns-clause-ok : goal.returns-clause-ok
returns-clause-ok c = λ new. entry_put c.args.envelope.now c.args.entries.now c.insert.new.self.entries c.args.texts c.in_ok-insert.ensures.entries new
