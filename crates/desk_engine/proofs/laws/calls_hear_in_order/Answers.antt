-- Three cases of what calls add to the log: one call after another, calls that only read, and no call.
use Rattle.desk_engine.proofs.Hearings.{hears_then, no_call_hears_nothing, reads_hear_nothing}
use Rattle.desk_engine.proofs.laws.calls_hear_in_order.Goals as goal

pub returns-clause-order : goal.returns-clause-order
returns-clause-order g c = hears_then g.K.Looks.meaning

pub returns-clause-reads : goal.returns-clause-reads
returns-clause-reads g c = reads_hear_nothing g.K.Looks.meaning c.stores_keep_rules.ensures

pub returns-clause-none : goal.returns-clause-none
returns-clause-none g c = no_call_hears_nothing g.K.Looks.meaning c.stores_keep_rules.ensures
