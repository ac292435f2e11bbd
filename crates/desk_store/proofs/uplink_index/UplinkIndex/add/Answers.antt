-- A join is noted among the first joins, and a data uplink among the first frames and the last counters.
use Rattle.std.proofs.Common.{refl}
use Rattle.std.proofs.lemmas.Result.{on_ok_weaker}
use Rattle.desk_store.proofs.Indexed.{join_noted, data_noted}
use Rattle.desk_store.proofs.uplink_index.UplinkIndex.add.Goals as goal

pub returns-in-Join-clause-noted : goal.returns-in-Join-clause-noted
returns-in-Join-clause-noted c = λ uplinks last was.
    on_ok_weaker _ (λ noted. join_noted uplinks c.args.uplink.now c.args.number last c.args.self.now _ was c.in-Join.is noted refl refl) c.add_first.ensures.noted

pub returns-in_ok-add_first-in-Data-clause-noted : goal.returns-in_ok-add_first-in-Data-clause-noted
returns-in_ok-add_first-in-Data-clause-noted c = λ uplinks last was.
    on_ok_weaker _ (λ noted. data_noted uplinks c.args.uplink.now c.args.number last c.args.self.now _ was c.in-Data.is refl c.in_ok-add_first-in-Data.ensures.noted noted) c.set_last.ensures.noted
