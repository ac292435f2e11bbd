-- The map of receptions with one more entry is the state after `AddsReception`; its other members don't change.
use Rattle.std.proofs.Common.{ap}
use Rattle.desk_store.specs.Facts.{facts_of}
use Rattle.desk_store.proofs.Keyed.{receptions_with-updated}
use Rattle.desk_store.proofs.facts.Facts.add_reception.Goals as goal

pub returns-clause-ok : goal.returns-clause-ok
returns-clause-ok c =
    ap (λ receptions. record (facts_of c.args.self.now) { receptions = receptions })
    (receptions_with-updated c.args.self.now.receptions c.insert.new.self _ _ _ c.in_ok-insert.ensures.updates)
