-- What a store represents is unique, so it is the registry after the log, which satisfies the rules.
use Rattle.desk_engine.proofs.KeptAfter.{holds_rules}
use Rattle.desk_engine.proofs.laws.stores_keep_rules.Goals as goal

pub returns : goal.returns
returns g c = holds_rules g.K.Looks.meaning g.met.K.Keeper.one c.rules_are_kept.ensures
