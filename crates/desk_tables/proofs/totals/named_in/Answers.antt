-- The last row numbers of senders, owners and gateways are how many of each the registry has.
use Rattle.desk_tables.proofs.CallLemmas.{asks_also, asks_as, asks_one}
use Rattle.desk_tables.proofs.HaveItLemmas.{gateways_many, owners_many, senders_many}
use Rattle.desk_tables.proofs.totals.named_in.Goals as goal

pub returns : goal.returns
returns g c = asks_as _
    (asks_also (asks_also (asks_one c.in_ok-senders.ensures) (asks_one c.in_ok-owners.ensures)) (asks_one c.in_ok-gateways.ensures))
    (λ r of. of) (λ r of told config kept tell. (
      senders_many r config kept _ _ tell told.0.0 c.or_none.ensures,
      owners_many r config kept _ _ tell told.0.1 c.or_none-2.ensures,
      gateways_many r config kept _ _ tell told.1 c.or_none-3.ensures,
    )) (λ r of may told. tt)
