-- The numbers of devices and limits are read as those of names are; the other counts are the store's own.
use Rattle.desk_tables.proofs.CallLemmas.{asks_also, asks_as, asks_one}
use Rattle.desk_tables.proofs.HaveItLemmas.{devices_many, limits_many}
use Rattle.desk_tables.proofs.totals.totals_in.Goals as goal

pub returns : goal.returns
returns g c = asks_as _
    (asks_also (asks_also c.in_ok-senders.ensures (asks_one c.in_ok-devices.ensures)) (asks_one c.in_ok-limits.ensures))
    (λ r of. of) (λ r of told config kept tell counts heard. let named = told.0.0 config kept tell in record {
      senders = named.0;
      owners = named.1;
      gateways = named.2;
      devices = devices_many r config kept _ _ tell told.0.1 c.or_none.ensures;
      limits = limits_many r config kept _ _ tell told.1 c.or_none-2.ensures;
      numbered = counts;
      replies = heard;
    }) (λ r of may told. tt)
