-- The gateways of an uplink differ, since the keys of the receptions do.
use Rattle.desk_store.proofs.Listed.{gateways_listed}
use Rattle.desk_store.proofs.listing.gateways_of.Goals as goal

pub returns : goal.returns
returns c =
    gateways_listed c.args.receptions.now c.args.uplink c.in_ok-names.names.items c.sort_names.new.names.items c.names_of.ensures.distinct c.in_ok-names.ensures.names c.sort_names.ensures
