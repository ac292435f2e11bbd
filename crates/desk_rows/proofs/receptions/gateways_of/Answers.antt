-- The gateways in the rows of the uplink's receptions come ordered by their octets, because the statement orders by name.
use Rattle.desk_rows.proofs.ListedQueries.{reads_receptions}
use Rattle.desk_rows.proofs.receptions.gateways_of.Goals as goal

pub returns : goal.returns
returns g c = reads_receptions c.args.uplink (rw (c.json_integer.ensures.same) at c.find_all.ensures) c.gateways_text.ensures
