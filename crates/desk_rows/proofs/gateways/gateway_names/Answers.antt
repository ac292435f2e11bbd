-- The rows of the gateways ordered by name are the names ordered by octets.
use Rattle.desk_rows.proofs.ListedQueries.{reads_gateways}
use Rattle.desk_rows.proofs.gateways.gateway_names.Goals as goal

pub returns : goal.returns
returns g c = reads_gateways c.find_all.ensures c.gateway_names_text.ensures
