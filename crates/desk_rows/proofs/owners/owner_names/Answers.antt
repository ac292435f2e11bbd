-- The rows of the owners ordered by name are the names ordered by octets.
use Rattle.desk_rows.proofs.ListedQueries.{reads_owners}
use Rattle.desk_rows.proofs.owners.owner_names.Goals as goal

pub returns : goal.returns
returns g c = reads_owners c.find_all.ensures c.owner_names_text.ensures
