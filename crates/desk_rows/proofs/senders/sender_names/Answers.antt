-- The rows of the senders ordered by name are the names ordered by octets.
use Rattle.desk_rows.proofs.ListedQueries.{reads_senders}
use Rattle.desk_rows.proofs.senders.sender_names.Goals as goal

pub returns : goal.returns
returns g c = reads_senders c.find_all.ensures c.sender_names_text.ensures
