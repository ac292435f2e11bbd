-- The rows with this DevEUI, ordered by number, give the device's sessions from the oldest to the latest.
use Rattle.desk_rows.proofs.SessionNumbers.{reads_sessions}
use Rattle.desk_rows.proofs.sessions.sessions_of.Goals as goal

pub returns : goal.returns
returns g c = reads_sessions c.sessions_text.ensures c.args.device c.octets_of-octets.ensures.range (rw (c.blob.ensures, c.octets_of-octets.ensures.same) at c.find_all.ensures)
