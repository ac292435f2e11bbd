-- The first of the device's sessions in falling order of nonces has the greatest nonce.
use Rattle.desk_rows.proofs.Latest.{reads_last_nonce}
use Rattle.desk_rows.proofs.sessions.last_nonce.Goals as goal

pub returns : goal.returns
returns g c = reads_last_nonce c.args.device c.octets_of-octets.ensures.range (rw (c.blob.ensures, c.octets_of-octets.ensures.same) at c.find.ensures)
