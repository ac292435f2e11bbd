-- An unknown owner is answered with status 404; the search proves the other errors.
use Rattle.desk_http.proofs.serving.write_fault.Goals as goal

pub returns-in-Owner : goal.returns-in-Owner
returns-in-Owner g c = rw c.in-Owner.is c.refuse-in-Owner.ensures
