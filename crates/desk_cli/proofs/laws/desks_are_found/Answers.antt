-- What a connection shows of its files when they are opened is all committed, so the desk in them is the connection's.
use Rattle.sqlite_store.specs.Laws.{settled_at}
use Rattle.desk_cli.proofs.InFiles.{found}
use Rattle.desk_cli.proofs.laws.desks_are_found.Goals as goal

pub returns : goal.returns
returns g c = λ octets conn shows clean config heard held.
    let shown = shows clean in
    found octets conn shown.0 shown.1 (settled_at conn.store g.met.D.Disk.seen_may_stay) config heard held
