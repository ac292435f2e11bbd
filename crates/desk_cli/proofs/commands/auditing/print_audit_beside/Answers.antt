-- What `audited_beside` promises of its finding, with the line that is printed for it, if the scratch disk returns what was written.
use Rattle.sqlite_trees.specs.View.{IsClean}
use Rattle.desk_cli.proofs.AuditPrinted.{audits_beside_by}
use Rattle.desk_cli.proofs.commands.auditing.print_audit_beside.Goals as goal

pub returns : goal.returns
returns g c =
    let ended = c.audited_beside-ended.ensures in
    audits_beside_by _ _ g.S.Store c.args.conn (λ store. IsClean (g.B.Store.view store)) c.audited_beside-ended.result.1 c.audited_beside-ended.result.0
    c.parted-found.result.0 c.parted-found.result.1 c.print_finding.result c.parted-found.ensures.found c.parted-found.ensures.store c.print_finding.ensures
    ended.passes ended.refused ended.never ended.unavailable ended.kept ended.gone
