-- What `audited` promises of its finding, with the line that is printed for it, is what the command promises.
use Rattle.desk_cli.proofs.AuditPrinted.{audits_by, on_nothing}
use Rattle.desk_cli.proofs.commands.auditing.print_audit.Goals as goal

pub returns : goal.returns
returns g c =
    let found = c.audited-found.ensures in
    audits_by _ _ g.S.Store c.args.conn (Unit {0}) c.audited-found.result.1 c.audited-found.result.0 c.print_finding.result c.print_finding.ensures
    (on_nothing g.S.Store c.audited-found.result.1 c.audited-found.result.0 found.passes) found.refused found.never found.unavailable found.kept found.gone
