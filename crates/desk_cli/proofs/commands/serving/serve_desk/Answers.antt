-- Either the desk opened and served connections, or it was unavailable and nothing was served or written.
use Rattle.std.proofs.Common.{refl}
use Rattle.desk_cli.proofs.ByStore.{either, kept_by, left_by}
use Rattle.desk_cli.proofs.Serving.{carried, serves_unopened}
use Rattle.desk_cli.specs.OnTables.{IsLeft, KeepsHeard}
use Rattle.desk_cli.specs.Ports.{at_ports}
use Rattle.desk_cli.specs.commands.Serving.{ServesBy}
use Rattle.desk_cli.specs.declared.faults.Fault.TheVariants.{Unavailable}
use Rattle.desk_cli.specs.steps.Jobs.{serves}
use Rattle.desk_cli.proofs.commands.serving.serve_desk.Goals as goal

pub returns-clause-serves : goal.returns-clause-serves
returns-clause-serves g c = λ clean config heard kept.
    let back = c.run_job.result.1 in
    let ports = at_ports g.B.Network.ports c.args.network.now g.B.Port.Listening.meaning g.B.Port.Reader.Read.remaining g.B.Port.Writer.Write.contents c.args.log in
    either g.S.Store g.met.S.Store.settled config heard back (serves ports c.args.port c.args.connections)
    (λ left rest before after r. ServesBy config heard (KeepsHeard g.S.Store back config) (IsLeft g.S.Store back config) ports c.args.port c.args.connections before after r) _ _ _ _ c.run_job.result.0
    (λ by. carried config heard _ _ _ _ (kept_by _ g.met.S.Store.settled _ _ _ by) (left_by _ g.met.S.Store.settled _ _ _ by) ports c.args.port c.args.connections _ _ c.run_job.result.0 by.did)
    (λ left. serves_unopened config heard (KeepsHeard g.S.Store back config) (IsLeft g.S.Store back config) ports c.args.port c.args.connections _ (Unit {0}) Unavailable refl left)
    (c.run_job.ensures.does clean config heard kept)
