-- Once the port is bound and its line written, connections are served in turn, and the log has what each of them delivered.
use Rattle.std.proofs.Common.{◌∙◌, subst}
use Rattle.std.specs.Io.KnownBytes.{Appends}
use Rattle.desk_cli.proofs.OnTables.{opened_in_order}
use Rattle.desk_cli.proofs.Serving.{served_by}
use Rattle.desk_cli.proofs.commands.serving.ServeJob.run.Goals as goal

pub returns-clause-does : goal.returns-clause-does
returns-clause-does g c = λ config heard was sound.
    let before = g.W.Write.contents c.args.answers.now in
    let after = g.W.Write.contents c.write_whole.new.writer in
    let line = subst (Appends before after) (c.as_bytes.ensures.value ∙ c.in-Ok-listening_line.ensures) c.in-Ok-write_whole.ensures in
    rw c.ended.ensures (served_by g.K.Looks.meaning g.B.Network.ports c.args.self.now.network.now _ _ _ c.args.self.now.connections config heard
    c.args.keeper.now c.serve_connections.new.keeper _ _ c.args.self.now.log c.args.self.now.port before after c.serve_connections.result
    c.in-Ok.ensures.listens (opened_in_order _ _ _ _ _ was sound) c.serve_connections.ensures.hears line)
