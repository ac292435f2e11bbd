-- How `serve_desk` ended is reported on standard error; the connections that it served are the command's.
use Rattle.desk_cli.proofs.commands.serving.serve_command.Goals as goal

pub returns : goal.returns
returns g c =
    let done = c.serve_desk-done.ensures in
    record { result = c.serve_desk-done.result.0; ended = c.end.ensures; says = record { desk = done.serves; not_a_desk = done.not_a_desk; clean = done.clean } }
