-- The arguments of `desk serve`: the file, the port, how many connections, and whether they are logged.
use Rattle.desk_cli.proofs.commands.serving.serve_app.Goals as goal

pub returns : goal.returns
returns c =
    let port = c.with_word-command.ensures _ _ c.command_on_file.ensures c.required_option-port.ensures.rule c.required_option-port.ensures.local in
    let count = c.with_word-counted.ensures _ _ port c.required_option-count.ensures.rule c.required_option-count.ensures.local in
    c.with_word.ensures _ _ count c.flag.ensures.rule c.flag.ensures.local
