-- The arguments of `desk room`: the file, the gateway and the time, one after another.
use Rattle.desk_cli.proofs.commands.reports.room_app.Goals as goal

pub returns : goal.returns
returns c =
    let owner = c.with_word-command.ensures _ _ c.command_on_file.ensures c.place-gateway.ensures.rule c.place-gateway.ensures.local in
    c.with_word.ensures _ _ owner c.place-time.ensures.rule c.place-time.ensures.local
