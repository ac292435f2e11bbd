-- The arguments of `desk downlinks`, one after another.
use Rattle.desk_cli.proofs.commands.month_reports.downlinks_app.Goals as goal

pub returns : goal.returns
returns c =
    let gateway = c.with_word-command.ensures _ _ c.command_on_file.ensures c.place-gateway.ensures.rule c.place-gateway.ensures.local in
    c.with_word.ensures _ _ gateway c.place-month.ensures.rule c.place-month.ensures.local
