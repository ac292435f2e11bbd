-- The arguments of `desk receptions`, one after another.
use Rattle.desk_cli.proofs.commands.month_reports.receptions_app.Goals as goal

pub returns : goal.returns
returns c =
    let dev_eui = c.with_word-command.ensures _ _ c.command_on_file.ensures c.place-dev_eui.ensures.rule c.place-dev_eui.ensures.local in
    c.with_word.ensures _ _ dev_eui c.place-month.ensures.rule c.place-month.ensures.local
