-- The arguments of `desk report`: the file, the owner and the month, one after another.
use Rattle.desk_cli.proofs.commands.reports.report_app.Goals as goal

pub returns : goal.returns
returns c =
    let owner = c.with_word-command.ensures _ _ c.command_on_file.ensures c.place-owner.ensures.rule c.place-owner.ensures.local in
    c.with_word.ensures _ _ owner c.place-month.ensures.rule c.place-month.ensures.local
