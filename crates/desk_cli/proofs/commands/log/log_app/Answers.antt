-- The arguments of `desk log`: the file, the first message, how many, and whether it prints answers.
use Rattle.desk_cli.proofs.commands.log.log_app.Goals as goal

pub returns : goal.returns
returns c =
    let from = c.with_word-command.ensures _ _ c.command_on_file.ensures c.option-from.ensures.rule c.option-from.ensures.local in
    let count = c.with_word-counted.ensures _ _ from c.optional-count.ensures.rule c.optional-count.ensures.local in
    c.with_word.ensures _ _ count c.flag.ensures.rule c.flag.ensures.local
