-- The arguments of `desk import`: the file, and then the sender.
use Rattle.desk_cli.proofs.commands.importing.import_app.Goals as goal

pub returns : goal.returns
returns c = c.with_word.ensures _ _ c.command_on_file.ensures c.required_option-sender.ensures.rule c.required_option-sender.ensures.local
