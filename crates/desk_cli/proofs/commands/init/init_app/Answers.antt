-- The arguments of `desk init`: the four options of the configuration, and then the file.
use Rattle.desk_cli.proofs.commands.init.init_app.Goals as goal

pub returns : goal.returns
returns c = c.with_word.ensures _ _ c.command_with_settings.ensures c.place-file.ensures.rule c.place-file.ensures.local
