-- The command without arguments gets one: the file.
use Rattle.desk_cli.proofs.options.command_on_file.Goals as goal

pub returns : goal.returns
returns c = c.with_word.ensures _ _ (c.command.ensures.app, c.command.ensures.local) c.place-file.ensures.rule c.place-file.ensures.local
