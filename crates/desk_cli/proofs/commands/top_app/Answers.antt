-- The arguments of `desk` without a command: the flag `version` alone.
use Rattle.desk_cli.proofs.commands.top_app.Goals as goal

pub returns : goal.returns
returns c = c.with_word.ensures _ _ (c.command.ensures.app, c.command.ensures.local) c.flag-version.ensures.rule c.flag-version.ensures.local
