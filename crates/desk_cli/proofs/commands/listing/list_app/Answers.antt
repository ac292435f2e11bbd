-- The arguments of `desk list`, one after another.
use Rattle.desk_cli.proofs.commands.listing.list_app.Goals as goal

pub returns : goal.returns
returns c = c.with_word.ensures _ _ c.command_on_file.ensures c.place-what.ensures.rule c.place-what.ensures.local
