-- The arguments of `desk device`, one after another.
use Rattle.desk_cli.proofs.commands.listing.device_app.Goals as goal

pub returns : goal.returns
returns c = c.with_word.ensures _ _ c.command_on_file.ensures c.place-dev_eui.ensures.rule c.place-dev_eui.ensures.local
