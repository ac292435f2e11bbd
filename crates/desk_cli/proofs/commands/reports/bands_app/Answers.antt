-- The arguments of `desk bands`: the file, and then the gateway.
use Rattle.desk_cli.proofs.commands.reports.bands_app.Goals as goal

pub returns : goal.returns
returns c = c.with_word.ensures _ _ c.command_on_file.ensures c.place-gateway.ensures.rule c.place-gateway.ensures.local
