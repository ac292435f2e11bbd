-- The arguments of `desk audit`: the file, and the path of a scratch file or none.
use Rattle.desk_cli.proofs.commands.auditing.audit_app.Goals as goal

pub returns : goal.returns
returns c = c.with_word.ensures _ _ c.command_on_file.ensures c.optional.ensures.rule c.optional.ensures.local
