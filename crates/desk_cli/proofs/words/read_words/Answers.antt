-- The matches that clap returns name the command of the definition, and its error is the refusal or the help of the definition.
use Rattle.clap.specs.Walk.{texts}
use Rattle.desk_cli.proofs.Tellings.{tells_command, tells_usage}
use Rattle.desk_cli.proofs.words.read_words.Goals as goal

pub returns-in-Ok-try_get_matches_from_mut : goal.returns-in-Ok-try_get_matches_from_mut
returns-in-Ok-try_get_matches_from_mut c =
    let parsed = c.in-Ok-try_get_matches_from_mut.ensures in
    tells_command _ (texts c.args.words.now) c.in-Ok-try_get_matches_from_mut.matches _ c.in-Ok.ensures parsed.kinds parsed.ok.2 c.command_of.ensures

pub returns : goal.returns
returns c = tells_usage _ (texts c.args.words.now) c.in-Err.error _ c.in-Ok.ensures c.in-Err.ensures.kinds c.usage_of.ensures
