-- If the arguments can't be read, no command was named; how the run ended decides whether standard error has a line.
use Rattle.std.proofs.Common.{inr, refl}
use Rattle.std.proofs.KnownBytes.{Keeps-refl}
use Rattle.desk_cli.proofs.Asked.{given_none, is_quiet, tells_ending}
use Rattle.desk_cli.proofs.program.run_given.Goals as goal

pub returns-in-Err-clause-runs : goal.returns-in-Err-clause-runs
returns-in-Err-clause-runs g c = inr (record {
  unopened = refl;
  unread = Keeps-refl _;
  unwritten = Keeps-refl _;
  ending_is = given_none g.F.Write _ _ c.args.arguments c.in-Err.why c.print_usage.result c.in-Err.ensures.none c.print_usage.ensures;
})

pub returns-in-Ok-clause-quiet : goal.returns-in-Ok-clause-quiet
returns-in-Ok-clause-quiet g c = is_quiet _ _ _ _ _ c.run_strings.ensures.runs

pub returns-in-Ok-clause-told : goal.returns-in-Ok-clause-told
returns-in-Ok-clause-told g c = tells_ending _ _ _ _ _ c.run_strings.ensures.runs

pub returns-in-Err-clause-quiet : goal.returns-in-Err-clause-quiet
returns-in-Err-clause-quiet g c = is_quiet _ _ _ _ _ (returns-in-Err-clause-runs g c)

pub returns-in-Err-clause-told : goal.returns-in-Err-clause-told
returns-in-Err-clause-told g c = tells_ending _ _ _ _ _ (returns-in-Err-clause-runs g c)
