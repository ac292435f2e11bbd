-- If the arguments name no command, the reason is reported and nothing is done.
use Rattle.std.proofs.Common.{Ok, Err, inl, inr, ap, refl, subst, ◌∙◌}
use Rattle.std.proofs.KnownBytes.{Keeps-refl}
use Rattle.clap.specs.Walk.{texts}
use Rattle.desk_cli.specs.CommandLine.{named_by}
use Rattle.desk_cli.specs.Named.{TellsNamed}
use Rattle.desk_cli.proofs.Asked.{names_none}
use Rattle.desk_cli.proofs.program.run_strings.Goals as goal

pub returns-in-Ok-read_words-clause-runs : goal.returns-in-Ok-read_words-clause-runs
returns-in-Ok-read_words-clause-runs g c = inl (
  _,
  subst (λ words. TellsNamed (named_by words) (Ok c.in-Ok-read_words.command)) (ap texts c.deref.ensures.value ∙ c.in-Ok.ensures) c.in-Ok-read_words.ensures,
  c.perform.ensures,
)

pub returns-in-Err-clause-runs : goal.returns-in-Err-clause-runs
returns-in-Err-clause-runs g c = inr (record {
  unopened = refl;
  unread = Keeps-refl _;
  unwritten = Keeps-refl _;
  ending_is = names_none g.F.Write _ _ _ c.in-Err.usage c.print_usage-in-Err.result
      (subst (λ words. TellsNamed (named_by words) (Err c.in-Err.usage)) (ap texts c.deref.ensures.value ∙ c.in-Ok.ensures) c.in-Err.ensures) c.print_usage-in-Err.ensures;
})
