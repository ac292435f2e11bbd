-- The totals are those of what the store represents, and the configuration is still the same after they are read.
use Rattle.std.proofs.Common.{◌∙◌, ap}
use Rattle.desk_cli.specs.commands.Checking.{check_text}
use Rattle.desk_cli.proofs.commands.checking.checked.Goals as goal

pub returns-clause-told : goal.returns-clause-told
returns-clause-told g c = λ kept sound held. (
  c.in_ok-totals.totals,
  c.in_ok-totals.ensures.told kept sound held,
  ap (λ v. v.items) c.into_bytes.ensures.value ∙ c.in_ok-text.ensures ∙ ap (λ config. check_text config c.in_ok-totals.totals) (c.config.ensures ∙ c.in_ok-totals.ensures.read.same),
)
