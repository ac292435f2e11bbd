-- The text is made from its end: the lines of numbered things, before them those of names, then the configuration.
use Rattle.std.proofs.Common.{◌∙◌, ap}
use Rattle.std.proofs.lemmas.Result.{IfOk-weaker}
use Rattle.desk_cli.specs.commands.Checking.{named_lines, settings_lines}
use Rattle.desk_cli.proofs.commands.checking.lines_of.Goals as goal

pub returns : goal.returns
returns c = IfOk-weaker c.settings_lines.result _ _ (λ text is. is ∙ ap (settings_lines c.args.config.now)
    (c.as_str-2.ensures.value ∙ c.in_ok-named.ensures ∙ ap (named_lines c.args.totals.now) (c.as_str.ensures.value ∙ c.in_ok-numbered.ensures))) c.settings_lines.ensures
