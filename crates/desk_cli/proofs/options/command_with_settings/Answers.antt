-- The four options are added one after another: receiver, operator, base and addresses.
use Rattle.desk_cli.proofs.options.command_with_settings.Goals as goal

pub returns : goal.returns
returns c =
    let receiver = c.with_word-command.ensures _ _ (c.command.ensures.app, c.command.ensures.local) c.option-receiver.ensures.rule c.option-receiver.ensures.local in
    let operator = c.with_word.ensures _ _ receiver c.option-operator.ensures.rule c.option-operator.ensures.local in
    let base = c.with_word-2.ensures _ _ operator c.option-base.ensures.rule c.option-base.ensures.local in
    c.with_word-3.ensures _ _ base c.option-addresses.ensures.rule c.option-addresses.ensures.local
