-- If there is no reply with this number, nothing is delivered, so nothing is heard.
use Rattle.desk_cli.proofs.HeardAnew.{hears_none}
use Rattle.desk_cli.proofs.audit.hearing.hear_reply.Goals as goal

pub returns-in-Ok-None-clause-heard : goal.returns-in-Ok-None-clause-heard
returns-in-Ok-None-clause-heard g c = hears_none g.K.Looks.meaning c.calls_hear_in_order.ensures.none c.args.keeper.now
