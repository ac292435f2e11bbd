-- A gateway's line: its name, the limits of the bands, and LF.
use Rattle.std.proofs.Common.{◌∙◌, ◌++◌, ap, arith, string_bytes}
use Rattle.desk_engine.proofs.Listings.{limits_are}
use Rattle.desk_engine.proofs.gateway_lists.GatewayLineTextOfName.text.Goals as goal

pub returns-clause-told : goal.returns-clause-told
returns-clause-told g c = λ kept sound held.
    limits_are kept.facts c.args.gateway.now _ _ _ c.as_str.ensures (c.in_ok-line.ensures.told kept sound held)
    (c.in_ok-push.ensures.bytes ∙ ap (λ l. string_bytes c.in_ok-line.line ++ l) (c.in_ok-push.ensures.ascii (omega arith)))
