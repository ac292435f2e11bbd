-- Each uplink is in one band, so the sum over the bands is the number of the device's uplinks in the month.
use Rattle.std.proofs.Common.{◌∙◌}
use Rattle.desk_engine.proofs.AirUse.{device_line_is}
use Rattle.desk_engine.proofs.owner_reports.device_use_line.Goals as goal

pub returns-clause-told : goal.returns-clause-told
returns-clause-told g c = λ kept sound held.
    device_line_is kept.facts c.args.month.from c.args.month.to c.args.device c.as_str.result.now _ c.as_str-2.result.now _ c.in_ok-uplinks.uplinks
    (c.in_ok-uplinks.ensures.told kept sound held) (c.as_str.ensures.value ∙ c.in_ok-digits.ensures) c.as_str-2.ensures.value c.in_ok-line_of.ensures
