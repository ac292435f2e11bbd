-- A band's line, by what the store returns.
use Rattle.desk_engine.proofs.AirUse.{band_line_is}
use Rattle.desk_engine.proofs.band_reports.BandLineTextOfBand.text.Goals as goal

pub returns-clause-told : goal.returns-clause-told
returns-clause-told g c = λ kept sound held.
    let asked = c.booked_use.ensures.read.was_sound sound in
    let limit = c.in_ok-limit.ensures.told kept asked held in
    let used = c.in_ok-used.ensures.told kept sound (c.in_ok-limit.ensures.read.held kept asked held) in
    band_line_is c.args.band.now c.in_ok-limit.limit _ c.in_ok-used.used _ _ c.as_str.result.now _ limit used c.in_ok-columns.ensures c.as_str.ensures.value c.in_ok-line.ensures
