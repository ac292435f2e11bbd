-- After any log bookings are short and within the limits, as `rooms_text` needs, and its report is that of the gateway's name.
use Rattle.std.proofs.Common.{◌≡◌, ◌∙◌, rules}
use Rattle.std.proofs.lemmas.Option.{same_Some}
use Rattle.desk_engine.specs.InOrder.{kept_after}
use Rattle.desk_engine.proofs.RoomTexts.{keeps_air, same_report}
use Rattle.desk_engine.proofs.room_reports.room_report.Goals as goal

pub returns-clause-report : goal.returns-clause-report
returns-clause-report g c = λ s heard t was is.
    let name : c.in-Some-new.name ≡ c.args.gateway.now = search rules in
    let old = c.in_ok-rooms_text.ensures.read.was_sound was.sound in
    let held = c.in_ok-has_gateway.ensures.read.held (kept_after s heard) old was.order.kept in
    same_report s heard _ _ _ _ _ name (same_Some _ _ (c.in-Some.ensures.value ∙ is))
    (c.in_ok-rooms_text.ensures.told (kept_after s heard) was.sound held (keeps_air c.downlinks_are_short.ensures c.rules_are_kept.ensures s heard))
