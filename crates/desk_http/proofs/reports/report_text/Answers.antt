-- The reports of two names: each is answered as the engine answers it, for what precedes the slash and what follows it.
use Rattle.desk_http.proofs.Reported.{downlinks_answered, owner_answered, receptions_answered, room_answered}
use Rattle.desk_http.proofs.reports.report_text.Goals as goal

pub returns-in-OwnerReport-clause-answered : goal.returns-in-OwnerReport-clause-answered
returns-in-OwnerReport-clause-answered g c =
    let asked = c.owner_report.ensures in
    owner_answered g.K.Looks.meaning c.args.keeper.now c.owner_report.new.keeper c.owner_report.result asked.read c.args.names.now _ _
    c.before_slash-first.ensures c.after_slash-second.ensures _ c.in-OwnerReport.is asked.month asked.known asked.report asked.fault

pub returns-in-Room-clause-answered : goal.returns-in-Room-clause-answered
returns-in-Room-clause-answered g c =
    let asked = c.room_report.ensures in
    room_answered g.K.Looks.meaning c.args.keeper.now c.room_report.new.keeper c.room_report.result asked.read c.args.names.now _ _
    c.before_slash-first.ensures c.after_slash-second.ensures _ c.in-Room.is asked.time asked.known asked.report asked.fault

pub returns-in-Receptions-clause-answered : goal.returns-in-Receptions-clause-answered
returns-in-Receptions-clause-answered g c =
    let asked = c.reception_report.ensures in
    receptions_answered g.K.Looks.meaning c.args.keeper.now c.reception_report.new.keeper c.reception_report.result asked.read c.args.names.now _ _
    c.before_slash-first.ensures c.after_slash-second.ensures _ c.in-Receptions.is asked.month asked.known asked.report asked.fault

pub returns-in-Downlinks-clause-answered : goal.returns-in-Downlinks-clause-answered
returns-in-Downlinks-clause-answered g c =
    let asked = c.downlink_report.ensures in
    downlinks_answered g.K.Looks.meaning c.args.keeper.now c.downlink_report.new.keeper c.downlink_report.result asked.read c.args.names.now _ _
    c.before_slash-first.ensures c.after_slash-second.ensures _ c.in-Downlinks.is asked.month asked.known asked.report asked.fault
