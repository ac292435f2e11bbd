-- Eleven commands, `serve` to `audit`, are added one after another to those of `with_readers`, each after the ones before.
use Rattle.desk_cli.proofs.commands.desk_app.Goals as goal

pub returns : goal.returns
returns c =
    let readers = c.with_readers-desk.ensures _ c.in_ok-top_app.ensures.0 in
    let one = c.added-desk.ensures _ _ readers c.serve_app.ensures in
    let two = c.added-desk-2.ensures _ _ one c.report_app.ensures in
    let three = c.added-desk-3.ensures _ _ two c.bands_app.ensures in
    let four = c.added-desk-4.ensures _ _ three c.room_app.ensures in
    let five = c.added-desk-5.ensures _ _ four c.list_app.ensures in
    let six = c.added-desk-6.ensures _ _ five c.device_app.ensures in
    let seven = c.added-desk-7.ensures _ _ six c.receptions_app.ensures in
    let eight = c.added-desk-8.ensures _ _ seven c.downlinks_app.ensures in
    let nine = c.added-desk-9.ensures _ _ eight c.log_app.ensures in
    let ten = c.added-desk-10.ensures _ _ nine c.check_app.ensures in
    c.added.ensures _ _ ten c.audit_app.ensures
