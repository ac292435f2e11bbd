-- The report on a device after a log, by what the store represents then.
use Rattle.std.proofs.Common.{OnOk, IfErr, IsTrue, subst}
use Rattle.std.proofs.lemmas.Result.{IfOk-weaker}
use Rattle.desk_engine.specs.InOrder.{kept_after}
use Rattle.desk_engine.specs.Listing.{IsDeviceFault, is_device}
use Rattle.desk_engine.proofs.Listings.{facts_after, text_after}
use Rattle.desk_engine.proofs.lists.device_report.Goals as goal

pub returns-clause-known : goal.returns-clause-known
returns-clause-known g c = λ s heard was.
    subst (λ x. OnOk c.report_of.result (IsTrue (is_device x c.args.dev_eui.now))) (facts_after s heard) (c.report_of.ensures.known (kept_after s heard) was.sound was.order.kept)

pub returns-clause-report : goal.returns-clause-report
returns-clause-report g c = λ s heard was.
    IfOk-weaker c.report_of.result _ _ (λ text is. text_after s _ heard c.args.dev_eui.now text.items was.its is) (c.report_of.ensures.report (kept_after s heard) was.sound was.order.kept)

pub returns-clause-fault : goal.returns-clause-fault
returns-clause-fault g c = λ s heard was.
    subst (λ x. IfErr c.report_of.result (IsDeviceFault x c.args.dev_eui.now)) (facts_after s heard) (c.report_of.ensures.fault (kept_after s heard) was.sound was.order.kept)
