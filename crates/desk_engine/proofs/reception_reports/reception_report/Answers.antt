-- The month is checked first, then whether there is such a device.
use Rattle.std.proofs.Common.{◌≡◌, ◌∙◌, Some, refl, sym}
use Rattle.desk_wire.specs.Hexadecimal.{eui_of_digits}
use Rattle.desk_engine.proofs.Receptions.{receptions_of_named}
use Rattle.desk_engine.proofs.reception_reports.reception_report.Goals as goal

pub returns-in_default-clause-month : goal.returns-in_default-clause-month
returns-in_default-clause-month g c = (λ told. c.in_default.ensures.none.0 refl, λ no. refl)

pub returns-in_default-clause-fault : goal.returns-in_default-clause-fault
returns-in_default-clause-fault g c = λ kept sound held from to is. c.in_default.ensures.none.0 refl from to is

pub returns-clause-report : goal.returns-clause-report
returns-clause-report g c = λ kept sound held from to is.
    let old = c.in_ok-receptions_text.ensures.read.was_sound sound in
    let month = c.in-Some.ensures.some from to is in
    let named : Some c.in-Some-eui_of_digits.device ≡ eui_of_digits c.args.dev_eui.now = sym c.in-Some-eui_of_digits.is ∙ c.eui_of_digits.ensures in
    rw c.into_bytes.ensures.value
    (receptions_of_named kept.facts _ _ _ _ _ _ _ named month.0 month.1 (c.in_ok-receptions_text.ensures.told kept sound (c.in_ok-device.ensures.read.held kept old held)))
