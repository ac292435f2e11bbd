-- The month is checked first, then whether there is such an owner; the report is that of the owner's name and the month's bounds.
use Rattle.std.proofs.Common.{◌≡◌, ◌∙◌, ap, refl, sym, rules, Bool, false}
use Rattle.std.specs.Prelude.{◌&&◌}
use Rattle.radio_core.specs.Names.{is_name}
use Rattle.desk_engine.proofs.OwnerLines.{and_false, same_report}
use Rattle.desk_engine.proofs.owner_reports.owner_report.Goals as goal

pub returns-in_default-clause-month : goal.returns-in_default-clause-month
returns-in_default-clause-month g c = (λ told. c.in_default.ensures.none.0 refl, λ no. refl)

pub returns-in_default-clause-fault : goal.returns-in_default-clause-fault
returns-in_default-clause-fault g c = λ kept sound held from to is. c.in_default.ensures.none.0 refl from to is

pub returns-then-not-branch-clause-fault : goal.returns-then-not-branch-clause-fault
returns-then-not-branch-clause-fault g c = λ kept sound held from to is.
    let name : c.in-Some-new.name ≡ c.args.owner.now = search rules in
    let told = c.in_ok-has_owner.ensures.told kept sound held in
    let unknown : kept.facts.owners c.args.owner.now ≡ false = ap kept.facts.owners (sym name) ∙ sym told ∙ c.if-not-branch.true in
    ap (λ (b : Bool). is_name c.args.owner.now && b) unknown ∙ and_false (is_name c.args.owner.now)

pub returns-clause-report : goal.returns-clause-report
returns-clause-report g c = λ kept sound held from to is.
    let name : c.in-Some-new.name ≡ c.args.owner.now = search rules in
    let old = c.in_ok-owner_text.ensures.read.was_sound sound in
    let month = c.in-Some.ensures.some from to is in
    same_report kept.facts _ _ _ _ _ _ _ name month.0 month.1 (c.in_ok-owner_text.ensures.told kept sound (c.in_ok-has_owner.ensures.read.held kept old held))
