-- If the schema has meta, an error of reading its row means the row isn't in form, or `Memory`, `Disk` or `Size`.
use Rattle.std.proofs.Common.{◌≡◌, ◌∙◌, true, refl, sym, subst}
use Rattle.desk_store.specs.Calls.{IsUnavailability}
use Rattle.desk_store.specs.declared.faults.StoreFault.TheVariants.{NotADesk}
use Rattle.desk_rows.specs.Faults.{is_odd}
use Rattle.desk_rows.specs.Meta.{HasMeta}
use Rattle.desk_tables.proofs.OpeningLemmas.{odd_from_not_a_desk, unavailable_from_even}
use Rattle.desk_tables.proofs.opening.config_at.Goals as goal

pub returns-in-Err-clause-in_order : goal.returns-in-Err-clause-in_order
returns-in-Err-clause-in_order g c clean meta s tells =
    let never = λ (odd : is_odd c.in-Err.fault ≡ true). c.in-Err.ensures.untold meta clean c.requires.at_rest.1 odd c.args.version s tells in
    subst IsUnavailability (sym c.store_fault.ensures) (unavailable_from_even c.in-Err.fault never)

pub returns-in-Err-clause-not_a_desk : goal.returns-in-Err-clause-not_a_desk
returns-in-Err-clause-not_a_desk g c clean is meta version s tells =
    let not_a_desk : c.store_fault.result ≡ NotADesk = cc in
    c.in-Err.ensures.untold meta clean c.requires.at_rest.1 (odd_from_not_a_desk c.in-Err.fault (sym c.store_fault.ensures ∙ not_a_desk)) version s tells

pub returns-clause-same : goal.returns-clause-same
returns-clause-same g c clean = c.in-Ok.ensures.same (subst HasMeta c.schema.ensures.value (c.if-not-has_meta.ensures.0 refl)) clean
