-- The first row with the session, the kind and the counter is the registry's uplink; a session number from 2^53 on has none.
use Rattle.std.proofs.Common.{◌∙◌, sym, ap}
use Rattle.registry_core.specs.declared.facts.Kind.TheVariants.{Data}
use Rattle.registry_core.specs.Derived.{data_with}
use Rattle.desk_rows.specs.Rows.{is_uplink}
use Rattle.desk_tables.proofs.Absent.{no_data}
use Rattle.desk_tables.proofs.Reading.{says_also, unasked}
use Rattle.desk_tables.proofs.looks.sessions.data_with.Goals as goal

pub returns-in-Some : goal.returns-in-Some
returns-in-Some g c = says_also _ _ _ _ _ (λ r found is config kept tell.
    let laws = c.look_ups_tell.ensures config kept.facts r tell.are in
    is ∙ sym (laws.0.uplink_with (is_uplink c.in-Some.session Data c.args.counter)) ∙ laws.5.data_up c.in-Some.session c.args.counter
    ∙ ap (λ n. data_with kept.facts.uplinks n c.args.counter) c.in-Some.ensures.1) c.uplink_with.ensures

pub returns-in-None : goal.returns-in-None
returns-in-None g c = unasked _ _ _ (λ r config kept tell. sym (no_data config kept r tell c.args.session c.in-None.ensures c.args.counter))
