-- The floor in the device's row is its greatest session that has a data uplink, so the comparison is the registry's.
use Rattle.std.proofs.Common.{◌∙◌, ap, find}
use Rattle.std.specs.Prelude.{option_and_then}
use Rattle.registry_core.specs.Derived.{is_below}
use Rattle.desk_rows.specs.Rows.{is_device}
use Rattle.desk_tables.proofs.Reading.{shows}
use Rattle.desk_tables.proofs.Telling.{floor_joined}
use Rattle.desk_tables.proofs.looks.sessions.is_below_floor.Goals as goal

pub returns-clause-kept : goal.returns-clause-kept
returns-clause-kept g c = shows _ _ _ _ _ _ (λ r is config kept tell.
    c.is_session_below.ensures ∙ ap (λ floor. is_below c.args.session (option_and_then (λ f. f) floor)) is
    ∙ ap (is_below c.args.session) (floor_joined (find (is_device c.args.device) r.devices))
    ∙ (c.look_ups_tell.ensures config kept.facts r tell.are).1.floor c.args.device c.args.session) c.in_ok-floor.ensures
