-- A row of a booking that isn't dropped answers the uplink in the registry too; an uplink number from 2^53 on has no answer.
use Rattle.std.proofs.Common.{◌∙◌, sym, ap}
use Rattle.registry_core.specs.Bookings.{is_answered}
use Rattle.desk_tables.proofs.Absent.{no_answer}
use Rattle.desk_tables.proofs.Reading.{says_also, unasked}
use Rattle.desk_tables.proofs.looks.uplinks.is_answered.Goals as goal

pub returns-in-Some : goal.returns-in-Some
returns-in-Some g c = says_also _ _ _ _ _ (λ r answered is config kept tell.
    is ∙ (c.look_ups_tell.ensures config kept.facts r tell.are).3.answered c.in-Some.uplink
    ∙ ap (is_answered kept.facts.bookings) c.in-Some.ensures.1) c.is_answered.ensures

pub returns-in-None : goal.returns-in-None
returns-in-None g c = unasked _ _ _ (λ r config kept tell.
    sym (no_answer config kept r tell c.args.uplink c.in-None.ensures)
    ∙ (c.look_ups_tell.ensures config kept.facts r tell.are).3.answered c.args.uplink)
