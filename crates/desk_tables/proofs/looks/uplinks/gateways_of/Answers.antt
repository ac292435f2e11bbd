-- The gateways in the rows of an uplink are those of its receptions in the registry; an uplink number from 2^53 on has none.
use Rattle.std.proofs.Common.{sym, subst}
use Rattle.registry_core.specs.Listing.{AreNames, has_reception}
use Rattle.desk_tables.proofs.Absent.{no_gateway}
use Rattle.desk_tables.proofs.Reading.{says_also, unasked}
use Rattle.desk_tables.proofs.looks.uplinks.gateways_of.Goals as goal

pub returns-in-Some : goal.returns-in-Some
returns-in-Some g c = says_also _ _ _ _ _ (λ r names is config kept tell.
    subst (λ n. AreNames (has_reception kept.facts n) names.items) c.in-Some.ensures.1
    (subst (AreNames (has_reception kept.facts c.in-Some.uplink)) (sym is) ((c.listed_rows_tell.ensures config kept.facts r tell.are).receptions c.in-Some.uplink)))
    c.gateways_of.ensures

pub returns-in-None : goal.returns-in-None
returns-in-None g c = unasked _ _ _ (λ r config kept tell.
    subst (AreNames (has_reception kept.facts c.args.uplink)) (sym c.new-in-None.ensures.items) (no_gateway config kept r tell c.args.uplink c.in-None.ensures))
