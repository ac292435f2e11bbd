-- The names in the owners' rows, ordered by octets, are the registry's list of owners.
use Rattle.std.proofs.Common.{sym, subst}
use Rattle.desk_tables.proofs.LookUps.{answered_by_kept, answered_by_rows}
use Rattle.registry_core.specs.Listing.{AreNames}
use Rattle.desk_tables.proofs.Reading.{says_also}
use Rattle.desk_tables.proofs.looks.TablesLooks.owners.Goals as goal

pub returns-clause-read : goal.returns-clause-read
returns-clause-read g c = answered_by_rows _ _ _ _ _ _ _ c.in_ok-working.ensures c.owner_names-answer.ensures c.store_result.ensures

pub returns-clause-told : goal.returns-clause-told
returns-clause-told g c = answered_by_kept _ _ _ _ _ _ _ c.in_ok-working.ensures (says_also _ _ _ _ _ (λ r all is config kept tell.
    subst (AreNames kept.facts.owners) (sym is) ((c.listed_rows_tell.ensures config kept.facts r tell.are).owners)) c.owner_names-answer.ensures) c.store_result.ensures
