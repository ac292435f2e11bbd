-- The greatest nonce in the rows of the device's sessions is the last nonce of the registry's sessions.
use Rattle.std.proofs.Common.{◌∙◌, sym, ap}
use Rattle.desk_tables.proofs.LookUps.{answered_by_kept, answered_by_rows}
use Rattle.registry_core.specs.State.{State}
use Rattle.registry_core.specs.Derived.{last_nonce}
use Rattle.registry_core.specs.Numbered.{greatest}
use Rattle.desk_tables.proofs.Telling.{nonces_tell}
use Rattle.desk_tables.proofs.Reading.{says_also}
use Rattle.desk_tables.proofs.looks.TablesLooks.last_nonce.Goals as goal

pub returns-clause-read : goal.returns-clause-read
returns-clause-read g c = answered_by_rows _ _ _ _ _ _ _ c.in_ok-working.ensures c.last_nonce-answer.ensures c.store_result.ensures

pub returns-clause-told : goal.returns-clause-told
returns-clause-told g c = answered_by_kept _ _ _ _ _ _ _ c.in_ok-working.ensures (says_also _ _ _ _ _ (λ r nonce is config kept tell.
    is ∙ ap greatest (nonces_tell c.args.device r.sessions) ∙ ap (λ (s : State). last_nonce s.sessions c.args.device) (sym tell.are.is)) c.last_nonce-answer.ensures) c.store_result.ensures
