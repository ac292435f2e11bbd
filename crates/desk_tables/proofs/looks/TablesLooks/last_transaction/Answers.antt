-- The greatest transaction number in the sender's rows is the greatest among its entries in the log.
use Rattle.std.proofs.Common.{◌∙◌, sym, ap}
use Rattle.desk_store.specs.Looks.{last_transaction}
use Rattle.desk_tables.proofs.Entries.{last_entry}
use Rattle.desk_tables.proofs.LookUps.{answered_by_kept, answered_by_rows}
use Rattle.desk_tables.proofs.Reading.{says_also}
use Rattle.desk_tables.proofs.looks.TablesLooks.last_transaction.Goals as goal

pub returns-clause-read : goal.returns-clause-read
returns-clause-read g c = answered_by_rows _ _ _ _ _ _ _ c.in_ok-working.ensures c.last_transaction-answer.ensures c.store_result.ensures

pub returns-clause-told : goal.returns-clause-told
returns-clause-told g c = answered_by_kept _ _ _ _ _ _ _ c.in_ok-working.ensures (says_also _ _ _ _ _ (λ r last is config kept tell.
    is ∙ sym (last_entry c.args.sender.now r.replies) ∙ ap (λ entries. last_transaction entries c.args.sender.now) (sym tell.entries)) c.last_transaction-answer.ensures) c.store_result.ensures
