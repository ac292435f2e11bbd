-- If exactly one row has the DevEUI, its floor is found, so the error `Row` comes only from rows that aren't a desk's.
use Rattle.std.proofs.Common.{Err}
use Rattle.desk_rows.specs.Rows.{is_device}
use Rattle.desk_rows.specs.declared.faults.RowFault.TheVariants.{Row}
use Rattle.desk_tables.proofs.CallLemmas.{asks_as, asks_one}
use Rattle.desk_tables.proofs.EffectLemmas.{find_only}
use Rattle.desk_tables.proofs.effects.input.floor_at.Goals as goal

pub returns-in-None : goal.returns-in-None
returns-in-None g c = asks_as (Err Row) (asks_one c.in_ok-floor.ensures) (λ r _. tt) (λ r _ _. tt)
    (λ r _ only told.
    let found = find_only (is_device c.args.dev_eui) r.devices only.row only.only in
    let none = c.in-None.is in absurd (let e = rw (none, found) at told in cc))
