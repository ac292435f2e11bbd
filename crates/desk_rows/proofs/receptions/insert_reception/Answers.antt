-- The reception's row comes last if the uplink has none at this gateway; the uplink's number is stored exactly if it is below 2^63.
use Rattle.std.proofs.Common.{ap, ◌<◌, ◌^◌, ◌∷◌, drop}
use Rattle.sqlite_value.specs.Order.{Row}
use Rattle.sqlite.specs.Values.{bound_value}
use Rattle.desk_rows.specs.Rows.{ReceptionRow, number, reception_cells}
use Rattle.desk_rows.proofs.DeskTables.{adds_given, inserts, reception_key, receptions, refl}
use Rattle.desk_rows.proofs.receptions.insert_reception.Goals as goal

pub returns-clause-changes : goal.returns-clause-changes
returns-clause-changes g c =
    let x : ReceptionRow = record { uplink = c.args.uplink; gateway = c.args.gateway.now; reception = c.args.reception.now } in
    let rest : Row = drop 1 (reception_cells x) in
    adds_given receptions reception_key (inserts c.reception_text.ensures) x (record { gateway = c.text.ensures.range; end = c.json_integer.ensures.range; freq = c.word.ensures.range }) (number c.args.uplink ∷ rest) refl refl refl _ (_, refl) (c.args.uplink < 2 ^ 63) (λ small. ap (λ v. v ∷ rest) (ap bound_value (c.unsigned.ensures small))) (rw (c.text.ensures.same, c.json_integer.ensures.same, c.word.ensures.same, c.data_rate.ensures) at c.write.ensures.written)
