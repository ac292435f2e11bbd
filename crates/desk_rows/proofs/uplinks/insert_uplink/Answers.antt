-- The uplink's row comes last if its session, kind and counter aren't there yet; the session's number is stored exactly below 2^63.
use Rattle.std.proofs.Common.{ap, ◌<◌, ◌^◌, ◌∷◌, drop}
use Rattle.sqlite.specs.Values.{bound_value}
use Rattle.desk_rows.specs.Schema.{uplink_table}
use Rattle.desk_rows.specs.Rows.{uplink_cells}
use Rattle.desk_rows.proofs.DeskTables.{adds_given, everything, insert_is, refl, understood, uplink_key, uplinks}
use Rattle.desk_rows.proofs.uplinks.insert_uplink.Goals as goal

pub returns-clause-changes : goal.returns-clause-changes
unfolding understood everything
returns-clause-changes g c = adds_given uplinks uplink_key (insert_is 7 uplink_table refl) c.args.uplink.now (record { counter = c.word.ensures.range; octets = c.frame.ensures.range; start = c.json_integer.ensures.range; airtime = c.word-2.ensures.range }) (drop 1 (uplink_cells c.args.uplink.now)) refl refl refl _ (_, refl) (c.args.uplink.now.session < 2 ^ 63) (λ small. ap (λ v. v ∷ drop 2 (uplink_cells c.args.uplink.now)) (ap bound_value (c.unsigned.ensures small))) (rw (c.kind.ensures, c.word.ensures.same, c.frame.ensures.same, c.json_integer.ensures.same, c.word-2.ensures.same, c.band.ensures) at c.write.ensures.written)
