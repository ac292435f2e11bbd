-- The limit's row comes last if the gateway's band has none; the limit is small enough to be stored exactly.
use Rattle.desk_rows.specs.Schema.{limit_table}
use Rattle.desk_rows.proofs.LimitUpdates.{storable}
use Rattle.desk_rows.proofs.DeskTables.{adds, everything, insert_is, limit_key, limits, refl, understood}
use Rattle.desk_rows.proofs.limits.insert_limit.Goals as goal

pub returns-clause-changes : goal.returns-clause-changes
unfolding understood everything
returns-clause-changes g c = adds limits limit_key (insert_is 10 limit_table refl) (record { gateway = c.args.gateway.now; limit = c.args.limit }) tt _ refl refl refl (rw (c.text.ensures.same, c.band-2.ensures, c.band.ensures, c.unsigned.ensures (rw c.most.ensures.same (storable c.args.limit c.most.ensures.range)), c.most.ensures.same) at c.write.ensures.written)
