-- The greatest rowid among the limits is their number.
use Rattle.desk_rows.proofs.DeskTables.{everything, limits, reads_number, refl, understood}
use Rattle.desk_rows.proofs.limits.last_limit.Goals as goal

pub returns : goal.returns
unfolding understood everything
returns g c = reads_number limits (refl, refl) c.find.ensures
