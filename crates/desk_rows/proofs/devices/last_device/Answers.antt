-- The greatest rowid among the devices is their number.
use Rattle.desk_rows.proofs.DeskTables.{devices, everything, reads_number, refl, understood}
use Rattle.desk_rows.proofs.devices.last_device.Goals as goal

pub returns : goal.returns
unfolding understood everything
returns g c = reads_number devices (refl, refl) c.find.ensures
