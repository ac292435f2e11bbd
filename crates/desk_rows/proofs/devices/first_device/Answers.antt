-- The owner's devices ordered by the octets of their DevEUIs begin with the least of them.
use Rattle.desk_rows.proofs.NextDevice.{reads_first}
use Rattle.desk_rows.proofs.devices.first_device.Goals as goal

pub returns : goal.returns
returns g c = reads_first c.args.owner.now (rw (c.text.ensures.same) at c.find.ensures)
