-- The owner's devices above a DevEUI, ordered by the octets, begin with the least of them.
use Rattle.desk_rows.proofs.NextDevice.{reads_after}
use Rattle.desk_rows.proofs.devices.device_after.Goals as goal

pub returns : goal.returns
returns g c = reads_after c.args.owner.now c.args.after c.octets_of-octets.ensures.range c.device_after_text.ensures (rw (c.text.ensures.same, c.blob.ensures, c.octets_of-octets.ensures.same) at c.find.ensures)
