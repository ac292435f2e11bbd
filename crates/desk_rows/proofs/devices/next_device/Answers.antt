-- With a DevEUI given, what `above` lets through is the next device, because the query returns nothing that isn't above it.
use Rattle.std.proofs.Common.{Some}
use Rattle.desk_rows.proofs.NextDevice.{reads_above}
use Rattle.desk_rows.proofs.devices.next_device.Goals as goal

pub returns-in-Some-clause-reads : goal.returns-in-Some-clause-reads
returns-in-Some-clause-reads g c = rw c.in-Some.is (reads_above c.args.owner.now (Some c.in-Some.last) c.above.ensures c.device_after.ensures)
