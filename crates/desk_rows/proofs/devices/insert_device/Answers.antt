-- The device's row comes last if the DevEUI isn't there yet; its floor isn't given, so it is null.
use Rattle.std.proofs.Common.{None}
use Rattle.desk_rows.specs.Schema.{device_table}
use Rattle.desk_rows.proofs.DeskTables.{adds, device_key, devices, everything, insert_is, refl, understood}
use Rattle.desk_rows.proofs.devices.insert_device.Goals as goal

pub returns-clause-changes : goal.returns-clause-changes
unfolding understood everything
returns-clause-changes g c = adds devices device_key (insert_is 5 device_table refl) (record { dev_eui = c.args.dev_eui; device = c.args.device.now; floor = None }) (record { dev_eui = c.octets_of-eui.ensures.range; join_eui = c.octets_of-join_eui.ensures.range; owner = c.text.ensures.range }) _ refl refl refl (rw (c.text.ensures.same, c.blob.ensures, c.blob-2.ensures, c.octets_of-eui.ensures.same, c.octets_of-join_eui.ensures.same) at c.write.ensures.written)
