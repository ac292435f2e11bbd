-- The rows ordered by the octets of their DevEUIs are ordered by DevEUI.
use Rattle.desk_rows.proofs.ListedQueries.{reads_devices}
use Rattle.desk_rows.proofs.devices.device_euis.Goals as goal

pub returns : goal.returns
returns g c = reads_devices c.find_all.ensures c.device_euis_text.ensures
