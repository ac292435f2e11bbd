-- The DevEUI's eight octets are a unique key, so the row that is found has that device's JoinEUI and owner.
use Rattle.std.proofs.Common.{[], ◌∷◌}
use Rattle.desk_rows.proofs.DeskTables.{device_key, devices, everything, finds_plain, refl, understood}
use Rattle.desk_rows.proofs.devices.device.Goals as goal

pub returns : goal.returns
unfolding understood everything
returns g c = finds_plain devices device_key c.args.dev_eui c.octets_of-eui.ensures.range (2 ∷ 3 ∷ []) (refl, refl) refl refl (λ x. x.device) (λ b. refl) (λ x fits. (fits.join_eui, fits.owner)) (rw (c.blob.ensures, c.octets_of-eui.ensures.same) at c.find.ensures)
