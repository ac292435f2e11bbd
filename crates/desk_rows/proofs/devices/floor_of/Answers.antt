-- The floor is read from the row with this DevEUI, which is a unique key; a null there is no floor.
use Rattle.std.proofs.Common.{[], ◌∷◌}
use Rattle.desk_rows.proofs.DeskTables.{device_key, devices, everything, finds_plain, refl, understood}
use Rattle.desk_rows.proofs.devices.floor_of.Goals as goal

pub returns : goal.returns
unfolding understood everything
returns g c = finds_plain devices device_key c.args.dev_eui c.octets_of-eui.ensures.range (4 ∷ []) (refl, refl) refl refl (λ x. x.floor) (λ b. refl) (λ x fits. tt) (rw (c.blob.ensures, c.octets_of-eui.ensures.same) at c.find.ensures)
