-- The one row with this DevEUI gets the new floor; its JoinEUI and its owner don't change.
use Rattle.std.proofs.Common.{[], ◌∷◌, eqb-true}
use Rattle.desk_rows.specs.Rows.{number}
use Rattle.desk_rows.specs.Schema.{device_table}
use Rattle.desk_rows.specs.order.Keys.{floor_set}
use Rattle.desk_rows.proofs.DeskTables.{changes_key, device_index, device_key, devices, everything, refl, understood, update_is}
use Rattle.desk_rows.proofs.devices.set_floor.Goals as goal

pub returns-clause-changes : goal.returns-clause-changes
unfolding understood everything
returns-clause-changes g c = changes_key devices (update_is 5 device_table (1 ∷ []) 4 refl) _ refl refl (floor_set c.args.session) (λ d fits. record { dev_eui = fits.dev_eui; join_eui = fits.join_eui; owner = fits.owner }) (λ b. refl)
    4 (λ d. number c.args.session) (λ m d. refl) refl (λ m cells. refl) device_key device_index 4 refl refl refl refl c.args.dev_eui c.octets_of-eui.ensures.range (λ d is. eqb-true d.dev_eui c.args.dev_eui is) (λ b. refl)
    (rw (c.json_integer.ensures.same, c.blob.ensures, c.octets_of-eui.ensures.same) at c.write.ensures.written)
