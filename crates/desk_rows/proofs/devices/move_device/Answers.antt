-- The one row with this DevEUI gets the new owner; its JoinEUI and its floor don't change.
use Rattle.std.proofs.Common.{[], ◌∷◌, eqb-true}
use Rattle.sqlite_value.specs.declared.value.Value.TheVariants.{Text}
use Rattle.desk_rows.specs.Schema.{device_table}
use Rattle.desk_rows.specs.order.Changes.{moved}
use Rattle.desk_rows.proofs.DeskTables.{changes_key, device_index, device_key, devices, everything, refl, understood, update_is}
use Rattle.desk_rows.proofs.devices.move_device.Goals as goal

pub returns-clause-changes : goal.returns-clause-changes
unfolding understood everything
returns-clause-changes g c = changes_key devices (update_is 5 device_table (1 ∷ []) 3 refl) _ refl refl (moved c.args.owner.now) (λ d fits. record { dev_eui = fits.dev_eui; join_eui = fits.join_eui; owner = c.text.ensures.range }) (λ b. refl)
    3 (λ d. Text c.args.owner.now) (λ m d. refl) refl (λ m cells. refl) device_key device_index 4 refl refl refl refl c.args.dev_eui c.octets_of-eui.ensures.range (λ d is. eqb-true d.dev_eui c.args.dev_eui is) (λ b. refl)
    (rw (c.text.ensures.same, c.blob.ensures, c.octets_of-eui.ensures.same) at c.write.ensures.written)
