-- The devices, as contracts see them.
use Rattle.std.specs.Prelude.{ℕ, List, Option, nat_eq}
use Rattle.std.specs.Map.{lookup}
use Rattle.registry_core.specs.declared.facts.Device.{Device}

-- the device with a DevEUI, if there is one
abbrev pub devices_of : List (ℕ × Device) → ℕ → Option Device
devices_of devices dev_eui = lookup (nat_eq dev_eui) devices
