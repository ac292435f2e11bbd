-- What reports are about: an owner's devices, the uplinks of a device, the downlinks of a gateway, and their use of the air.
use Rattle.std.specs.Prelude.{◌≡◌, ℕ, ◌==◌, ◌≤◌, Bool, true, false, ◌&&◌, List, length, map, filter, Option, Some, None, IsTrue, nat_lt, ℤ, pos, int_le, int_lt, sum_by, bytes_eq}
use Rattle.std.specs.Option.{option_map_or}
use Rattle.radio_core.specs.declared.bands.Band.{Band}
use Rattle.radio_core.specs.Bands.{band_number}
use Rattle.duty_core.specs.Use.{Interval, IsPeak}
use Rattle.registry_core.specs.declared.facts.Device.{Device}
use Rattle.registry_core.specs.declared.facts.Session.{Session}
use Rattle.registry_core.specs.declared.facts.Uplink.{Uplink}
use Rattle.registry_core.specs.Derived.{is_of_device}
use Rattle.registry_core.specs.State.{State}

-- ---- how much the air was used

-- how many times, for how long in all, and the greatest use of any sliding hour, in microseconds
pub record Use : Type 0 where
  pub count : ℕ
  pub airtime : ℕ
  pub peak : ℕ

pub record IsUse (intervals : List Interval) (told : Use) : Type 0 where
  pub count : told.count ≡ length intervals
  pub airtime : told.airtime ≡ sum_by (λ a. a.len) intervals
  pub peak : IsPeak intervals told.peak

-- ---- an owner's devices

-- the device's owner is this one now
abbrev pub is_owned : State → List ℕ → ℕ → Bool
is_owned s owner dev_eui = option_map_or (λ (device : Device). bytes_eq device.owner owner) (s.devices dev_eui) false

-- n is above m, if there is an m
abbrev pub is_after : Option ℕ → ℕ → Bool
is_after None n = true
is_after (Some m) n = nat_lt m n

-- the least DevEUI of the owner's devices above `after`, if there is one
pub record IsNextDevice (s : State) (owner : List ℕ) (after next : Option ℕ) : Type 0 where
  pub owned : (dev_eui : ℕ) → next ≡ Some dev_eui → IsTrue (is_owned s owner dev_eui && is_after after dev_eui)
  pub least : (dev_eui : ℕ) → IsTrue (is_owned s owner dev_eui && is_after after dev_eui) → (n : ℕ) × (next ≡ Some n) × (n ≤ dev_eui)

-- ---- a device's uplinks

-- the uplink is the device's, and starts at `from` or later and before `to`, in microseconds since 1970 UTC
abbrev pub is_uplink_from : List Session → ℕ → ℤ → ℤ → Uplink → Bool
is_uplink_from sessions dev_eui from to uplink = is_of_device sessions dev_eui uplink.session && int_le from (pos uplink.start) && int_lt (pos uplink.start) to

-- those uplinks, joins and data
abbrev pub uplinks_from : List Uplink → List Session → ℕ → ℤ → ℤ → List Uplink
uplinks_from uplinks sessions dev_eui from to = filter (is_uplink_from sessions dev_eui from to) uplinks

-- the uplink's time on air
abbrev pub interval_of : Uplink → Interval
interval_of uplink = record { start = pos uplink.start; len = uplink.airtime }

-- the uplink is booked in the band
abbrev pub is_in_band : Band → Uplink → Bool
is_in_band band uplink = band_number uplink.band == band_number band

-- the times on air of those uplinks that are booked in the band
abbrev pub in_band : Band → List Uplink → List Interval
in_band band uplinks = map interval_of (filter (is_in_band band) uplinks)
