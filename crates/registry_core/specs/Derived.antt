-- What follows from the facts: by look-ups and by maxima over whole lists.
use Rattle.std.specs.Prelude.{ℕ, ◌+◌, ◌-◌, ◌==◌, Bool, true, false, ◌&&◌, List, map, filter, Option, Some, None, option_map, nat_lt}
use Rattle.std.specs.List.{list_any}
use Rattle.std.specs.Option.{option_map_or}
use Rattle.registry_core.specs.declared.facts.Kind.{Kind}
use Rattle.registry_core.specs.declared.facts.Kind.TheVariants.{Join, Data}
use Rattle.registry_core.specs.declared.facts.Session.{Session}
use Rattle.registry_core.specs.declared.facts.Uplink.{Uplink}
use Rattle.registry_core.specs.Numbered.{item_at, first_that, greatest}
use Rattle.registry_core.specs.Settings.{Settings}

-- n is above the last, or there is none
abbrev pub is_above : ℕ → Option ℕ → Bool
is_above n None = true
is_above n (Some last) = nat_lt last n

-- n is below the last
abbrev pub is_below : ℕ → Option ℕ → Bool
is_below n None = false
is_below n (Some last) = nat_lt n last

-- ---- sessions

-- the address of session n
abbrev pub address_of : Settings → ℕ → ℕ
address_of c n = c.base + n - 1

abbrev pub is_session_of : ℕ → Session → Bool
is_session_of dev_eui session = session.device == dev_eui

-- session n is one of the device
abbrev pub is_of_device : List Session → ℕ → ℕ → Bool
is_of_device sessions dev_eui n = option_map_or (is_session_of dev_eui) (item_at sessions n) false

-- the last nonce: the greatest nonce among the device's sessions
abbrev pub last_nonce : List Session → ℕ → Option ℕ
last_nonce sessions dev_eui = greatest (map (λ session. session.nonce) (filter (is_session_of dev_eui) sessions))

-- the session that has the address, with its number; `base` is the first address of the block
abbrev pub session_with_address : List Session → ℕ → ℕ → Option (ℕ × Session)
session_with_address sessions base addr = let n : ℕ = addr + 1 - base in option_map (λ session. (n, session)) (item_at sessions n)

-- ---- uplinks

abbrev pub is_join : Kind → Bool
is_join Join = true
is_join Data = false

-- a join of the device with this nonce
abbrev pub is_join_with : List Session → ℕ → ℕ → Uplink → Bool
is_join_with sessions dev_eui nonce uplink = is_join uplink.kind && is_of_device sessions dev_eui uplink.session && uplink.counter == nonce

-- the join uplink of the device with this nonce, with its number
abbrev pub join_with : List Uplink → List Session → ℕ → ℕ → Option (ℕ × Uplink)
join_with uplinks sessions dev_eui nonce = first_that (is_join_with sessions dev_eui nonce) uplinks

abbrev pub is_data : Kind → Bool
is_data Join = false
is_data Data = true

-- a data uplink of session n
abbrev pub is_data_of : ℕ → Uplink → Bool
is_data_of n uplink = is_data uplink.kind && uplink.session == n

-- a data uplink of session n with this counter
abbrev pub is_data_with : ℕ → ℕ → Uplink → Bool
is_data_with n counter uplink = is_data_of n uplink && uplink.counter == counter

-- the data uplink of session n with this counter, with its number
abbrev pub data_with : List Uplink → ℕ → ℕ → Option (ℕ × Uplink)
data_with uplinks n counter = first_that (is_data_with n counter) uplinks

-- the last counter: the greatest counter among the session's data uplinks
abbrev pub last_counter : List Uplink → ℕ → Option ℕ
last_counter uplinks n = greatest (map (λ uplink. uplink.counter) (filter (is_data_of n) uplinks))

-- session n, which is one of the device, is below the floor: a later session of the device has a data uplink
abbrev pub is_below_floor : List Uplink → List Session → ℕ → ℕ → Bool
is_below_floor uplinks sessions dev_eui n = list_any (λ u. is_data u.kind && nat_lt n u.session && is_of_device sessions dev_eui u.session) uplinks
