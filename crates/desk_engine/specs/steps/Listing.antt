-- Lists by what a store represents, and a device's line by parts. For private clauses.
use Rattle.std.specs.Prelude.{◌≡◌, ℕ, List, [], ◌∷◌, ◌++◌, length, Option, Some, None, option_and_then, option_map, codes}
use Rattle.std.specs.Fmt.{decimal}
use Rattle.std.specs.List.{flat_map}
use Rattle.registry_core.specs.declared.facts.Device.{Device}
use Rattle.registry_core.specs.Bookings.{next_down}
use Rattle.registry_core.specs.Derived.{address_of, last_counter, last_nonce}
use Rattle.registry_core.specs.Listing.{last_start}
use Rattle.registry_core.specs.Settings.{Settings}
use Rattle.registry_core.specs.State.{State}
use Rattle.desk_store.specs.Kept.{Kept}
use Rattle.desk_store.specs.Looks.{last_transaction}
use Rattle.desk_wire.specs.Hexadecimal.{addr_digits, eui_digits}
use Rattle.desk_engine.specs.declared.device_lists.Traffic.{Traffic}
use Rattle.desk_engine.specs.declared.lists.ListOf.{ListOf}
use Rattle.desk_engine.specs.declared.lists.ListOf.TheVariants.{Senders, Owners, Gateways, Devices}
use Rattle.desk_engine.specs.Lines.{line_feed}
use Rattle.desk_engine.specs.Listing.{IsDeviceList, IsGatewayList, IsOwnerList, IsSenderList, latest_of, or_empty}

-- the list of what a store represents
abbrev pub IsListOf : ListOf → Settings → Kept → List ℕ → Type 0
IsListOf Senders c kept = IsSenderList kept.facts (last_transaction kept.entries)
IsListOf Owners c kept = IsOwnerList kept.facts
IsListOf Gateways c kept = IsGatewayList kept.facts
IsListOf Devices c kept = IsDeviceList c kept.facts

-- the owner of a device, if there is one
abbrev pub owner_in : Option Device → List (List ℕ)
owner_in None = []
owner_in (Some device) = device.owner ∷ []

-- the owners of the devices with these DevEUIs
abbrev pub owners_in : State → List ℕ → List (List ℕ)
owners_in s devices = flat_map (λ dev_eui. owner_in (s.devices dev_eui)) devices

-- the traffic of a session, nothing if there is no session
pub record IsTraffic (s : State) (session : Option ℕ) (traffic : Traffic) : Type 0 where
  pub counter : traffic.last_counter ≡ option_and_then (last_counter s.uplinks) session
  pub next : traffic.next_down ≡ option_map (next_down s.bookings s.uplinks) session
  pub start : traffic.last_start ≡ option_and_then (last_start s.uplinks) session

-- the columns of a session's traffic, with LF
abbrev pub traffic_columns : Option ℕ → Option ℕ → Option ℕ → List ℕ
traffic_columns counter next start = or_empty decimal counter ++ (codes "," ++ (or_empty decimal next ++ (codes "," ++ (or_empty decimal start ++ line_feed ∷ []))))

-- the columns of a device's sessions, and the rest
abbrev pub session_columns : ℕ → List ℕ → List ℕ → List ℕ → List ℕ
session_columns count address nonce rest = decimal count ++ (codes "," ++ (address ++ (codes "," ++ (nonce ++ (codes "," ++ rest)))))

-- the columns of a device, and the rest
abbrev pub device_list_columns : ℕ → Device → List ℕ → List ℕ
device_list_columns dev_eui device rest = eui_digits dev_eui ++ (codes "," ++ (eui_digits device.join_eui ++ (codes "," ++ (device.owner ++ (codes "," ++ rest)))))

-- the columns of a device's sessions, with LF, by their numbers
abbrev pub sessions_text : Settings → State → ℕ → List ℕ → List ℕ
sessions_text c s dev_eui sessions = let latest = latest_of sessions in
    session_columns (length sessions) (or_empty (λ n. addr_digits (address_of c n)) latest) (or_empty decimal (last_nonce s.sessions dev_eui))
    (traffic_columns (option_and_then (last_counter s.uplinks) latest) (option_map (next_down s.bookings s.uplinks) latest) (option_and_then (last_start s.uplinks) latest))
