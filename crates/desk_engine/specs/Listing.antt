-- Lists as texts, octet for octet: the senders, the owners, the gateways and the devices of a desk; and one of its devices.
use Rattle.std.specs.Prelude.{◌≡◌, ◌-◌, ℕ, Bool, false, List, [], ◌∷◌, ◌++◌, length, count_by, filter, map, slice_get, Option, Some, None, is_some, option_and_then, Result, IfOk, IfErr, OnOk, IsTrue, bytes_eq, codes}
use Rattle.std.specs.Global.{Vec}
use Rattle.std.specs.Fmt.{decimal}
use Rattle.std.specs.List.{flat_map}
use Rattle.std.specs.Option.{option_map_or}
use Rattle.radio_core.specs.Bands.{bands}
use Rattle.registry_core.specs.declared.facts.Device.{Device}
use Rattle.registry_core.specs.declared.messages.Envelope.{Envelope}
use Rattle.registry_core.specs.declared.messages.Role.{Role}
use Rattle.registry_core.specs.Bookings.{limit_standing, next_down}
use Rattle.registry_core.specs.Derived.{address_of, last_counter, last_nonce}
use Rattle.registry_core.specs.Heard.{state_of}
use Rattle.registry_core.specs.Listing.{AreDevices, AreNames, has_device, has_sender, last_start, sessions_of}
use Rattle.registry_core.specs.Numbered.{greatest}
use Rattle.registry_core.specs.Reports.{is_owned}
use Rattle.registry_core.specs.Settings.{Settings}
use Rattle.registry_core.specs.State.{State}
use Rattle.desk_store.specs.Calls.{IsUnavailability}
use Rattle.desk_wire.specs.Hexadecimal.{addr_digits, eui_digits, eui_of_digits}
use Rattle.desk_wire.specs.Optional.{◌>>=◌}
use Rattle.desk_wire.specs.Roles.{role_name}
use Rattle.desk_engine.specs.declared.lists.ListOf.{ListOf}
use Rattle.desk_engine.specs.declared.lists.ListOf.TheVariants.{Senders, Owners, Gateways, Devices}
use Rattle.desk_engine.specs.declared.report_faults.ReportFault.{ReportFault}
use Rattle.desk_engine.specs.declared.report_faults.ReportFault.TheVariants as why
use Rattle.desk_engine.specs.Lines.{line_feed}

-- ---- tables

-- a table as a text: its header, and a line for each item
abbrev pub table_text : {X : Type 0} → List ℕ → (X → List ℕ) → List X → List ℕ
table_text header line items = header ++ flat_map line items

-- what isn't there is an empty field
abbrev pub or_empty : {X : Type 0} → (X → List ℕ) → Option X → List ℕ
or_empty write None = []
or_empty write (Some x) = write x

-- ---- the senders

abbrev pub senders_header : List ℕ
senders_header = codes "sender,role,last_transaction" ++ line_feed ∷ []

-- the greatest transaction number with which a message of the sender was heard
abbrev pub last_heard : List Envelope → List ℕ → Option ℕ
last_heard heard sender = greatest (map (λ (e : Envelope). e.transaction) (filter (λ (e : Envelope). bytes_eq e.sender sender) heard))

-- a sender's line: its name, its role, and that number
unfoldable pub sender_line : List ℕ → Option Role → Option ℕ → List ℕ
sender_line name role last = name ++ (codes "," ++ (or_empty role_name role ++ (codes "," ++ (or_empty decimal last ++ line_feed ∷ []))))

pub record IsSenderList (s : State) (last : List ℕ → Option ℕ) (text : List ℕ) : Type 0 where
  -- the senders' names, each once, ordered by their octets
  pub names : List (List ℕ)
  pub names_are : AreNames (has_sender s) names
  pub text_is : text ≡ table_text senders_header (λ name. sender_line name (s.senders name) (last name)) names

-- ---- the owners

abbrev pub owners_header : List ℕ
owners_header = codes "owner,devices" ++ line_feed ∷ []

-- an owner's line: its name, and how many devices are its own now
unfoldable pub owner_line : List ℕ → ℕ → List ℕ
owner_line name count = name ++ (codes "," ++ (decimal count ++ line_feed ∷ []))

pub record IsOwnerList (s : State) (text : List ℕ) : Type 0 where
  -- the owners' names, each once, ordered by their octets
  pub names : List (List ℕ)
  pub names_are : AreNames s.owners names
  -- all devices, each once
  pub devices : List ℕ
  pub devices_are : AreDevices (has_device s) devices
  pub text_is : text ≡ table_text owners_header (λ owner. owner_line owner (count_by (is_owned s owner) devices)) names

-- ---- the gateways

abbrev pub gateways_header : List ℕ
gateways_header = codes "gateway,b1_limit_us,b2_limit_us,b3_limit_us,b4_limit_us,b5_limit_us,b6_limit_us" ++ line_feed ∷ []

-- a gateway's line: its name, and the limit of each band within any hour, in microseconds
unfoldable pub gateway_line : State → List ℕ → List ℕ
gateway_line s name = name ++ (flat_map (λ band. codes "," ++ decimal (limit_standing s name band)) bands ++ line_feed ∷ [])

pub record IsGatewayList (s : State) (text : List ℕ) : Type 0 where
  -- the gateways' names, each once, ordered by their octets
  pub names : List (List ℕ)
  pub names_are : AreNames s.gateways names
  pub text_is : text ≡ table_text gateways_header (gateway_line s) names

-- ---- the devices

abbrev pub devices_header : List ℕ
devices_header = codes "dev_eui,join_eui,owner,sessions,dev_addr,last_nonce,last_counter,next_downlink_counter,last_start_us" ++ line_feed ∷ []

-- the latest session, of the numbers of a device's sessions
abbrev pub latest_of : List ℕ → Option ℕ
latest_of sessions = slice_get sessions (length sessions - 1)

-- A device's line, by the numbers of its sessions: its DevEUI, its JoinEUI, its owner, and how many sessions it has; the address of its
-- latest session; the device's last nonce; and of the latest session the last counter, the next downlink counter, and the greatest start of
-- its uplinks in microseconds since 1970 UTC.
unfoldable pub device_list_line : Settings → State → ℕ → Device → List ℕ → List ℕ
device_list_line c s dev_eui device sessions = let latest = latest_of sessions in
    eui_digits dev_eui
    ++ (codes "," ++ (eui_digits device.join_eui
    ++ (codes "," ++ (device.owner
    ++ (codes "," ++ (decimal (length sessions)
    ++ (codes "," ++ (or_empty (λ n. addr_digits (address_of c n)) latest
    ++ (codes "," ++ (or_empty decimal (last_nonce s.sessions dev_eui)
    ++ (codes "," ++ (or_empty decimal (option_and_then (last_counter s.uplinks) latest)
    ++ (codes "," ++ (or_empty (λ n. decimal (next_down s.bookings s.uplinks n)) latest
    ++ (codes "," ++ (or_empty decimal (option_and_then (last_start s.uplinks) latest)
    ++ line_feed ∷ []))))))))))))))))

-- the line of the device with this DevEUI, if there is one
abbrev pub listed_device_line : Settings → State → ℕ → List ℕ
listed_device_line c s dev_eui = option_map_or (λ device. device_list_line c s dev_eui device (sessions_of s.sessions dev_eui)) (s.devices dev_eui) []

pub record IsDeviceList (c : Settings) (s : State) (text : List ℕ) : Type 0 where
  -- the DevEUIs, each once, in order
  pub devices : List ℕ
  pub devices_are : AreDevices (has_device s) devices
  pub text_is : text ≡ table_text devices_header (listed_device_line c s) devices

-- ---- a list

-- the list after this log
abbrev pub IsList : ListOf → Settings → List Envelope → List ℕ → Type 0
IsList Senders c heard = IsSenderList (state_of c heard) (last_heard heard)
IsList Owners c heard = IsOwnerList (state_of c heard)
IsList Gateways c heard = IsGatewayList (state_of c heard)
IsList Devices c heard = IsDeviceList c (state_of c heard)

-- why there is no list
abbrev pub IsListFault : ReportFault → Type 0
IsListFault (why.Unavailable fault) = IsUnavailability fault
IsListFault _ = ⊥

-- the answer after this log: the list, or why there is none
pub record IsListAnswer (of : ListOf) (c : Settings) (heard : List Envelope) (answer : Result (List ℕ) ReportFault) : Type 0 where
  pub text : IfOk answer (IsList of c heard)
  pub fault : IfErr answer IsListFault

-- if there is a list, it is that after this log
abbrev pub IfList : ListOf → Result (Vec ℕ) ReportFault → Settings → List Envelope → Type 0
IfList of result c heard = IfOk result (λ text. IsList of c heard text.items)

-- ---- one device

-- there is a device with the DevEUI that the text writes; a text in another form is no device's
abbrev pub is_device : State → List ℕ → Bool
is_device s text = is_some (eui_of_digits text >>= s.devices)

-- the header, and the device's line
abbrev pub device_text : Settings → State → List ℕ → List ℕ
device_text c s text = devices_header ++ option_map_or (listed_device_line c s) (eui_of_digits text) []

-- why there is no text of a device
abbrev pub IsDeviceFault : State → List ℕ → ReportFault → Type 0
IsDeviceFault s text why.Device = is_device s text ≡ false
IsDeviceFault s text (why.Unavailable fault) = IsUnavailability fault
IsDeviceFault s text _ = ⊥

-- the answer after this log: the device's text, or why there is none
pub record IsDeviceAnswer (c : Settings) (heard : List Envelope) (text : List ℕ) (answer : Result (List ℕ) ReportFault) : Type 0 where
  pub known : OnOk answer (IsTrue (is_device (state_of c heard) text))
  pub report : IfOk answer (λ told. told ≡ device_text c (state_of c heard) text)
  pub fault : IfErr answer (IsDeviceFault (state_of c heard) text)
