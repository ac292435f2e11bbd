-- The messages of an operator: the checks of each, in order, and what it adds. Checks and refusals are this project's.
use Rattle.std.specs.Prelude.{ℕ, Bool, true, false, not, List, Option, Some, is_none, is_some, Ok}
use Rattle.duty_core.specs.Computed.{hours_within}
use Rattle.registry_core.specs.declared.answers.Answer.TheVariants.{Success}
use Rattle.registry_core.specs.declared.answers.Refusal.TheVariants.{WrongRole, Exists, UnknownOwner, UnknownGateway, UnknownDevEui, Duty}
use Rattle.registry_core.specs.declared.effects.Effect.TheVariants.{AddsSender, AddsOwner, AddsGateway, AddsDevice, MovesDevice, SetsLimit}
use Rattle.registry_core.specs.declared.messages.Envelope.{Envelope}
use Rattle.registry_core.specs.declared.messages.Role.{Role}
use Rattle.registry_core.specs.declared.messages.Role.TheVariants.{Operator}
use Rattle.registry_core.specs.Bookings.{downlinks_in}
use Rattle.registry_core.specs.Checks.{Checked, ◌>>◌, wants}
use Rattle.registry_core.specs.Decision.{Decision}
use Rattle.registry_core.specs.Limits.{Limit}
use Rattle.registry_core.specs.State.{State}

abbrev pub is_operator : Option Role → Bool
is_operator (Some Operator) = true
is_operator _ = false

-- an operator adds a sender with its role
unfoldable pub sender_add : State → Envelope → List ℕ → Role → Checked Decision
sender_add s e sender role = do
  wants (is_operator (s.senders e.sender)) WrongRole
  wants (is_none (s.senders sender)) Exists
  Ok (AddsSender sender role, Success)

-- an operator adds an owner
unfoldable pub owner_add : State → Envelope → List ℕ → Checked Decision
owner_add s e owner = do
  wants (is_operator (s.senders e.sender)) WrongRole
  wants (not (s.owners owner)) Exists
  Ok (AddsOwner owner, Success)

-- an operator adds a gateway
unfoldable pub gateway_add : State → Envelope → List ℕ → Checked Decision
gateway_add s e gateway = do
  wants (is_operator (s.senders e.sender)) WrongRole
  wants (not (s.gateways gateway)) Exists
  Ok (AddsGateway gateway, Success)

-- an operator adds a device of an owner
unfoldable pub device_add : State → Envelope → ℕ → ℕ → List ℕ → Checked Decision
device_add s e dev_eui join_eui owner = do
  wants (is_operator (s.senders e.sender)) WrongRole
  wants (s.owners owner) UnknownOwner
  wants (is_none (s.devices dev_eui)) Exists
  Ok (AddsDevice dev_eui (record { join_eui = join_eui; owner = owner }), Success)

-- an operator moves a device to an owner, which may be the owner that it has
unfoldable pub device_move : State → Envelope → ℕ → List ℕ → Checked Decision
device_move s e dev_eui owner = do
  wants (is_operator (s.senders e.sender)) WrongRole
  wants (is_some (s.devices dev_eui)) UnknownDevEui
  wants (s.owners owner) UnknownOwner
  Ok (MovesDevice dev_eui owner, Success)

-- an operator sets the limit of a gateway's band; no hour of the band may be above it, dropped bookings aside
unfoldable pub limit_set : State → Envelope → List ℕ → Limit → Checked Decision
limit_set s e gateway limit = do
  wants (is_operator (s.senders e.sender)) WrongRole
  wants (s.gateways gateway) UnknownGateway
  wants (hours_within (downlinks_in s.bookings gateway limit.band) limit.most) Duty
  Ok (SetsLimit gateway limit, Success)
