-- The ranges of the types of a message (this project's formats).
use Rattle.std.specs.Prelude.{ℕ, ◌^◌, ◌<◌, ◌≤◌, List, length, get_or, IfSome, IsTrue}
use Rattle.radio_core.specs.Names.{is_name}
use Rattle.registry_core.specs.declared.messages.Envelope.{Envelope}
use Rattle.registry_core.specs.declared.messages.Message.{Message}
use Rattle.registry_core.specs.declared.messages.Message.TheVariants.{SenderAdd, OwnerAdd, GatewayAdd, DeviceAdd, DeviceMove, JoinHeard, FrameHeard, DownBook, DownDone, LimitSet}
use Rattle.registry_core.specs.declared.messages.Report.{Report}
use Rattle.registry_core.specs.Limits.{IsLimit}
use Rattle.registry_core.specs.Settings.{Settings, IsBlock}
use Rattle.registry_core.specs.JsonIntegers.{IsJsonInteger}

abbrev pub IsName : List ℕ → Type 0
IsName text = IsTrue (is_name text)

-- a number of 64 bits
abbrev pub IsEui : ℕ → Type 0
IsEui eui = eui < 2 ^ 64

-- at most 255 octets
pub record IsOctets (octets : List ℕ) : Type 0 where
  pub few : length octets ≤ 255
  pub each : (i : ℕ) → get_or octets i 0 < 2 ^ 8

pub record IsReport (report : Report) : Type 0 where
  pub gateway : IsName report.gateway
  pub time : IsJsonInteger report.time
  pub freq : report.rate.freq < 2 ^ 32
  pub octets : IsOctets report.octets

abbrev pub IsMessage : Message → Type 0
IsMessage (SenderAdd sender role) = IsName sender
IsMessage (OwnerAdd owner) = IsName owner
IsMessage (GatewayAdd gateway) = IsName gateway
IsMessage (DeviceAdd dev_eui join_eui owner) = IsEui dev_eui × IsEui join_eui × IsName owner
IsMessage (DeviceMove dev_eui owner) = IsEui dev_eui × IsName owner
IsMessage (JoinHeard report verdict) = IsReport report
IsMessage (FrameHeard report verdict) = IsReport report × IfSome verdict (λ counter. counter < 2 ^ 32)
IsMessage (DownBook uplink gateway window octets) = IsJsonInteger uplink × IsName gateway × IsOctets octets
IsMessage (DownDone booking sent) = IsJsonInteger booking
IsMessage (LimitSet gateway limit) = IsName gateway × IsLimit limit

pub record IsEnvelope (e : Envelope) : Type 0 where
  pub sender : IsName e.sender
  pub transaction : e.transaction < 2 ^ 32
  pub message : IsMessage e.message

pub record IsSettings (c : Settings) : Type 0 where
  pub receiver : IsName c.receiver
  pub operator : IsName c.operator
  pub block : IsBlock c.base c.addresses
