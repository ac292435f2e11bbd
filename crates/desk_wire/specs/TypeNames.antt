-- The form of a MessageType (this project's form), and the type of each message.
use Rattle.std.specs.Prelude.{ℕ, Bool, ◌&&◌, List, length, nat_le, codes}
use Rattle.std.specs.Char.{is_ascii_alphabetic}
use Rattle.std.specs.List.{list_all}
use Rattle.registry_core.specs.declared.messages.Message.{Message}
use Rattle.registry_core.specs.declared.messages.Message.TheVariants.{SenderAdd, OwnerAdd, GatewayAdd, DeviceAdd, DeviceMove, JoinHeard, FrameHeard, DownBook, DownDone, LimitSet}

-- 1 to 32 ASCII letters
abbrev pub is_type_name : List ℕ → Bool
is_type_name text = nat_le 1 (length text) && nat_le (length text) 32 && list_all is_ascii_alphabetic text

-- the MessageType of a message
abbrev pub type_name_of : Message → List ℕ
type_name_of (SenderAdd sender role) = codes "SenderAdd"
type_name_of (OwnerAdd owner) = codes "OwnerAdd"
type_name_of (GatewayAdd gateway) = codes "GatewayAdd"
type_name_of (DeviceAdd dev_eui join_eui owner) = codes "DeviceAdd"
type_name_of (DeviceMove dev_eui owner) = codes "DeviceMove"
type_name_of (JoinHeard report verdict) = codes "JoinHeard"
type_name_of (FrameHeard report verdict) = codes "FrameHeard"
type_name_of (DownBook uplink gateway window octets) = codes "DownBook"
type_name_of (DownDone booking sent) = codes "DownDone"
type_name_of (LimitSet gateway limit) = codes "LimitSet"
