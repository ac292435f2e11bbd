-- The members of each type: which message they are, and the value of a message with them.
use Rattle.std.specs.Prelude.{◌^◌, Option, Some, codes}
use Rattle.serde_json.specs.Data.{Data}
use Rattle.registry_core.specs.declared.messages.Message.{Message}
use Rattle.registry_core.specs.declared.messages.Message.TheVariants.{SenderAdd, OwnerAdd, GatewayAdd, DeviceAdd, DeviceMove, JoinHeard, FrameHeard, DownBook, DownDone, LimitSet}
use Rattle.registry_core.specs.JsonIntegers.{json_integer_limit}
use Rattle.desk_wire.specs.Members.{name_at, json_integer_at, integer_or_null_at, octets_at, eui_at, role_at, join_verdict_at, window_at, band_named_at, limit_at, boolean_at}
use Rattle.desk_wire.specs.Optional.{◌>>=◌}
use Rattle.desk_wire.specs.Reports.{report_of}

-- ---- reading

unfoldable pub sender_add_of : Data → Option Message
sender_add_of value = do
  sender ← name_at (codes "Sender") value
  role ← role_at (codes "Role") value
  Some (SenderAdd sender role)

unfoldable pub owner_add_of : Data → Option Message
owner_add_of value = do
  owner ← name_at (codes "Owner") value
  Some (OwnerAdd owner)

unfoldable pub gateway_add_of : Data → Option Message
gateway_add_of value = do
  gateway ← name_at (codes "Gateway") value
  Some (GatewayAdd gateway)

unfoldable pub device_add_of : Data → Option Message
device_add_of value = do
  dev_eui ← eui_at (codes "DevEUI") value
  join_eui ← eui_at (codes "JoinEUI") value
  owner ← name_at (codes "Owner") value
  Some (DeviceAdd dev_eui join_eui owner)

unfoldable pub device_move_of : Data → Option Message
device_move_of value = do
  dev_eui ← eui_at (codes "DevEUI") value
  owner ← name_at (codes "Owner") value
  Some (DeviceMove dev_eui owner)

unfoldable pub join_heard_of : Data → Option Message
join_heard_of value = do
  report ← report_of value
  verdict ← join_verdict_at (codes "Verdict") value
  Some (JoinHeard report verdict)

unfoldable pub frame_heard_of : Data → Option Message
frame_heard_of value = do
  report ← report_of value
  verdict ← integer_or_null_at (codes "Verdict") (2 ^ 32) value
  Some (FrameHeard report verdict)

unfoldable pub down_book_of : Data → Option Message
down_book_of value = do
  uplink ← json_integer_at (codes "Uplink") json_integer_limit value
  gateway ← name_at (codes "Gateway") value
  window ← window_at (codes "Window") value
  octets ← octets_at (codes "PHYPayload") value
  Some (DownBook uplink gateway window octets)

unfoldable pub down_done_of : Data → Option Message
down_done_of value = do
  booking ← json_integer_at (codes "Booking") json_integer_limit value
  sent ← boolean_at (codes "Sent") value
  Some (DownDone booking sent)

unfoldable pub limit_set_of : Data → Option Message
limit_set_of value = do
  gateway ← name_at (codes "Gateway") value
  band ← band_named_at (codes "Band") value
  limit ← limit_at (codes "Limit") band value
  Some (LimitSet gateway limit)
