-- The envelope that a text is.
use Rattle.std.specs.Prelude.{◌≡◌, ℕ, ◌^◌, List, Option, Some, None, Result, Ok, Err, codes, if◌then◌else◌, ⊤}
use Rattle.std.specs.Str.{bytes_eq, is_utf8}
use Rattle.std.specs.Option.{ok_or}
use Rattle.serde_json.specs.Data.{Data}
use Rattle.serde_json.specs.Read.{read}
use Rattle.registry_core.specs.declared.messages.Envelope.{Envelope}
use Rattle.registry_core.specs.declared.messages.Message.{Message}
use Rattle.desk_wire.specs.Bodies.{sender_add_of, owner_add_of, gateway_add_of, device_add_of, device_move_of, join_heard_of, frame_heard_of, down_book_of, down_done_of, limit_set_of}
use Rattle.desk_wire.specs.Members.{text_at, name_at, type_name_at, json_integer_at}
use Rattle.desk_wire.specs.Optional.{◌>>=◌}
use Rattle.desk_wire.specs.declared.heads.Head.{Head}
use Rattle.desk_wire.specs.declared.faults.WireFault.{WireFault}
use Rattle.desk_wire.specs.declared.faults.WireFault.TheVariants.{Malformed, InvalidProtocolVersion, UnknownReceiver, UnknownType, BadBody, Memory}
use Rattle.desk_wire.specs.declared.reading.CommonMembers.{CommonMembers}

-- ---- the members that every message has

-- LoRaWAN Backend Interfaces 1.0 names these members; their forms are this project's
unfoldable pub common_members_of : Data → Option CommonMembers
common_members_of value = do
  version ← text_at (codes "ProtocolVersion") value
  sender ← name_at (codes "SenderID") value
  receiver ← name_at (codes "ReceiverID") value
  transaction ← json_integer_at (codes "TransactionID") (2 ^ 32) value
  type_name ← type_name_at (codes "MessageType") value
  Some (record {
    is_current = bytes_eq version (codes "1.0");
    receiver = receiver;
    head = record { sender = sender; transaction = transaction; type_name = type_name };
  })

-- ---- the first error, or the envelope

-- the message, by its type's name
unfoldable pub message_of : Head → Data → Result Message WireFault
message_of head value =
    if bytes_eq head.type_name (codes "SenderAdd") then ok_or (sender_add_of value) (BadBody head)
    else if bytes_eq head.type_name (codes "OwnerAdd") then ok_or (owner_add_of value) (BadBody head)
    else if bytes_eq head.type_name (codes "GatewayAdd") then ok_or (gateway_add_of value) (BadBody head)
    else if bytes_eq head.type_name (codes "DeviceAdd") then ok_or (device_add_of value) (BadBody head)
    else if bytes_eq head.type_name (codes "DeviceMove") then ok_or (device_move_of value) (BadBody head)
    else if bytes_eq head.type_name (codes "JoinHeard") then ok_or (join_heard_of value) (BadBody head)
    else if bytes_eq head.type_name (codes "FrameHeard") then ok_or (frame_heard_of value) (BadBody head)
    else if bytes_eq head.type_name (codes "DownBook") then ok_or (down_book_of value) (BadBody head)
    else if bytes_eq head.type_name (codes "DownDone") then ok_or (down_done_of value) (BadBody head)
    else if bytes_eq head.type_name (codes "LimitSet") then ok_or (limit_set_of value) (BadBody head)
    else Err (UnknownType head)

abbrev pub with_message : Head → Result Message WireFault → Result Envelope WireFault
with_message head (Ok message) = Ok (record { sender = head.sender; transaction = head.transaction; message = message })
with_message head (Err fault) = Err fault

-- the version is checked first, then the receiver, then the type and its members
unfoldable pub envelope_addressed : List ℕ → CommonMembers → Data → Result Envelope WireFault
envelope_addressed receiver common value =
    if common.is_current then
    (if bytes_eq common.receiver receiver then with_message common.head (message_of common.head value)
    else Err (UnknownReceiver common.head))
    else Err (InvalidProtocolVersion common.head)

-- a value that lacks a member of every message is malformed
abbrev pub envelope_of : List ℕ → Option CommonMembers → Data → Result Envelope WireFault
envelope_of receiver None value = Err Malformed
envelope_of receiver (Some common) value = envelope_addressed receiver common value

abbrev pub reads_value : List ℕ → Option Data → Result Envelope WireFault
reads_value receiver None = Err Malformed
reads_value receiver (Some value) = envelope_of receiver (common_members_of value) value

-- the value that a text is: JSON (RFC 8259) in UTF-8, as serde_json reads it
abbrev pub value_of : List ℕ → Option Data
value_of text = if is_utf8 text then read text else None

-- the envelope that a text is for this receiver, or its first error
abbrev pub reads : List ℕ → List ℕ → Result Envelope WireFault
reads receiver text = reads_value receiver (value_of text)

-- ---- what a function returns

abbrev pub IsUnlessMemory : WireFault → Result Envelope WireFault → Type 0
IsUnlessMemory Memory wanted = ⊤
IsUnlessMemory fault wanted = wanted ≡ Err fault

-- the function returns `wanted`, unless memory ran out
abbrev pub Gives : Result Envelope WireFault → Result Envelope WireFault → Type 0
Gives (Ok envelope) wanted = wanted ≡ Ok envelope
Gives (Err fault) wanted = IsUnlessMemory fault wanted
