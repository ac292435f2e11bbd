-- Worked texts, computed from the definitions alone.
use Rattle.std.proofs.Common.{◌≡◌, ℕ, List, [], ◌∷◌, ◌++◌, length, None, Ok, Err, true, false, refl}
use Rattle.std.specs.Prelude.{codes}
use Rattle.std.specs.Fmt.{digits}
use Rattle.std.specs.Str.{chars, is_utf8}
use Rattle.hex.specs.Hex.{encode_with}
use Rattle.hex.proofs.OnLiterals.{hex_on_literals}
use Rattle.serde_json.proofs.OnLiterals.{serde_json_on_literals}
use Rattle.radio_core.specs.declared.bands.Band.TheVariants.{B3}
use Rattle.registry_core.specs.declared.answers.Answer.TheVariants.{Success, JoinSuccess, FrameSuccess, DownSuccess}
use Rattle.registry_core.specs.declared.answers.Refusal.TheVariants as refusals
use Rattle.registry_core.specs.declared.messages.Envelope.{Envelope}
use Rattle.registry_core.specs.declared.messages.Message.{Message}
use Rattle.registry_core.specs.declared.messages.Message.TheVariants.{OwnerAdd, DeviceMove}
use Rattle.desk_wire.specs.declared.faults.WireFault.TheVariants.{Malformed, InvalidProtocolVersion, UnknownReceiver, UnknownType, BadBody}
use Rattle.desk_wire.specs.declared.heads.Head.{Head}
use Rattle.desk_wire.specs.Answers.{answer_text, head_of_envelope, refusal_text}
use Rattle.desk_wire.specs.Bodies.{owner_add_of, device_move_of}
use Rattle.desk_wire.specs.Hexadecimal.{addr_digits, decoded, eui_digits, eui_in, octet_digits}
use Rattle.desk_wire.specs.Reading.{common_members_of, envelope_addressed, message_of, reads}
use Rattle.desk_wire.specs.Writing.{message_text}

abbrev desk : List ℕ
desk = codes "desk"

abbrev by_office : ℕ → Message → Envelope
by_office transaction message = record { sender = codes "office"; transaction = transaction; message = message }

abbrev owner_added : Envelope
owner_added = by_office 1 (OwnerAdd (codes "town"))

-- ---- what is written

written : message_text desk owner_added
    ≡ codes "{\"MessageType\":\"OwnerAdd\",\"Owner\":\"town\",\"ProtocolVersion\":\"1.0\",\"ReceiverID\":\"desk\",\"SenderID\":\"office\",\"TransactionID\":1}"
unfolding message_text serde_json_on_literals digits
written = refl

abbrev answered_text : List ℕ
answered_text = codes "{\"MessageType\":\"OwnerAddAns\",\"ProtocolVersion\":\"1.0\",\"ReceiverID\":\"office\",\"Result\":{\"Description\":\"\",\"ResultCode\":\"Success\"},\"SenderID\":\"desk\",\"TransactionID\":1}"

answered : (answer_text desk (head_of_envelope owner_added) Success ≡ answered_text) × (length answered_text ≡ 162)
unfolding answer_text serde_json_on_literals digits
answered = (refl, refl)

malformed : refusal_text desk None refusals.Malformed
    ≡ codes "{\"ProtocolVersion\":\"1.0\",\"Result\":{\"Description\":\"malformed\",\"ResultCode\":\"Other\"},\"SenderID\":\"desk\"}"
unfolding refusal_text serde_json_on_literals
malformed = refl

abbrev to_bridge : ℕ → List ℕ → Head
to_bridge transaction type_name = record { sender = codes "bridge"; transaction = transaction; type_name = type_name }

join_answered : answer_text desk (to_bridge 10 (codes "JoinHeard")) (JoinSuccess 61696 B3 false 0x01a00000 1)
    ≡ codes "{\"Airtime\":61696,\"Band\":\"B3\",\"Copy\":false,\"DevAddr\":\"01a00000\",\"MessageType\":\"JoinHeardAns\",\"ProtocolVersion\":\"1.0\",\"ReceiverID\":\"bridge\",\"Result\":{\"Description\":\"\",\"ResultCode\":\"Success\"},\"SenderID\":\"desk\",\"TransactionID\":10,\"Uplink\":1}"
unfolding answer_text addr_digits octet_digits encode_with serde_json_on_literals digits
join_answered = refl

frame_answered : answer_text desk (to_bridge 12 (codes "FrameHeard")) (FrameSuccess 41216 B3 true 0 0x0004a30b001a2b3c 2)
    ≡ codes "{\"Airtime\":41216,\"Band\":\"B3\",\"Copy\":true,\"Counter\":0,\"DevEUI\":\"0004a30b001a2b3c\",\"MessageType\":\"FrameHeardAns\",\"ProtocolVersion\":\"1.0\",\"ReceiverID\":\"bridge\",\"Result\":{\"Description\":\"\",\"ResultCode\":\"Success\"},\"SenderID\":\"desk\",\"TransactionID\":12,\"Uplink\":2}"
unfolding answer_text eui_digits octet_digits encode_with serde_json_on_literals digits
frame_answered = refl

downlink_answered : answer_text desk (to_bridge 13 (codes "DownBook")) (DownSuccess 46336 B3 1 1706745605061696)
    ≡ codes "{\"Airtime\":46336,\"Band\":\"B3\",\"Booking\":1,\"MessageType\":\"DownBookAns\",\"ProtocolVersion\":\"1.0\",\"ReceiverID\":\"bridge\",\"Result\":{\"Description\":\"\",\"ResultCode\":\"Success\"},\"SenderID\":\"desk\",\"Start\":1706745605061696,\"TransactionID\":13}"
unfolding answer_text serde_json_on_literals digits
downlink_answered = refl

-- ---- what is read

abbrev request : List ℕ
request = codes "{\"ProtocolVersion\":\"1.0\",\"SenderID\":\"office\",\"ReceiverID\":\"desk\",\"TransactionID\":1,\"MessageType\":\"OwnerAdd\",\"Owner\":\"town\"}"

request_read : (reads desk request ≡ Ok owner_added) × (length request ≡ 123)
unfolding common_members_of envelope_addressed message_of owner_add_of serde_json_on_literals is_utf8 chars
request_read = (refl, refl)

-- capital digits behind a prefix
prefix_read : reads desk (codes "{\"ProtocolVersion\":\"1.0\",\"SenderID\":\"office\",\"ReceiverID\":\"desk\",\"TransactionID\":2,\"MessageType\":\"DeviceMove\",\"DevEUI\":\"0x0004A30B001A2B3C\",\"Owner\":\"town\"}")
    ≡ Ok (by_office 2 (DeviceMove 0x0004a30b001a2b3c (codes "town")))
unfolding common_members_of envelope_addressed message_of device_move_of eui_in decoded hex_on_literals serde_json_on_literals is_utf8 chars
prefix_read = refl

abbrev asked : List ℕ → List ℕ → List ℕ → List ℕ
asked version receiver rest =
    codes "{\"ProtocolVersion\":\"" ++ version ++ codes "\",\"SenderID\":\"office\",\"ReceiverID\":\"" ++ receiver ++ codes "\",\"TransactionID\":1,\"MessageType\":" ++ rest

abbrev by_type : List ℕ → Head
by_type type_name = record { sender = codes "office"; transaction = 1; type_name = type_name }

-- the first error: no object, the version, the receiver, the type, a member of the type
first_faults : reads desk (codes "{") ∷ reads desk (asked (codes "1.1") (codes "other") (codes "\"OwnerDrop\"}")) ∷ reads desk (asked (codes "1.0") (codes "other") (codes "\"OwnerDrop\"}"))
    ∷ reads desk (asked (codes "1.0") desk (codes "\"OwnerDrop\"}")) ∷ reads desk (asked (codes "1.0") desk (codes "\"OwnerAdd\"}")) ∷ []
    ≡ Err Malformed ∷ Err (InvalidProtocolVersion (by_type (codes "OwnerDrop"))) ∷ Err (UnknownReceiver (by_type (codes "OwnerDrop")))
    ∷ Err (UnknownType (by_type (codes "OwnerDrop"))) ∷ Err (BadBody (by_type (codes "OwnerAdd"))) ∷ []
unfolding common_members_of envelope_addressed message_of owner_add_of serde_json_on_literals is_utf8 chars
first_faults = refl
