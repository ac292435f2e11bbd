-- The texts of messages.
use Rattle.std.specs.Prelude.{ℕ, List, codes}
use Rattle.serde_json.specs.Data.{Data, string, number, unsigned, boolean, object, no_members, member}
use Rattle.serde_json.specs.Written.{compact_text}
use Rattle.radio_core.specs.DataRates.{dr_number}
use Rattle.registry_core.specs.declared.messages.Envelope.{Envelope}
use Rattle.registry_core.specs.declared.messages.Message.{Message}
use Rattle.registry_core.specs.declared.messages.Message.TheVariants.{SenderAdd, OwnerAdd, GatewayAdd, DeviceAdd, DeviceMove, JoinHeard, FrameHeard, DownBook, DownDone, LimitSet}
use Rattle.registry_core.specs.declared.messages.Report.{Report}
use Rattle.desk_wire.specs.Bands.{band_name}
use Rattle.desk_wire.specs.Hexadecimal.{octet_digits, eui_digits}
use Rattle.desk_wire.specs.Members.{integer_or_null}
use Rattle.desk_wire.specs.Roles.{role_name}
use Rattle.desk_wire.specs.Verdicts.{join_verdict_name}
use Rattle.desk_wire.specs.Windows.{window_number}

-- the message of a sender to a receiver that reports a frame as a value, its members in byte order of their names
abbrev pub heard_value : List ℕ → List ℕ → ℕ → List ℕ → Report → Data → Data
heard_value receiver sender transaction type_name report verdict = object
    (member (codes "DataRate") (number (unsigned (dr_number report.rate.dr)))
    (member (codes "Freq") (number (unsigned report.rate.freq))
    (member (codes "Gateway") (string report.gateway)
    (member (codes "MessageType") (string type_name)
    (member (codes "PHYPayload") (string (octet_digits report.octets))
    (member (codes "ProtocolVersion") (string (codes "1.0"))
    (member (codes "ReceiverID") (string receiver)
    (member (codes "SenderID") (string sender)
    (member (codes "Time") (number (unsigned report.time))
    (member (codes "TransactionID") (number (unsigned transaction))
    (member (codes "Verdict") verdict
    no_members)))))))))))

-- the message of a sender to a receiver as a value, its members in byte order of their names
abbrev pub message_value : List ℕ → List ℕ → ℕ → Message → Data
message_value receiver sender transaction (SenderAdd added role) = object
    (member (codes "MessageType") (string (codes "SenderAdd"))
    (member (codes "ProtocolVersion") (string (codes "1.0"))
    (member (codes "ReceiverID") (string receiver)
    (member (codes "Role") (string (role_name role))
    (member (codes "Sender") (string added)
    (member (codes "SenderID") (string sender)
    (member (codes "TransactionID") (number (unsigned transaction))
    no_members)))))))
message_value receiver sender transaction (OwnerAdd owner) = object
    (member (codes "MessageType") (string (codes "OwnerAdd"))
    (member (codes "Owner") (string owner)
    (member (codes "ProtocolVersion") (string (codes "1.0"))
    (member (codes "ReceiverID") (string receiver)
    (member (codes "SenderID") (string sender)
    (member (codes "TransactionID") (number (unsigned transaction))
    no_members))))))
message_value receiver sender transaction (GatewayAdd gateway) = object
    (member (codes "Gateway") (string gateway)
    (member (codes "MessageType") (string (codes "GatewayAdd"))
    (member (codes "ProtocolVersion") (string (codes "1.0"))
    (member (codes "ReceiverID") (string receiver)
    (member (codes "SenderID") (string sender)
    (member (codes "TransactionID") (number (unsigned transaction))
    no_members))))))
message_value receiver sender transaction (DeviceAdd dev_eui join_eui owner) = object
    (member (codes "DevEUI") (string (eui_digits dev_eui))
    (member (codes "JoinEUI") (string (eui_digits join_eui))
    (member (codes "MessageType") (string (codes "DeviceAdd"))
    (member (codes "Owner") (string owner)
    (member (codes "ProtocolVersion") (string (codes "1.0"))
    (member (codes "ReceiverID") (string receiver)
    (member (codes "SenderID") (string sender)
    (member (codes "TransactionID") (number (unsigned transaction))
    no_members))))))))
message_value receiver sender transaction (DeviceMove dev_eui owner) = object
    (member (codes "DevEUI") (string (eui_digits dev_eui))
    (member (codes "MessageType") (string (codes "DeviceMove"))
    (member (codes "Owner") (string owner)
    (member (codes "ProtocolVersion") (string (codes "1.0"))
    (member (codes "ReceiverID") (string receiver)
    (member (codes "SenderID") (string sender)
    (member (codes "TransactionID") (number (unsigned transaction))
    no_members)))))))
message_value receiver sender transaction (JoinHeard report verdict) =
    heard_value receiver sender transaction (codes "JoinHeard") report (string (join_verdict_name verdict))
message_value receiver sender transaction (FrameHeard report verdict) =
    heard_value receiver sender transaction (codes "FrameHeard") report (integer_or_null verdict)
message_value receiver sender transaction (DownBook uplink gateway window octets) = object
    (member (codes "Gateway") (string gateway)
    (member (codes "MessageType") (string (codes "DownBook"))
    (member (codes "PHYPayload") (string (octet_digits octets))
    (member (codes "ProtocolVersion") (string (codes "1.0"))
    (member (codes "ReceiverID") (string receiver)
    (member (codes "SenderID") (string sender)
    (member (codes "TransactionID") (number (unsigned transaction))
    (member (codes "Uplink") (number (unsigned uplink))
    (member (codes "Window") (number (unsigned (window_number window)))
    no_members)))))))))
message_value receiver sender transaction (DownDone booking sent) = object
    (member (codes "Booking") (number (unsigned booking))
    (member (codes "MessageType") (string (codes "DownDone"))
    (member (codes "ProtocolVersion") (string (codes "1.0"))
    (member (codes "ReceiverID") (string receiver)
    (member (codes "SenderID") (string sender)
    (member (codes "Sent") (boolean sent)
    (member (codes "TransactionID") (number (unsigned transaction))
    no_members)))))))
message_value receiver sender transaction (LimitSet gateway limit) = object
    (member (codes "Band") (string (band_name limit.band))
    (member (codes "Gateway") (string gateway)
    (member (codes "Limit") (number (unsigned limit.most))
    (member (codes "MessageType") (string (codes "LimitSet"))
    (member (codes "ProtocolVersion") (string (codes "1.0"))
    (member (codes "ReceiverID") (string receiver)
    (member (codes "SenderID") (string sender)
    (member (codes "TransactionID") (number (unsigned transaction))
    no_members))))))))

-- the text of an envelope for a receiver
unfoldable pub message_text : List ℕ → Envelope → List ℕ
message_text receiver e = compact_text (message_value receiver e.sender e.transaction e.message)
