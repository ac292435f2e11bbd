-- The texts of answers.
use Rattle.std.specs.Prelude.{ℕ, List, Option, Some, None, codes, ◌++◌}
use Rattle.serde_json.specs.Data.{Data, string, number, unsigned, boolean, object, no_members, member}
use Rattle.serde_json.specs.Written.{compact_text}
use Rattle.registry_core.specs.declared.answers.Answer.{Answer}
use Rattle.registry_core.specs.declared.answers.Answer.TheVariants.{Success, JoinSuccess, FrameSuccess, DownSuccess, Refused}
use Rattle.registry_core.specs.declared.answers.Refusal.{Refusal}
use Rattle.registry_core.specs.declared.messages.Envelope.{Envelope}
use Rattle.desk_wire.specs.Bands.{band_name}
use Rattle.desk_wire.specs.Hexadecimal.{eui_digits, addr_digits}
use Rattle.desk_wire.specs.Results.{result_code, result_description}
use Rattle.desk_wire.specs.TypeNames.{type_name_of}
use Rattle.desk_wire.specs.declared.heads.Head.{Head}

-- what an answer repeats of its request
abbrev pub head_of_envelope : Envelope → Head
head_of_envelope e = record { sender = e.sender; transaction = e.transaction; type_name = type_name_of e.message }

-- ---- the values, their members in byte order of their names

-- the member Result of LoRaWAN Backend Interfaces 1.0
abbrev pub result_value : Answer → Data
result_value answer = object
    (member (codes "Description") (string (result_description answer))
    (member (codes "ResultCode") (string (result_code answer))
    no_members))

-- an answer with no members but those of every answer
abbrev pub plain_answer_value : List ℕ → Head → Answer → Data
plain_answer_value receiver head answer = object
    (member (codes "MessageType") (string (head.type_name ++ codes "Ans"))
    (member (codes "ProtocolVersion") (string (codes "1.0"))
    (member (codes "ReceiverID") (string head.sender)
    (member (codes "Result") (result_value answer)
    (member (codes "SenderID") (string receiver)
    (member (codes "TransactionID") (number (unsigned head.transaction))
    no_members))))))

-- the receiver's answer to a request with this head
abbrev pub answer_value : List ℕ → Head → Answer → Data
answer_value receiver head Success = plain_answer_value receiver head Success
answer_value receiver head (JoinSuccess airtime band copy addr uplink) = object
    (member (codes "Airtime") (number (unsigned airtime))
    (member (codes "Band") (string (band_name band))
    (member (codes "Copy") (boolean copy)
    (member (codes "DevAddr") (string (addr_digits addr))
    (member (codes "MessageType") (string (head.type_name ++ codes "Ans"))
    (member (codes "ProtocolVersion") (string (codes "1.0"))
    (member (codes "ReceiverID") (string head.sender)
    (member (codes "Result") (result_value (JoinSuccess airtime band copy addr uplink))
    (member (codes "SenderID") (string receiver)
    (member (codes "TransactionID") (number (unsigned head.transaction))
    (member (codes "Uplink") (number (unsigned uplink))
    no_members)))))))))))
answer_value receiver head (FrameSuccess airtime band copy counter dev_eui uplink) = object
    (member (codes "Airtime") (number (unsigned airtime))
    (member (codes "Band") (string (band_name band))
    (member (codes "Copy") (boolean copy)
    (member (codes "Counter") (number (unsigned counter))
    (member (codes "DevEUI") (string (eui_digits dev_eui))
    (member (codes "MessageType") (string (head.type_name ++ codes "Ans"))
    (member (codes "ProtocolVersion") (string (codes "1.0"))
    (member (codes "ReceiverID") (string head.sender)
    (member (codes "Result") (result_value (FrameSuccess airtime band copy counter dev_eui uplink))
    (member (codes "SenderID") (string receiver)
    (member (codes "TransactionID") (number (unsigned head.transaction))
    (member (codes "Uplink") (number (unsigned uplink))
    no_members))))))))))))
answer_value receiver head (DownSuccess airtime band booking start) = object
    (member (codes "Airtime") (number (unsigned airtime))
    (member (codes "Band") (string (band_name band))
    (member (codes "Booking") (number (unsigned booking))
    (member (codes "MessageType") (string (head.type_name ++ codes "Ans"))
    (member (codes "ProtocolVersion") (string (codes "1.0"))
    (member (codes "ReceiverID") (string head.sender)
    (member (codes "Result") (result_value (DownSuccess airtime band booking start))
    (member (codes "SenderID") (string receiver)
    (member (codes "Start") (number (unsigned start))
    (member (codes "TransactionID") (number (unsigned head.transaction))
    no_members))))))))))
answer_value receiver head (Refused refusal) = plain_answer_value receiver head (Refused refusal)

-- the receiver's answer to a text with no head
abbrev pub headless_value : List ℕ → Answer → Data
headless_value receiver answer = object
    (member (codes "ProtocolVersion") (string (codes "1.0"))
    (member (codes "Result") (result_value answer)
    (member (codes "SenderID") (string receiver)
    no_members)))

abbrev pub refusal_value : List ℕ → Option Head → Refusal → Data
refusal_value receiver (Some head) refusal = answer_value receiver head (Refused refusal)
refusal_value receiver None refusal = headless_value receiver (Refused refusal)

-- ---- the texts

unfoldable pub answer_text : List ℕ → Head → Answer → List ℕ
answer_text receiver head answer = compact_text (answer_value receiver head answer)

unfoldable pub refusal_text : List ℕ → Option Head → Refusal → List ℕ
refusal_text receiver head refusal = compact_text (refusal_value receiver head refusal)
