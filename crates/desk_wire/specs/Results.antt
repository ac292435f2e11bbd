-- The result of an answer: a ResultCode and a Description, members of LoRaWAN Backend Interfaces 1.0. The spelling of the codes, the code
-- of each refusal and the descriptions are this project's.
use Rattle.std.specs.Prelude.{ℕ, List, codes}
use Rattle.registry_core.specs.declared.answers.Refusal.{Refusal}
use Rattle.registry_core.specs.declared.answers.Refusal.TheVariants.{Malformed, InvalidProtocolVersion, UnknownReceiver, UnknownSender, TransactionReused, WrongRole, BadBody, UnknownType, Exists, UnknownOwner, UnknownGateway, UnknownDevEui, UnknownDevAddr, BadFrame, OutOfBand, MicFailed, JoinEui, Nonce, Addresses, Replayed, Late, Gap, SessionEnded, NoUplink, DownCounter, Collision, Duty, Answered, NoBooking, Done, Time, Unavailable, NotADesk, SchemaVersion}
use Rattle.registry_core.specs.declared.answers.Answer.{Answer}
use Rattle.registry_core.specs.declared.answers.Answer.TheVariants.{Success, JoinSuccess, FrameSuccess, DownSuccess, Refused}

-- ---- the table of refusals. The last three aren't answered with a text: their lines make the table total

abbrev pub refusal_code : Refusal → List ℕ
refusal_code Malformed = codes "Other"
refusal_code InvalidProtocolVersion = codes "InvalidProtocolVersion"
refusal_code UnknownReceiver = codes "UnknownReceiver"
refusal_code UnknownSender = codes "UnknownSender"
refusal_code TransactionReused = codes "Other"
refusal_code WrongRole = codes "Other"
refusal_code BadBody = codes "Other"
refusal_code UnknownType = codes "Other"
refusal_code Exists = codes "Other"
refusal_code UnknownOwner = codes "Other"
refusal_code UnknownGateway = codes "Other"
refusal_code UnknownDevEui = codes "UnknownDevEUI"
refusal_code UnknownDevAddr = codes "UnknownDevAddr"
refusal_code BadFrame = codes "Other"
refusal_code OutOfBand = codes "Other"
refusal_code MicFailed = codes "MICFailed"
refusal_code JoinEui = codes "JoinReqFailed"
refusal_code Nonce = codes "JoinReqFailed"
refusal_code Addresses = codes "Other"
refusal_code Replayed = codes "Other"
refusal_code Late = codes "Other"
refusal_code Gap = codes "Other"
refusal_code SessionEnded = codes "Other"
refusal_code NoUplink = codes "Other"
refusal_code DownCounter = codes "Other"
refusal_code Collision = codes "XmitFailed"
refusal_code Duty = codes "XmitFailed"
refusal_code Answered = codes "XmitFailed"
refusal_code NoBooking = codes "Other"
refusal_code Done = codes "Other"
refusal_code Time = codes "Other"
refusal_code Unavailable = codes "Other"
refusal_code NotADesk = codes "Other"
refusal_code SchemaVersion = codes "Other"

abbrev pub refusal_description : Refusal → List ℕ
refusal_description Malformed = codes "malformed"
refusal_description InvalidProtocolVersion = codes ""
refusal_description UnknownReceiver = codes ""
refusal_description UnknownSender = codes ""
refusal_description TransactionReused = codes "transaction"
refusal_description WrongRole = codes "role"
refusal_description BadBody = codes "body"
refusal_description UnknownType = codes "type"
refusal_description Exists = codes "exists"
refusal_description UnknownOwner = codes "owner"
refusal_description UnknownGateway = codes "gateway"
refusal_description UnknownDevEui = codes ""
refusal_description UnknownDevAddr = codes ""
refusal_description BadFrame = codes "frame"
refusal_description OutOfBand = codes "band"
refusal_description MicFailed = codes ""
refusal_description JoinEui = codes "joineui"
refusal_description Nonce = codes "nonce"
refusal_description Addresses = codes "addresses"
refusal_description Replayed = codes "replayed"
refusal_description Late = codes "late"
refusal_description Gap = codes "gap"
refusal_description SessionEnded = codes "session"
refusal_description NoUplink = codes "uplink"
refusal_description DownCounter = codes "fcntdown"
refusal_description Collision = codes "collision"
refusal_description Duty = codes "duty"
refusal_description Answered = codes "answered"
refusal_description NoBooking = codes "booking"
refusal_description Done = codes "done"
refusal_description Time = codes "time"
refusal_description Unavailable = codes ""
refusal_description NotADesk = codes ""
refusal_description SchemaVersion = codes ""

-- ---- the result of an answer

abbrev pub result_code : Answer → List ℕ
result_code Success = codes "Success"
result_code (JoinSuccess airtime band copy addr uplink) = codes "Success"
result_code (FrameSuccess airtime band copy counter dev_eui uplink) = codes "Success"
result_code (DownSuccess airtime band booking start) = codes "Success"
result_code (Refused refusal) = refusal_code refusal

abbrev pub result_description : Answer → List ℕ
result_description Success = codes ""
result_description (JoinSuccess airtime band copy addr uplink) = codes ""
result_description (FrameSuccess airtime band copy counter dev_eui uplink) = codes ""
result_description (DownSuccess airtime band booking start) = codes ""
result_description (Refused refusal) = refusal_description refusal
