-- The numbers of the refusals (this project's), from 1.
use Rattle.std.specs.Prelude.{ℕ}
use Rattle.registry_core.specs.declared.answers.Refusal.{Refusal}
use Rattle.registry_core.specs.declared.answers.Refusal.TheVariants.{Malformed, InvalidProtocolVersion, UnknownReceiver, UnknownSender, TransactionReused, WrongRole, BadBody, UnknownType, Exists, UnknownOwner, UnknownGateway, UnknownDevEui, UnknownDevAddr, BadFrame, OutOfBand, MicFailed, JoinEui, Nonce, Addresses, Replayed, Late, Gap, SessionEnded, NoUplink, DownCounter, Collision, Duty, Answered, NoBooking, Done, Time, Unavailable, NotADesk, SchemaVersion}

abbrev pub refusal_number : Refusal → ℕ
refusal_number Malformed = 1
refusal_number InvalidProtocolVersion = 2
refusal_number UnknownReceiver = 3
refusal_number UnknownSender = 4
refusal_number TransactionReused = 5
refusal_number WrongRole = 6
refusal_number BadBody = 7
refusal_number UnknownType = 8
refusal_number Exists = 9
refusal_number UnknownOwner = 10
refusal_number UnknownGateway = 11
refusal_number UnknownDevEui = 12
refusal_number UnknownDevAddr = 13
refusal_number BadFrame = 14
refusal_number OutOfBand = 15
refusal_number MicFailed = 16
refusal_number JoinEui = 17
refusal_number Nonce = 18
refusal_number Addresses = 19
refusal_number Replayed = 20
refusal_number Late = 21
refusal_number Gap = 22
refusal_number SessionEnded = 23
refusal_number NoUplink = 24
refusal_number DownCounter = 25
refusal_number Collision = 26
refusal_number Duty = 27
refusal_number Answered = 28
refusal_number NoBooking = 29
refusal_number Done = 30
refusal_number Time = 31
refusal_number Unavailable = 32
refusal_number NotADesk = 33
refusal_number SchemaVersion = 34
