-- How each error of a text is answered. Out of memory is not answered with a text.
use Rattle.std.specs.Prelude.{Option, Some, None}
use Rattle.registry_core.specs.declared.answers.Refusal.{Refusal}
use Rattle.registry_core.specs.declared.answers.Refusal.TheVariants as refusal
use Rattle.desk_wire.specs.declared.heads.Head.{Head}
use Rattle.desk_wire.specs.declared.faults.WireFault.{WireFault}
use Rattle.desk_wire.specs.declared.faults.WireFault.TheVariants.{Malformed, InvalidProtocolVersion, UnknownReceiver, UnknownType, BadBody, Memory}

-- the refusal
abbrev pub refusal_of_fault : WireFault → Option Refusal
refusal_of_fault Malformed = Some refusal.Malformed
refusal_of_fault (InvalidProtocolVersion head) = Some refusal.InvalidProtocolVersion
refusal_of_fault (UnknownReceiver head) = Some refusal.UnknownReceiver
refusal_of_fault (UnknownType head) = Some refusal.UnknownType
refusal_of_fault (BadBody head) = Some refusal.BadBody
refusal_of_fault Memory = None

-- the head of the request, if one was read
abbrev pub head_of_fault : WireFault → Option Head
head_of_fault Malformed = None
head_of_fault (InvalidProtocolVersion head) = Some head
head_of_fault (UnknownReceiver head) = Some head
head_of_fault (UnknownType head) = Some head
head_of_fault (BadBody head) = Some head
head_of_fault Memory = None
