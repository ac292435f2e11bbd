-- A shorter span shares no more with another span or an hour, so it has room too; two greatest lengths are equal.
use Rattle.duty_core.proofs.Lengths.{room_is_unique, room_of_shorter}
use Rattle.duty_core.proofs.laws.shorter_has_room.Goals as goal

pub returns-clause-shorter : goal.returns-clause-shorter
returns-clause-shorter c = room_of_shorter

pub returns-clause-unique : goal.returns-clause-unique
returns-clause-unique c = room_is_unique
