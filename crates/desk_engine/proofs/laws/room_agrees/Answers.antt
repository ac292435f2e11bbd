-- A downlink has room exactly if it is clear of all bookings and every hour stays within the limit, as a DownBook checks.
use Rattle.desk_engine.proofs.RoomLaws.{room_agrees, room_passes_checks}
use Rattle.desk_engine.proofs.laws.room_agrees.Goals as goal

pub returns-clause-checks : goal.returns-clause-checks
returns-clause-checks c = room_passes_checks c.computed_forms_tell.ensures.clear c.computed_forms_tell.ensures.within

pub returns-clause-answers : goal.returns-clause-answers
returns-clause-answers c = room_agrees c.computed_forms_tell.ensures.clear c.computed_forms_tell.ensures.within c.downlinks_are_short.ensures c.rules_are_kept.ensures
