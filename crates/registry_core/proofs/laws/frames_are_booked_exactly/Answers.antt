-- The checks of a join request and of a data frame, one by one, against what the laws ask of a frame that is booked.
use Rattle.registry_core.proofs.BookedUplinks.{frames_booked_exactly, joined_exactly}
use Rattle.registry_core.proofs.laws.frames_are_booked_exactly.Goals as goal

pub returns-clause-joins : goal.returns-clause-joins
returns-clause-joins c = joined_exactly

pub returns-clause-data : goal.returns-clause-data
returns-clause-data c = frames_booked_exactly
