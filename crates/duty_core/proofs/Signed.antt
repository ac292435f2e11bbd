-- The number that a signed argument represents, and the use of an hour with one more span.
use Rattle.std.proofs.lemmas.Int.{ints, to_z-of_z}
use Rattle.duty_core.proofs.EdgeHours.{hours_within-push, use_of-le, use_of-push}

pub ruleset signed = (ints, to_z-of_z)

pub ruleset uses = (use_of-le, use_of-push)

pub ruleset edges = (hours_within-push)
