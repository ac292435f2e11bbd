-- The file is opened and audited with the scratch file, or it can't be opened.
use Rattle.std.proofs.Common.{Err, inl, inr, refl}
use Rattle.std.proofs.KnownBytes.{Keeps-refl}
use Rattle.desk_cli.proofs.performing.audit_beside.Goals as goal

pub returns-in-Ok : goal.returns-in-Ok
returns-in-Ok g c =
    let ended = c.audit_with.ensures in
    record { result = ended.result; ended = ended.ended; says = inl (c.in-Ok.ensures.made, ended.says) }

pub returns-in-Err : goal.returns-in-Err
returns-in-Err g c =
    record { result = Err c.in-Err.fault; ended = c.end.ensures; says = inr (c.in-Err.fault, c.in-Err.ensures.fault, c.in-Err.ensures.unmade, refl, refl, Keeps-refl _) }
