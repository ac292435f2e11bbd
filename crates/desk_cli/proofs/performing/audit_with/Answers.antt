-- The file is opened and audited, or it can't be opened.
use Rattle.std.proofs.Common.{Err, ap, inl, inr, refl}
use Rattle.std.proofs.KnownBytes.{Keeps-refl}
use Rattle.desk_cli.proofs.performing.audit_with.Goals as goal

pub returns-in-Ok : goal.returns-in-Ok
returns-in-Ok g c =
    let ended = c.audit_beside_command.ensures in
    record { result = ended.result; ended = ended.ended; says = inl (c.in-Ok.conn, c.in-Ok.ensures.opened, ended.says) }

pub returns-in-Err : goal.returns-in-Err
returns-in-Err g c =
    record { result = Err c.in-Err.fault; ended = c.end.ensures; says = inr (c.in-Err.ensures.unopened, ap Err c.in-Err.ensures.fault, refl, Keeps-refl _) }
