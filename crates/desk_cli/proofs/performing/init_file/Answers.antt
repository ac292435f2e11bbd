-- The file is made and a new desk in it, or it can't be made.
use Rattle.std.proofs.Common.{Err, ap, inl, inr, refl}
use Rattle.desk_cli.proofs.performing.init_file.Goals as goal

pub returns-in-Ok : goal.returns-in-Ok
returns-in-Ok g c =
    let ended = c.init_command-ending.ensures in
    record { result = ended.result; ended = ended.ended; says = inl (c.in-Ok.conn, c.init_command-ending.result.1, c.in-Ok.ensures.made, refl, ended.says) }

pub returns-in-Err : goal.returns-in-Err
returns-in-Err g c =
    record { result = Err c.in-Err.fault; ended = c.end.ensures; says = inr (c.in-Err.ensures.unmade, ap Err c.in-Err.ensures.fault, refl, tt) }
