-- The file is opened and its desk's report printed, or the file can't be opened.
use Rattle.std.proofs.Common.{Err, ap, inl, inr, refl}
use Rattle.std.proofs.KnownBytes.{Keeps-refl}
use Rattle.desk_cli.proofs.performing.print_file.Goals as goal

pub returns-in-Ok : goal.returns-in-Ok
returns-in-Ok g c =
    let ended = c.print_report-ending.ensures in
    record { result = ended.result; ended = ended.ended; says = inl (c.in-Ok.conn, c.print_report-ending.result.1, c.in-Ok.ensures.opened, refl, ended.says) }

pub returns-in-Err : goal.returns-in-Err
returns-in-Err g c =
    record { result = Err c.in-Err.fault; ended = c.end.ensures; says = inr (c.in-Err.ensures.unopened, ap Err c.in-Err.ensures.fault, refl, Keeps-refl _) }
