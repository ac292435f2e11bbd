-- What a crash leaves of both files is among what the store may leave, so opening finds one of the states that the log allows.
use Rattle.std.proofs.Common.{subst}
use Rattle.sqlite_disk.specs.declared.Files.{Files}
use Rattle.desk_cli.proofs.FoundAgain.{found_again, is_clean, may_be_left}
use Rattle.desk_cli.proofs.stopping.opened_after_stop.Goals as goal

pub returns-in-Ok : goal.returns-in-Ok
returns-in-Ok g c = λ always settings heard doubt left.
    let it = c.into_store.result in
    let clean = is_clean always it in
    let after : Files _ = record { log = c.crash.new.self; db = c.crash-2.new.self } in
    let log = subst (λ both. g.D.Disk.may_leave both.0 (g.D.Disk.seen c.crash.new.self)) c.close-files.ensures c.crash.ensures.left in
    let db = subst (λ both. g.D.Disk.may_leave both.1 (g.D.Disk.seen c.crash-2.new.self)) c.close-files.ensures c.crash-2.ensures.left in
    let again_clean = is_clean always c.in-Ok.again.store in
    found_again always it (c.into_store.ensures.numbered clean) (c.into_store.ensures.sound clean) after (may_be_left always it after log db) settings heard doubt
    (λ trees may. left trees (c.into_store.ensures.quiet.outcomes trees may))
    c.in-Ok.again (c.in-Ok.ensures.opened again_clean) (c.in-Ok.ensures.found again_clean)
