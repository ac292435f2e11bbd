-- A desk that opened is closed with the log that it had; one that didn't open prints nothing, and its file is as it was.
use Rattle.std.proofs.Common.{None, arith}
use Rattle.std.proofs.KnownBytes.{Keeps-refl}
use Rattle.desk_engine.specs.InOrder.{kept_after}
use Rattle.desk_cli.proofs.TotalsPrinted.{is_check}
use Rattle.desk_cli.proofs.OnTables.{is_left, keeps}
use Rattle.desk_cli.proofs.Printed.{prints, prints_unopened}
use Rattle.desk_cli.proofs.Reported.{is_kept_as_it_was, is_left_as_it_was}
use Rattle.desk_cli.proofs.commands.checking.print_check.Goals as goal

pub returns-in-Ok : goal.returns-in-Ok
unfolding kept_after
returns-in-Ok g c = record {
  desk = λ clean config heard kept.
      let sound = c.close.ensures.sound clean in
      let read = c.text_of-text.ensures.read in
      let was_sound = read.was_sound sound in
      let was = c.in-Ok.ensures.desk was_sound config heard kept in
      prints _ _ _ _ _ (λ text. text.items) c.text_of-text.result c.print.result
      (is_check _ config heard c.in-Ok.tables c.text_of-text.new.tables (λ text. text.items) was sound c.text_of-text.result c.text_of-text.ensures.told)
      (λ still. keeps _ _ _ _ _ was read.same c.close.result g.met.S.Store.settled was_sound sound c.close.ensures.left c.close.ensures.in_order heard (is_kept_as_it_was _ _ _ _ _ was _ read sound still))
      (is_left _ _ _ _ _ was read.same c.close.result g.met.S.Store.settled was_sound sound c.close.ensures.left heard None (is_left_as_it_was _ _ _ _ _ was _ read sound))
      c.print.ensures;
  not_a_desk = λ clean none. absurd (c.in-Ok.ensures.never (c.text_of-text.ensures.read.was_sound (c.close.ensures.sound clean)) none);
  clean = λ clean. c.in-Ok.ensures.clean (c.text_of-text.ensures.read.was_sound (c.close.ensures.sound clean));
}

pub returns-in-Err : goal.returns-in-Err
returns-in-Err g c = record {
  desk = λ clean config heard kept.
      let back = c.in-Err.ensures.unavailable clean config heard kept in
      prints_unopened _ _ _ _ c.in-Err.fault back.0 back.1 (Keeps-refl _) tt;
  not_a_desk = λ clean none. (c.in-Err.ensures.refused clean, Keeps-refl _);
  clean = λ clean. let given = (c.in-Err.ensures.refused clean).given_back in omega (arith, given.clean, clean);
}
