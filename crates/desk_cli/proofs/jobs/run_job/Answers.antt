-- A desk that opened is closed as the job left it; for one that didn't, nothing was read or written, and its file is as it was.
use Rattle.std.proofs.Common.{Err, arith, ap, inl, inr, refl}
use Rattle.std.proofs.KnownBytes.{Keeps-refl}
use Rattle.desk_cli.proofs.jobs.run_job.Goals as goal

pub returns-in-Ok : goal.returns-in-Ok
returns-in-Ok g c = record {
  does = λ clean config heard kept.
      let sound = c.close.ensures.sound clean in
      let was_sound = c.run-done.ensures.was_sound sound in
      let was = c.in-Ok.ensures.desk was_sound config heard kept in
      inl (record {
        old = c.in-Ok.tables;
        new = _;
        was = was;
        was_sound = was_sound;
        sound = sound;
        same = c.run-done.ensures.same;
        did = c.run-done.ensures.does config heard was sound;
        in_order = c.close.ensures.in_order;
        left = c.close.ensures.left;
      });
  not_a_desk = λ clean none. absurd (c.in-Ok.ensures.never (c.run-done.ensures.was_sound (c.close.ensures.sound clean)) none);
  clean = λ clean. c.in-Ok.ensures.clean (c.run-done.ensures.was_sound (c.close.ensures.sound clean));
}

pub returns-in-Err : goal.returns-in-Err
returns-in-Err g c = record {
  does = λ clean config heard kept.
      let back = c.in-Err.ensures.unavailable clean config heard kept in
      inr (ap Err back.0, back.1, refl, refl);
  not_a_desk = λ clean none. (c.in-Err.ensures.refused clean, (Keeps-refl _, Keeps-refl _));
  clean = λ clean. let given = (c.in-Err.ensures.refused clean).given_back in omega (arith, given.clean, clean);
}
