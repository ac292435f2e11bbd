-- Each LF ends one line more, and what follows the last one is buffered; an error leaves the rest of the octets unanswered.
use Rattle.std.proofs.Common.{◌++◌, [], ◌∷◌, sym, ◌∙◌, false}
use Rattle.desk_engine.specs.Lines.{line_feed}
use Rattle.desk_engine.proofs.Hearings.{call_then}
use Rattle.desk_engine.proofs.LineRuns as runs
use Rattle.desk_engine.proofs.lines.take_octets.Goals as goal

pub loop-front-preserved : goal.loop-front-preserved
loop-front-preserved g c = record {
  call = call_then g.K.Looks.meaning c.args.keeper.now c.loop-front.keeper c.take_line.new.keeper false false c.loop-front.invariant.call c.in-Ok.ensures.call;
  done = c.loop-front.invariant.done ++ (c.in-Some.front.now ++ line_feed ∷ []);
  parts = runs.parts-on c.args.octets.now c.loop-front.invariant.done c.in-Some.front.now c.loop-front.rest.now c.in-Some.more.now
      c.loop-front.invariant.parts c.in-Some.ensures.some.0;
  stands = λ s heard start before input same sound stands.
      rw (runs.line-done input c.loop-front.invariant.done c.in-Some.front.now) at
      (c.in-Ok.ensures.advances s heard start before (input ++ c.loop-front.invariant.done) (same ∙ sym c.loop-front.invariant.call.same) sound c.in-Some.ensures.some.1
      (c.loop-front.invariant.stands s heard start before input same (c.in-Ok.ensures.call.was_sound sound) stands));
}

pub returns-in-Err-clause-advances : goal.returns-in-Err-clause-advances
returns-in-Err-clause-advances g c = λ s heard start before input same sound stands more.
    rw (runs.line-rest input c.args.octets.now c.loop-front.invariant.done c.in-Some.front.now c.loop-front.rest.now c.in-Some.more.now more
    c.loop-front.invariant.parts c.in-Some.ensures.some.0) at
    (c.in-Err.ensures.advances s heard start before (input ++ c.loop-front.invariant.done) (same ∙ sym c.loop-front.invariant.call.same) sound c.in-Some.ensures.some.1
    (c.loop-front.invariant.stands s heard start before input same (c.in-Err.ensures.call.was_sound sound) stands)
    (c.in-Some.more.now ++ more))

pub returns-in-Ok-keep_octets-clause-advances : goal.returns-in-Ok-keep_octets-clause-advances
returns-in-Ok-keep_octets-clause-advances g c = λ s heard start before input same sound stands.
    rw (runs.octets-done input c.args.octets.now c.loop-front.invariant.done c.loop-front.rest.now c.loop-front.invariant.parts) at
    (runs.advances-on g.K.Looks.meaning s heard start c.loop-front.keeper before _ (input ++ c.loop-front.invariant.done) c.loop-front.line.items c.loop-front.rest.now
    c.keep_octets.new.line.items c.in_default.ensures.none c.in-Ok-keep_octets.ensures.kept (c.loop-front.invariant.stands s heard start before input same sound stands))

pub returns-in-Err-keep_octets-clause-advances : goal.returns-in-Err-keep_octets-clause-advances
returns-in-Err-keep_octets-clause-advances g c = λ s heard start before input same sound stands more.
    rw (runs.octets-done input c.args.octets.now c.loop-front.invariant.done c.loop-front.rest.now c.loop-front.invariant.parts) at
    (runs.advances-without g.K.Looks.meaning s heard start c.loop-front.keeper before _ (input ++ c.loop-front.invariant.done) c.loop-front.line.items c.loop-front.rest.now
    c.in_default.ensures.none c.in-Err-keep_octets.ensures.some (c.loop-front.invariant.stands s heard start before input same sound stands) more)
