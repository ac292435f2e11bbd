-- Three ways out: all lines answered and flushed, a flush that failed, and a store that was unavailable at a line.
use Rattle.std.proofs.Common.{refl}
use Rattle.std.proofs.KnownBytes.{Appends-kept}
use Rattle.desk_engine.specs.Lines.{all_lines}
use Rattle.desk_cli.proofs.LinesAnswered.{cut_short, hears_all, keeps_lines}
use Rattle.desk_cli.proofs.answering.answer_lines.Goals as goal

pub returns-in-Ok-clause-ends : goal.returns-in-Ok-clause-ends
returns-in-Ok-clause-ends g c = λ config heard was.
    let ran = c.in-Done.ensures.ends in
    let ends = ran.2 config heard was in
    record {
      input = ran.0;
      read = ran.1;
      whole = c.in-Done.ensures.done refl;
      kept = keeps_lines _ _ _ _ _ c.in-Done.ensures.call refl (all_lines ran.0) ends.hears;
      answers = Appends-kept _ _ _ _ ends.answers c.in-Ok.ensures.bytes;
    }

pub returns-in-Err-clause-ends : goal.returns-in-Err-clause-ends
returns-in-Err-clause-ends g c = λ config heard was.
    let ran = c.in-Done.ensures.ends in
    hears_all _ _ _ _ _ _ _ _ _ ran.0 ran.1 c.in-Done.ensures.call (ran.2 config heard was).hears

pub returns-in-Unavailable-clause-ends : goal.returns-in-Unavailable-clause-ends
returns-in-Unavailable-clause-ends g c = λ config heard was.
    let ran = c.in-Unavailable.ensures.ends in
    cut_short _ _ _ _ _ _ _ _ _ ran.0 ran.1 c.in-Unavailable.fault (ran.2 config heard was) c.into.result c.into.ensures
