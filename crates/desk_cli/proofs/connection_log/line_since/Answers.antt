-- The parts of the line, each by the definition: method, target, both counts, the time, and the status and refusal of the answer.
use Rattle.std.proofs.Common.{◌∙◌, ap, refl}
use Rattle.desk_cli.specs.ConnectionLog.{after_word, first_word}
use Rattle.desk_cli.proofs.connection_log.line_since.Goals as goal

pub returns-in-Ok : goal.returns-in-Ok
returns-in-Ok g c = record {
  served = record {
    end = c.args.end;
    method = c.first_word.result;
    target = c.target_in.result;
    read = c.count.result;
    written = c.count-2.result;
    micros = c.in_ok-micros.micros;
    head = c.answer_in-head.result.0;
    refusal = c.answer_in-head.result.1;
  };
  ended = refl;
  method = c.first_word.ensures ∙ ap first_word c.first-2.ensures;
  target = c.target_in.ensures ∙ ap (λ text. first_word (after_word text)) c.first-3.ensures;
  was_read = c.count.ensures;
  was_written = c.count-2.ensures;
  line_is = c.in-Ok.ensures;
}
