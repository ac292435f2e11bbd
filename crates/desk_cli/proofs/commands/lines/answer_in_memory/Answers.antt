-- New lists represent the empty log, so the lines are answered from there; without memory for them nothing is read.
use Rattle.std.proofs.Common.{[], refl}
use Rattle.desk_cli.proofs.LinesAnswered.{answers_unopened, carried}
use Rattle.desk_cli.proofs.commands.lines.answer_in_memory.Goals as goal

pub returns : goal.returns
returns g c =
    let config = c.args.config.now in
    record {
      answered = carried _ _ _ _ _ _ (λ all kept. tt) (λ all doubt left. tt) _ _ _ _ c.answer_lines.result (c.answer_lines.ensures.ends config []
          (c.new_lists_are_in_order.ensures config _ _ _ (c.nothing_is_heard.ensures config) c.deref_mut.ensures.value c.in-Ok.ensures.opens c.in-Ok.ensures.config));
    }

pub returns-in-Err : goal.returns-in-Err
returns-in-Err g c = record { answered = answers_unopened c.args.config.now [] _ _ _ _ _ refl tt }
