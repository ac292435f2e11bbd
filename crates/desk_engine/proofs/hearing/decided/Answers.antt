-- The decision by the view is the state's, its effect fits the state, and both texts are those of the definitions.
use Rattle.std.proofs.Common.{◌∙◌, ap, refl, List, ℕ}
use Rattle.registry_core.specs.Decision.{Decision}
use Rattle.desk_wire.specs.Answers.{answer_text, head_of_envelope}
use Rattle.desk_wire.specs.Writing.{message_text}
use Rattle.desk_engine.proofs.HearingCases.{can_add}
use Rattle.desk_engine.proofs.KeptAfter.{with_entry-kept_after}
use Rattle.desk_engine.proofs.hearing.decided.Goals as goal

pub returns : goal.returns
returns c = λ heard list none viewed.
    let config = c.args.config.now in
    let e = c.args.envelope.now in
    let decided = c.decide-effect.ensures config heard e c.configs_keep_ranges.ensures.block list refl viewed in
    let messaged = c.in_ok-message.ensures ∙ ap (λ (r : List ℕ). message_text r e) c.receiver.ensures in
    let own = c.in_ok-text.ensures ∙ ap (λ (r : List ℕ). answer_text r (head_of_envelope e) c.decide-effect.result.1) c.receiver-2.ensures in
    record {
      can = can_add config heard e c.args.view.now _ viewed none (c.decisions_fit.ensures config heard e list) decided;
      kept = with_entry-kept_after config heard e _ c.decide-effect.result _ decided messaged own;
      told = own ∙ ap (λ (d : Decision). answer_text config.receiver (head_of_envelope e) d.1) decided;
    }
