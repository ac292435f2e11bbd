-- The decision on a message: a change, and an answer.
use Rattle.std.specs.Prelude.{Ok, Err}
use Rattle.registry_core.specs.declared.answers.Answer.{Answer}
use Rattle.registry_core.specs.declared.answers.Answer.TheVariants.{Refused}
use Rattle.registry_core.specs.declared.effects.Effect.{Effect}
use Rattle.registry_core.specs.declared.effects.Effect.TheVariants.{Nothing}
use Rattle.registry_core.specs.Checks.{Checked}

abbrev pub Decision : Type 0
Decision = Effect × Answer

-- a refusal changes nothing
abbrev pub decision_or_refusal : Checked Decision → Decision
decision_or_refusal (Ok decision) = decision
decision_or_refusal (Err refusal) = (Nothing, Refused refusal)
