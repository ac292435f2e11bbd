-- The checks of a limit that is to be set, by a view.
use Rattle.std.specs.Prelude.{List, ℕ, Some, Ok}
use Rattle.duty_core.specs.Computed.{hours_within}
use Rattle.registry_core.specs.declared.answers.Answer.TheVariants.{Success}
use Rattle.registry_core.specs.declared.answers.Refusal.TheVariants.{WrongRole, UnknownGateway, Duty}
use Rattle.registry_core.specs.declared.effects.Effect.TheVariants.{SetsLimit}
use Rattle.registry_core.specs.declared.views.View.{View}
use Rattle.registry_core.specs.Administration.{is_operator}
use Rattle.registry_core.specs.Checks.{Checked, ◌>>◌, wants}
use Rattle.registry_core.specs.Decision.{Decision}
use Rattle.registry_core.specs.Limits.{Limit}

unfoldable pub limit_set_by : View → List ℕ → Limit → Checked Decision
limit_set_by v gateway limit = do
  wants (is_operator (Some v.role)) WrongRole
  wants v.gateway_known UnknownGateway
  wants (hours_within v.in_band.items limit.most) Duty
  Ok (SetsLimit gateway limit, Success)
