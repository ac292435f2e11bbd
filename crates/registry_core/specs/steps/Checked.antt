-- The decision of a message's checks by its view.
use Rattle.std.specs.Prelude.{◌≡◌, List}
use Rattle.registry_core.specs.Viewed.{IsView}
use Rattle.registry_core.specs.declared.messages.Envelope.{Envelope}
use Rattle.registry_core.specs.declared.messages.Message.{Message}
use Rattle.registry_core.specs.declared.views.View.{View}
use Rattle.registry_core.specs.Checks.{Checked}
use Rattle.registry_core.specs.Decision.{Decision}
use Rattle.registry_core.specs.Heard.{IsHeard, state_of}
use Rattle.registry_core.specs.Settings.{Settings, IsBlock}
use Rattle.registry_core.specs.Step.{checked_decision}

-- If the view is the registry's for the message after some log, this is the decision of the message's checks, or the refusal of the first
-- that fails.
unfoldable pub IsChecked : Message → View → Checked Decision → Type 0
IsChecked message view checked = (c : Settings) (heard : List Envelope) (e : Envelope)
    → IsBlock c.base c.addresses → IsHeard c heard → e.message ≡ message → IsView c (state_of c heard) e view
    → checked ≡ checked_decision c (state_of c heard) e message
