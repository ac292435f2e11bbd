-- A message that is delivered again is in the log with its first answer, because its sender is still known.
use Rattle.desk_engine.proofs.HearingAgain.{heard_again}
use Rattle.desk_engine.proofs.laws.heard_again.Goals as goal

pub returns : goal.returns
returns c = heard_again c.same_message_tells.ensures c.senders_stay.ensures
