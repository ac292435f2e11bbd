-- For JoinHeard and FrameHeard the view's numbers have space for one more after every log; the search proves the other messages.
use Rattle.std.proofs.Common.{◌∙◌}
use Rattle.registry_core.specs.steps.Checked.{IsChecked}
use Rattle.registry_core.proofs.ViewBounds.{frame_checked, join_checked}
use Rattle.registry_core.proofs.deciding.checked_decision.Goals as goal

pub returns-in-JoinHeard : goal.returns-in-JoinHeard
unfolding IsChecked
returns-in-JoinHeard c = λ c' heard e block list same v.
    rw c.in-JoinHeard.is (join_checked c' heard e _ _ _ _ block list (same ∙ c.in-JoinHeard.is) v c.join_heard.ensures)

pub returns-in-FrameHeard : goal.returns-in-FrameHeard
unfolding IsChecked
returns-in-FrameHeard c = λ c' heard e block list same v.
    rw c.in-FrameHeard.is (frame_checked c' heard e _ _ _ _ block list (same ∙ c.in-FrameHeard.is) v c.frame_heard.ensures)
