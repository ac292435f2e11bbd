-- The marks of an hour as it slides through a list that is ordered by start.
use Rattle.std.specs.Prelude.{ℤ, pos, ◌+ℤ◌, List}
use Rattle.duty_core.specs.Use.{Interval, hour}
use Rattle.duty_core.specs.steps.Marks.{IsMark}
use Rattle.duty_core.specs.declared.marks.Edge.TheVariants.{Start, End}
use Rattle.duty_core.specs.declared.sweep.Window.{Window}

-- two marks for the beginning of the hour from t, and two for its end
pub record IsWindow (l : List Interval) (w : Window) (t : ℤ) : Type 0 where
  pub starts : IsMark Start l w.starts.passed w.starts.sum t
  pub ends : IsMark End l w.ends.passed w.ends.sum t
  pub later_starts : IsMark Start l w.later_starts.passed w.later_starts.sum (t +ℤ pos hour)
  pub later_ends : IsMark End l w.later_ends.passed w.later_ends.sum (t +ℤ pos hour)
