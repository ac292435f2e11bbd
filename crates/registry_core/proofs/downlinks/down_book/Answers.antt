-- The bookings near the downlink decide, because no booking is longer than 3,000,000 microseconds and no hour is above its limit.
use Rattle.registry_core.specs.steps.Checked.{IsChecked}
use Rattle.registry_core.proofs.ViewBounds.{book_checked}
use Rattle.registry_core.proofs.downlinks.down_book.Goals as goal

pub returns : goal.returns
unfolding IsChecked
returns c = λ c' heard e block list same v.
    book_checked c.airtime_is_bounded.ensures c.computed_forms_tell.ensures.within c.near_ones_test.ensures.clear c.near_ones_test.ensures.hours
    c' heard e _ _ _ _ _ _ block list same v c.down_booked.ensures
