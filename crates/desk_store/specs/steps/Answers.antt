-- Bookings with counts of those that answer an uplink.
use Rattle.std.specs.Prelude.{◌≡◌, ℕ, ◌==◌, Bool, List, count_by}
use Rattle.registry_core.specs.declared.facts.Booking.{Booking}
use Rattle.registry_core.specs.Bookings.{is_answer_to}
use Rattle.desk_store.specs.declared.answers.Answers.{Answers}
use Rattle.desk_store.specs.steps.Tally.{tallied}

-- the booking names the uplink with this number, dropped or not
abbrev pub is_naming : ℕ → Booking → Bool
is_naming number booking = booking.uplink == number

-- the counts are right for these bookings
pub record AreCounted (bookings : List Booking) (answers : Answers) : Type 0 where
  pub named : (number : ℕ) → tallied answers.named number ≡ count_by (is_naming number) bookings
  pub standing : (number : ℕ) → tallied answers.standing number ≡ count_by (is_answer_to number) bookings
