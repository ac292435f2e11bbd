-- Whether an uplink is answered: by a booking that isn't dropped.
use Rattle.std.proofs.Common.{◌≡◌, ℕ, pos, List, [], ◌∷◌, ◌&&◌, not, refl, ap, ap₂, ◌∙◌, Bool, Result}
use Rattle.std.specs.List.{list_any}
use Rattle.sqlite_value.specs.declared.keys.Collation.TheVariants.{Binary}
use Rattle.sqlite_sql.specs.declared.ops.BinaryOp.TheVariants.{Compare}
use Rattle.sqlite_sql.specs.declared.ops.CompareOp.TheVariants.{Ne}
use Rattle.sqlite_sql.specs.Ops.{is_true, binary}
use Rattle.std.specs.Ordering.{is_ne}
use Rattle.sqlite_value.proofs.OrderLemmas.{value_cmp-Int}
use Rattle.sqlite.specs.State.{State}
use Rattle.registry_core.specs.declared.facts.Standing.{Standing}
use Rattle.registry_core.specs.declared.facts.Standing.TheVariants.{Booked, Sent, Dropped}
use Rattle.registry_core.specs.Bookings.{is_answer_to, is_dropped}
use Rattle.desk_rows.specs.Rows.{BookingRow, booking_cells, number, standing_number}
use Rattle.desk_rows.specs.Calls.{ReadsRows}
use Rattle.desk_rows.specs.steps.Queries.{Knows}
use Rattle.desk_rows.specs.steps.Texts.{AsksFor, answer_asked}
use Rattle.desk_rows.specs.declared.faults.RowFault.{RowFault}
use Rattle.desk_rows.proofs.Lookups.{known_by, says_so}
use Rattle.desk_rows.proofs.Ordered.{found_any}
use Rattle.desk_rows.proofs.StatementTexts.{lookup_is}
use Rattle.desk_rows.proofs.ReadLemmas.{truth_again}
use Rattle.desk_rows.proofs.Terms.{and_true, number_equal}

pub stands : (s : Standing) → is_true (binary (Compare Ne Binary) (number (standing_number s)) (number 2)) ≡ not (is_dropped s)
unfolding binary
stands Booked = truth_again _ ∙ ap is_ne (value_cmp-Int (pos 0) (pos 2))
stands Sent = truth_again _ ∙ ap is_ne (value_cmp-Int (pos 1) (pos 2))
stands Dropped = truth_again _ ∙ ap is_ne (value_cmp-Int (pos 2) (pos 2))

module _ {sql : List ℕ} {names : List (List ℕ)} (means : AsksFor sql 1 answer_asked names) {old new : State} where
  pub reads_answer : (uplink : ℕ) {result : Result Bool RowFault} → Knows sql (number uplink ∷ []) old new result
      → ReadsRows old new result (λ r answered. answered ≡ list_any (λ (b : BookingRow). is_answer_to uplink b.booking) r.bookings)
  reads_answer uplink knew = says_so
      (known_by (lookup_is means) (number uplink ∷ []) refl refl booking_cells (λ r. r.bookings) (λ r has. has.ten.booking) (λ b. is_answer_to uplink b.1.booking)
      (λ b. ap₂ (λ s t. s && t) (number_equal b.1.booking.uplink uplink) (and_true _ ∙ stands b.1.booking.standing)) knew)
      (λ r has answered is. is ∙ found_any (λ (b : BookingRow). is_answer_to uplink b.booking) 1 r.bookings)
