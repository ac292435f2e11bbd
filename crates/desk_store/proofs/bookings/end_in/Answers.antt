-- If the number is in the list, that booking is marked; the number 0, or one past the end, changes nothing.
use Rattle.std.proofs.Common.{◌≡◌, sym, if◌then◌else◌}
use Rattle.registry_core.specs.declared.facts.Standing.TheVariants.{Sent, Dropped}
use Rattle.registry_core.specs.State.{ended}
use Rattle.desk_store.proofs.ItemChanged.{item_changed_by, item_changed_none, item_changed_past}
use Rattle.desk_store.proofs.bookings.end_in.Goals as goal
use Rattle.desk_store.proofs.bookings.end_in.Goals.{then-sent, else-sent, else-number-ge1-via-then-number-ge1+else-number-bookings, else-number-ge1-via-else-number-ge1}

pub returns-after-sent : goal.returns-after-sent
returns-after-sent c =
    let standing : c.if-sent.bookings ≡ (if c.args.sent then Sent else Dropped) = elim c.if-sent.branch [
      | then-sent w ↦ rw w.if-sent.true w.bookings-is
      | else-sent w ↦ rw w.if-sent.false w.bookings-is
    ] in
    rw standing (item_changed_by (ended c.args.sent) c.args.bookings.now c.args.number c.index-bookings-number.result c.if-number-ge1.true c.if-number-bookings.true)

pub returns-else-number-ge1 : goal.returns-else-number-ge1
returns-else-number-ge1 c = elim c.else-number-ge1.branch [
  | else-number-ge1-via-then-number-ge1+else-number-bookings w ↦ sym (item_changed_past _ _ _ w.if-number-bookings.false)
  | else-number-ge1-via-else-number-ge1 w ↦ sym (item_changed_none _ _ _ w.if-number-ge1.false)
]
