-- No effect adds more than one row to a table.
use Rattle.std.proofs.Common.{◌≡◌, ℕ, ◌+◌, ◌≤◌, List, [], ◌∷◌, ◌++◌, length, length-append, refl, ap, ◌∙◌, arith}
use Rattle.std.proofs.lemmas.List.{length-map}
use Rattle.registry_core.specs.declared.effects.Effect.{Effect}
use Rattle.registry_core.specs.declared.effects.Effect.TheVariants.{Nothing, AddsSender, AddsOwner, AddsGateway, AddsDevice, MovesDevice, AddsSession, AddsUplink, AddsReception, AddsBooking, EndsBooking, SetsLimit}
use Rattle.registry_core.specs.declared.facts.Kind.{Kind}
use Rattle.registry_core.specs.declared.facts.Kind.TheVariants.{Join, Data}
use Rattle.desk_rows.specs.Rows.{Rows, ReplyRow, SessionRow}
use Rattle.desk_rows.specs.order.Changes.{counted_down, ended_row, kind_at, rows_with, session_of_uplink, sessions_counted}
use Rattle.desk_rows.specs.order.RowsOf.{IsFew}
use Rattle.desk_rows.proofs.OrderLemmas.Limits.{limits_few}
use Rattle.desk_rows.proofs.OrderLemmas.Numbering.{length-item_changed}

-- as many as before, or one more
abbrev IsOneMoreAtMost : {X : Type 0} → List X → List X → Type 0
IsOneMoreAtMost old new = length new ≤ length old + 1

one : {X : Type 0} (xs : List X) (x : X) → IsOneMoreAtMost xs (xs ++ x ∷ [])
one xs x = omega (arith, length-append xs (x ∷ []))

none : {X : Type 0} (xs : List X) → IsOneMoreAtMost xs xs
none xs = omega arith

changed : {X : Type 0} (xs ys : List X) → length ys ≡ length xs → IsOneMoreAtMost xs ys
changed xs ys same = omega arith

counted : (kind : Kind) (number : ℕ) (sessions : List SessionRow) → IsOneMoreAtMost sessions (sessions_counted kind number sessions)
counted Join number sessions = none sessions
counted Data number sessions = changed sessions _ (length-item_changed counted_down sessions number)

few_by : (old new : Rows) (reply : ReplyRow) → new.replies ≡ old.replies ++ reply ∷ [] → IsFew old
    → IsOneMoreAtMost old.senders new.senders → IsOneMoreAtMost old.owners new.owners → IsOneMoreAtMost old.gateways new.gateways
    → IsOneMoreAtMost old.devices new.devices
    → IsOneMoreAtMost old.sessions new.sessions → IsOneMoreAtMost old.uplinks new.uplinks → IsOneMoreAtMost old.receptions new.receptions
    → IsOneMoreAtMost old.bookings new.bookings → IsOneMoreAtMost old.limits new.limits
    → IsFew new
few_by old new reply is few senders owners gateways devices sessions uplinks receptions bookings limits =
    let more : length new.replies ≡ length old.replies + 1 = ap length is ∙ length-append old.replies (reply ∷ []) in
    record {
      senders = omega (arith, few.senders, senders, more);
      owners = omega (arith, few.owners, owners, more);
      gateways = omega (arith, few.gateways, gateways, more);
      devices = omega (arith, few.devices, devices, more);
      sessions = omega (arith, few.sessions, sessions, more);
      uplinks = omega (arith, few.uplinks, uplinks, more);
      receptions = omega (arith, few.receptions, receptions, more);
      bookings = omega (arith, few.bookings, bookings, more);
      limits = omega (arith, few.limits, limits, more);
    }

pub few_with : (r : Rows) (effect : Effect) (reply : ReplyRow) → IsFew r → IsFew (rows_with effect reply r)
few_with r Nothing reply few =
    few_by r _ reply refl few (none r.senders) (none r.owners) (none r.gateways) (none r.devices) (none r.sessions) (none r.uplinks) (none r.receptions)
    (none r.bookings) (none r.limits)
few_with r (AddsSender name role) reply few =
    few_by r _ reply refl few (one r.senders _) (none r.owners) (none r.gateways) (none r.devices) (none r.sessions) (none r.uplinks) (none r.receptions)
    (none r.bookings) (none r.limits)
few_with r (AddsOwner name) reply few =
    few_by r _ reply refl few (none r.senders) (one r.owners _) (none r.gateways) (none r.devices) (none r.sessions) (none r.uplinks) (none r.receptions)
    (none r.bookings) (none r.limits)
few_with r (AddsGateway name) reply few =
    few_by r _ reply refl few (none r.senders) (none r.owners) (one r.gateways _) (none r.devices) (none r.sessions) (none r.uplinks) (none r.receptions)
    (none r.bookings) (none r.limits)
few_with r (AddsDevice dev_eui device) reply few =
    few_by r _ reply refl few (none r.senders) (none r.owners) (none r.gateways) (one r.devices _) (none r.sessions) (none r.uplinks) (none r.receptions)
    (none r.bookings) (none r.limits)
few_with r (MovesDevice dev_eui owner) reply few =
    few_by r _ reply refl few (none r.senders) (none r.owners) (none r.gateways) (changed r.devices _ (length-map r.devices _)) (none r.sessions)
    (none r.uplinks) (none r.receptions) (none r.bookings) (none r.limits)
few_with r (AddsSession session uplink gateway reception) reply few =
    few_by r _ reply refl few (none r.senders) (none r.owners) (none r.gateways) (none r.devices) (one r.sessions _) (one r.uplinks _) (one r.receptions _)
    (none r.bookings) (none r.limits)
few_with r (AddsUplink uplink gateway reception) reply few =
    few_by r _ reply refl few (none r.senders) (none r.owners) (none r.gateways) (changed r.devices _ (length-map r.devices _)) (none r.sessions)
    (one r.uplinks _) (one r.receptions _) (none r.bookings) (none r.limits)
few_with r (AddsReception number gateway reception) reply few =
    few_by r _ reply refl few (none r.senders) (none r.owners) (none r.gateways) (none r.devices) (none r.sessions) (none r.uplinks) (one r.receptions _)
    (none r.bookings) (none r.limits)
few_with r (AddsBooking booking) reply few =
    few_by r _ reply refl few (none r.senders) (none r.owners) (none r.gateways) (none r.devices)
    (counted (kind_at r.uplinks booking.uplink) (session_of_uplink r.uplinks booking.uplink) r.sessions) (none r.uplinks) (none r.receptions) (one r.bookings _) (none r.limits)
few_with r (EndsBooking number sent) reply few =
    few_by r _ reply refl few (none r.senders) (none r.owners) (none r.gateways) (none r.devices) (none r.sessions) (none r.uplinks) (none r.receptions)
    (changed r.bookings _ (length-item_changed (ended_row sent) r.bookings number)) (none r.limits)
few_with r (SetsLimit gateway limit) reply few =
    few_by r _ reply refl few (none r.senders) (none r.owners) (none r.gateways) (none r.devices) (none r.sessions) (none r.uplinks) (none r.receptions)
    (none r.bookings) (limits_few r.limits gateway limit)
