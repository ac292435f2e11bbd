-- The bookings that name the new uplink's number already are counted for its session; if `push` fails, each count stays.
use Rattle.std.proofs.Common.{◌∙◌, ◌+◌, ap, refl}
use Rattle.std.specs.Prelude.{count_by}
use Rattle.desk_store.specs.steps.Answers.{is_naming}
use Rattle.desk_store.specs.steps.Traffic.{AreDowns}
use Rattle.desk_store.proofs.Downs.{downs_same, uplink_counted}
use Rattle.desk_store.proofs.traffic.Traffic.push_uplink.Goals as goal

pub invariant_of-self-in_err-push : goal.invariant_of-self-in_err-push
invariant_of-self-in_err-push c =
    downs_same c.self.inside.uplinks c.push.new.self c.self.inside.bookings c.self.inside.downs c.make_room.new.self
    c.in_err-push.ensures.err c.make_room.ensures.same c.self.invariant

pub invariant_of-self-2 : goal.invariant_of-self-2
invariant_of-self-2 c =
    let uplinks = c.self.inside.uplinks in
    let bookings = c.self.inside.bookings in
    let were : AreDowns uplinks bookings c.make_room.new.self =
    downs_same uplinks uplinks bookings c.self.inside.downs c.make_room.new.self refl c.make_room.ensures.same c.self.invariant in
    let named = c.naming-naming.ensures.count ∙ ap (λ n. count_by (is_naming (n + 1)) bookings) c.len.ensures.count in
    rw c.in_ok-push.ensures.ok
    (uplink_counted uplinks bookings c.make_room.new.self c.grow.new.downs c.naming-naming.ensures.few were c.args.uplink c.naming-naming.result named c.in_ok-grow.ensures.ok)
