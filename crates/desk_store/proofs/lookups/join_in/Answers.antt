-- The walk from the device's latest session back: after each step the join is the first in the sessions that were passed.
use Rattle.std.proofs.Common.{◌∙◌, sym, ap}
use Rattle.desk_store.specs.steps.Uplinks.{join_of, earlier_of}
use Rattle.desk_store.proofs.Joins.{join_none, join_step}
use Rattle.desk_store.proofs.DeviceSessions.{latest_is_own, before_less, before_is_own}
use Rattle.desk_store.proofs.lookups.join_in.Goals as goal

pub loop-number-init : goal.loop-number-init
loop-number-init c = rw c.latest-number.ensures (record {
  own = latest_is_own c.args.sessions.now.items c.args.device;
  first = sym (join_none c.args.uplinks.now c.args.sessions.now.items c.args.device c.args.nonce);
})

pub loop-number-smaller : goal.loop-number-smaller
loop-number-smaller c = rw c.before-number.ensures (before_less c.args.sessions.now.items c.args.device c.loop-number.number (c.loop-number.invariant.own c.loop-number-test.true))

pub loop-number-preserved : goal.loop-number-preserved
loop-number-preserved c =
    let own = c.loop-number.invariant.own c.loop-number-test.true in
    let here = c.join_of.ensures ∙ ap (join_of c.args.uplinks.now c.loop-number.number) c.from.ensures in
    rw c.before-number.ensures (record {
      own = before_is_own c.args.sessions.now.items c.args.device c.loop-number.number own;
      first = c.earlier_of-found.ensures ∙ (λ i. earlier_of (c.loop-number.invariant.first i) (here i))
          ∙ sym (join_step c.args.uplinks.now c.args.sessions.now.items c.args.device c.args.nonce c.loop-number.number own);
    })
