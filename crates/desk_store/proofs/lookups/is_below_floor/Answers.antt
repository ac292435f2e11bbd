-- The walk from the device's latest session back: after each step no session that was passed has a data uplink.
use Rattle.std.proofs.Common.{◌≡◌, ◌<◌, ◌∙◌, sym, ap, true, false, is_some, arith}
use Rattle.std.specs.List.{list_any}
use Rattle.std.proofs.lemmas.Bool.{or_from}
use Rattle.registry_core.specs.Derived.{is_data_of}
use Rattle.desk_store.proofs.Floor.{some_counter, floor_none, floor_step, floor_found, floor_lower}
use Rattle.desk_store.proofs.DeviceSessions.{latest_is_own, before_less, before_is_own}
use Rattle.desk_store.proofs.lookups.is_below_floor.Goals as goal

pub loop-number-init : goal.loop-number-init
loop-number-init c = rw c.latest-number.ensures (record {
  own = latest_is_own c.args.sessions.now.items c.args.device;
  none = floor_none c.args.uplinks.now c.args.sessions.now.items c.args.device;
})

pub returns-then-is_some : goal.returns-then-is_some
returns-then-is_some c =
    let some : 0 < c.loop-number.number = omega arith in
    let any : list_any (is_data_of c.loop-number.number) c.args.uplinks.now ≡ true =
    sym (some_counter c.args.uplinks.now c.loop-number.number) ∙ ap is_some (sym c.last_counter.ensures) ∙ sym c.is_some.ensures ∙ c.if-is_some.true in
    sym (floor_found c.args.uplinks.now c.args.sessions.now.items c.args.device c.args.session c.loop-number.number c.loop-number-test.true (c.loop-number.invariant.own some) any)

pub loop-number-smaller : goal.loop-number-smaller
loop-number-smaller c =
    let some : 0 < c.loop-number.number = omega arith in
    rw c.before-number.ensures (before_less c.args.sessions.now.items c.args.device c.loop-number.number (c.loop-number.invariant.own some))

pub loop-number-preserved : goal.loop-number-preserved
loop-number-preserved c =
    let some : 0 < c.loop-number.number = omega arith in
    let none : list_any (is_data_of c.loop-number.number) c.args.uplinks.now ≡ false =
    sym (some_counter c.args.uplinks.now c.loop-number.number) ∙ ap is_some (sym c.last_counter.ensures) ∙ sym c.is_some.ensures ∙ c.if-is_some.false in
    rw c.before-number.ensures (record {
      own = before_is_own c.args.sessions.now.items c.args.device c.loop-number.number (c.loop-number.invariant.own some);
      none = floor_step c.args.uplinks.now c.args.sessions.now.items c.args.device c.loop-number.number (c.loop-number.invariant.own some)
          ∙ or_from _ _ none c.loop-number.invariant.none;
    })

pub returns : goal.returns
returns c = sym (floor_lower c.args.uplinks.now c.args.sessions.now.items c.args.device c.args.session c.loop-number.number c.loop-number-test.false c.loop-number.invariant.none)
