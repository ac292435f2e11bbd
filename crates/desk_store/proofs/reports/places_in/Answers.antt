-- Session by session, the places that are collected are a permutation of those in the sessions that were passed.
use Rattle.std.proofs.Common.{[], List, subst, sym}
use Rattle.std.specs.Prelude.{IsPermutation}
use Rattle.std.proofs.lemmas.List.Sorted.{IsPermutation-refl}
use Rattle.desk_store.specs.declared.start_index.Place.{Place}
use Rattle.desk_store.proofs.UplinksTold.{places_none, places_step}
use Rattle.desk_store.proofs.DeviceSessions.{before_is_own, before_less, latest_is_own}
use Rattle.desk_store.proofs.reports.places_in.Goals as goal

pub loop-number-init : goal.loop-number-init
loop-number-init c =
    let none = places_none c.args.uplinks.now c.args.sessions.now.items c.args.device c.args.band c.args.period.now.from c.args.period.now.to in
    let P : List Place → Type 0 = λ all. IsPermutation all c.new-places.result.items in
    let Q : List Place → Type 0 = λ places. IsPermutation [] places in
    rw c.latest-number.ensures (record {
      own = latest_is_own c.args.sessions.now.items c.args.device;
      later = subst P (sym none) (subst Q (sym c.new-places.ensures.items) (IsPermutation-refl []));
    })

pub loop-number-smaller : goal.loop-number-smaller
loop-number-smaller c = rw c.before-number.ensures (before_less c.args.sessions.now.items c.args.device c.loop-number.number (c.loop-number.invariant.own c.loop-number-test.true))

pub loop-number-preserved : goal.loop-number-preserved
loop-number-preserved c =
    let own = c.loop-number.invariant.own c.loop-number-test.true in
    rw (c.before-number.ensures, c.in_ok-extend_from_slice.ensures.items) (record {
      own = before_is_own c.args.sessions.now.items c.args.device c.loop-number.number own;
      later = places_step c.args.uplinks.now c.args.sessions.now.items c.args.device c.args.band c.args.period.now.from c.args.period.now.to c.loop-number.number own
          c.loop-number.places.items c.places.result.now c.loop-number.invariant.later c.places.ensures;
    })
