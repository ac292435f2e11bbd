-- The cached counter is the session's last, and no data uplink of the session has a greater one.
use Rattle.std.proofs.Common.{◌≡◌, ◌∙◌, Some, ap}
use Rattle.registry_core.specs.Derived.{is_above, last_counter}
use Rattle.desk_tables.proofs.SeenLemmas.{none_above}
use Rattle.desk_tables.proofs.seen.Seen.is_after.Goals as goal

pub returns-then-seen-session : goal.returns-then-seen-session
returns-then-seen-session c r it after =
    let has = rw c.in-Some.is at it.counter in
    let last : last_counter r.uplinks c.args.session ≡ Some c.in-Some.seen.last = rw c.if-seen-session.true at has in
    none_above r.uplinks c.args.session c.args.counter 1 (ap (is_above c.args.counter) last ∙ after)
