-- The places of the device's uplinks in the period, sorted, are in the order of their starts.
use Rattle.std.proofs.Common.{◌∙◌, ap, map}
use Rattle.std.proofs.lemmas.Result.{IfOk-weaker}
use Rattle.registry_core.specs.Listing.{uplink_start}
use Rattle.registry_core.specs.Reports.{is_uplink_from}
use Rattle.desk_store.proofs.NumbersByStart.{number_at, numbers_sorted}
use Rattle.desk_store.proofs.listing.uplinks_between.Goals as goal

pub returns : goal.returns
returns c =
    IfOk-weaker c.numbers_at.result _ _
    (λ numbers are. numbers_sorted uplink_start (is_uplink_from c.args.sessions.now.items c.args.device c.args.period.now.from c.args.period.now.to) c.args.uplinks.now
    c.in_ok-places.places.items c.sort_unstable.new.self.items numbers.items c.in_ok-places.ensures c.sort_unstable.ensures.permutation c.sort_unstable.ensures.sorted
    (are ∙ ap (map number_at) c.deref.ensures.value))
    c.numbers_at.ensures
