-- The reception is stored under the number of uplinks before, plus one, and room that is reserved changes no entry.
use Rattle.std.proofs.Common.{◌≡◌, ◌∙◌, ◌+◌, ap, length}
use Rattle.std.specs.Map.{lookup}
use Rattle.registry_core.specs.State.{receptions_with}
use Rattle.desk_store.specs.Facts.{same_key}
use Rattle.desk_store.proofs.Keyed.{receptions_with-updated}
use Rattle.desk_store.proofs.facts.put_uplink.Goals as goal

pub returns-clause-receptions : goal.returns-clause-receptions
returns-clause-receptions c =
    let count : c.len.result ≡ length c.args.traffic.now.uplinks = c.len.ensures.count ∙ ap length c.uplinks.ensures in
    receptions_with-updated c.reserve.new.self c.insert.new.self _ c.args.gateway c.args.reception c.in_ok-insert.ensures.updates
    ∙ (λ i. receptions_with (λ number gateway. lookup (same_key (number, gateway)) (c.in_ok-reserve.ensures.entries i)) (count i + 1) c.args.gateway c.args.reception)
