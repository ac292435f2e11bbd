-- The key in the map is the band's number and the gateway, as `same_key` compares them, so the state is the one after `SetsLimit`.
use Rattle.std.proofs.Common.{◌≡◌, ◌∙◌, Some, ap, subst}
use Rattle.indexmap.specs.IndexMap.{Updates}
use Rattle.radio_core.specs.Bands.{band_number}
use Rattle.desk_store.specs.Facts.{facts_of, same_key}
use Rattle.desk_store.proofs.Keyed.{limits_with-updated}
use Rattle.desk_store.proofs.facts.Facts.set_limit.Goals as goal

pub returns-clause-ok : goal.returns-clause-ok
returns-clause-ok c =
    let number : c.get.result ≡ band_number c.args.limit.band = c.get.ensures ∙ ap band_number c.band.ensures in
    let updates : Updates same_key c.args.self.now.limits c.insert.new.self (band_number c.args.limit.band, c.args.gateway) (Some c.args.limit.most) =
    subst (λ n. Updates same_key c.args.self.now.limits c.insert.new.self (n, c.args.gateway) (Some c.args.limit.most)) number
    (subst (λ most. Updates same_key c.args.self.now.limits c.insert.new.self (c.get.result, c.args.gateway) (Some most)) c.most.ensures.same c.in_ok-insert.ensures.updates) in
    ap (λ limits. record (facts_of c.args.self.now) { limits = limits }) (limits_with-updated c.args.self.now.limits c.insert.new.self c.args.gateway c.args.limit updates)
