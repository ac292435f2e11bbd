-- The index has the number of the first join with this counter, and the uplink at that number is the one that a search finds.
use Rattle.std.proofs.Common.{◌∙◌, ap}
use Rattle.desk_store.specs.steps.Uplinks.{is_join_of, join_of, number_of}
use Rattle.desk_store.proofs.FirstThat.{numbered_first}
use Rattle.desk_store.proofs.uplinks.Uplinks.join_of.Goals as goal

pub returns : goal.returns
returns c =
    let told = c.copied.ensures ∙ c.get.ensures.value ∙ c.self.invariant.0.joins c.args.session c.args.counter
    ∙ ap (λ uplinks. number_of (join_of uplinks c.args.session c.args.counter)) c.self.view_is in
    c.numbered.ensures ∙ numbered_first (is_join_of c.args.session c.args.counter) c.args.self.now c.copied.result told
