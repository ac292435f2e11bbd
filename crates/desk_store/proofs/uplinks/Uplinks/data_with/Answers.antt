-- The index has the number of the first data uplink with this counter, and the uplink at that number is the one that a search finds.
use Rattle.std.proofs.Common.{◌∙◌, ap}
use Rattle.registry_core.specs.Derived.{is_data_with, data_with}
use Rattle.desk_store.specs.steps.Uplinks.{number_of}
use Rattle.desk_store.proofs.FirstThat.{numbered_first}
use Rattle.desk_store.proofs.uplinks.Uplinks.data_with.Goals as goal

pub returns : goal.returns
returns c =
    let told = c.copied.ensures ∙ c.get.ensures.value ∙ c.self.invariant.0.frames c.args.session c.args.counter
    ∙ ap (λ uplinks. number_of (data_with uplinks c.args.session c.args.counter)) c.self.view_is in
    c.numbered.ensures ∙ numbered_first (is_data_with c.args.session c.args.counter) c.args.self.now c.copied.result told
