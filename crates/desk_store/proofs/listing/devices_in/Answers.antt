-- The keys of the map differ, and the sorted keys are a permutation of them, so they are all DevEUIs, each once and ascending.
use Rattle.std.proofs.Common.{◌≡◌, List, ℕ, rules, subst}
use Rattle.std.specs.List.Sorted.{IsPermutation}
use Rattle.std.specs.Map.{keys_of}
use Rattle.desk_store.proofs.Listed.{devices_listed}
use Rattle.desk_store.proofs.listing.devices_in.Goals as goal

pub returns : goal.returns
returns c =
    let same : c.in_ok-sorted.sorted.items ≡ keys_of c.args.devices.now.entries = search rules in
    let P : List ℕ → Type 0 = λ keys. IsPermutation keys c.sort_unstable.new.self.items in
    devices_listed c.args.devices.now.entries c.sort_unstable.new.self.items c.keys.ensures.unique (subst P same c.sort_unstable.ensures.permutation) c.sort_unstable.ensures.sorted
