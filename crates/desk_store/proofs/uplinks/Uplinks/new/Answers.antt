-- An empty list has empty indexes.
use Rattle.std.proofs.Common.{◌≡◌, List, [], subst, sym, rules}
use Rattle.registry_core.specs.declared.facts.Uplink.{Uplink}
use Rattle.desk_store.specs.steps.UplinkPlaces.{AreStarts}
use Rattle.desk_store.specs.steps.Uplinks.{IsIndexOf}
use Rattle.desk_store.proofs.uplinks.Uplinks.new.Goals as goal

pub invariant_of-result : goal.invariant_of-result
invariant_of-result c =
    let empty : c.new.result.items ≡ [] = search rules in
    let P : List Uplink → Type 0 = λ uplinks. IsIndexOf uplinks c.new-2.result × AreStarts uplinks c.new-3.result in
    subst P (sym empty) (c.new-2.ensures, record { places = λ k. c.new-3.ensures k })
