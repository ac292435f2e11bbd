-- The index of first uplinks and that of starts are right for the longer list, and after a failed note for the list as it was.
use Rattle.std.proofs.Common.{◌≡◌, ◌+◌, ◌∙◌, length, subst, sym, List, [], ◌∷◌, ◌++◌, arith, rules}
use Rattle.std.specs.Prelude.{pos}
use Rattle.registry_core.specs.declared.facts.Uplink.{Uplink}
use Rattle.desk_store.specs.declared.start_index.Place.{Place}
use Rattle.desk_store.specs.steps.ByKey.{Rises}
use Rattle.desk_store.specs.steps.StartIndex.{places_in}
use Rattle.desk_store.specs.steps.UplinkPlaces.{AreStarts, key_of}
use Rattle.desk_store.specs.steps.Uplinks.{same_numbers, IsIndexOf}
use Rattle.desk_store.proofs.Indexed.{index_unchanged}
use Rattle.desk_store.proofs.Placed.{index_noted, index_same, places_rise}
use Rattle.desk_store.proofs.UplinksTold.{pair_alike}
use Rattle.desk_store.proofs.uplinks.Uplinks.push.Goals as goal

pub invariant_of-self-in_err-add : goal.invariant_of-self-in_err-add
invariant_of-self-in_err-add c =
    let items = c.self.inside.items.items in
    let room = index_unchanged items c.self.inside.index c.make_room.new.self c.self.invariant.0 c.make_room.ensures.joins c.make_room.ensures.frames c.make_room.ensures.counters in
    let starts : AreStarts items c.add.new.self =
    index_same (λ (u : Uplink). pos u.start) same_numbers key_of items (places_in same_numbers c.self.inside.starts) (places_in same_numbers c.add.new.self) c.self.invariant.1 c.in_err-add.ensures.err in
    let P : List Uplink → Type 0 = λ uplinks. IsIndexOf uplinks c.make_room.new.self × AreStarts uplinks c.add.new.self in
    subst P (sym c.reserve.ensures.items) (room, starts)

pub invariant_of-self-2 : goal.invariant_of-self-2
invariant_of-self-2 c =
    let items = c.self.inside.items.items in
    let uplink = c.args.uplink in
    let start = λ (u : Uplink). pos u.start in
    let count : c.len.result ≡ length items = omega arith in
    let last : c.len.result + 1 ≡ length items + 1 = omega arith in
    let R : List Place → Type 0 = Rises (λ place. place.start) in
    let rise = subst R (sym (c.self.invariant.1.places (key_of uplink))) (places_rise start (λ u. same_numbers (key_of u) (key_of uplink)) items) in
    let room = index_unchanged items c.self.inside.index c.make_room.new.self c.self.invariant.0 c.make_room.ensures.joins c.make_room.ensures.frames c.make_room.ensures.counters in
    let key_is : (uplink.session, c.get.result) ≡ key_of uplink = (λ i. (uplink.session, c.get.ensures i)) in
    let starts : AreStarts (items ++ uplink ∷ []) c.add.new.self =
    index_noted start same_numbers key_of pair_alike items uplink (uplink.session, c.get.result) c.place_of.result
    (places_in same_numbers c.self.inside.starts) (places_in same_numbers c.add.new.self) key_is
    (c.place_of.ensures ∙ (λ i. record { start = pos uplink.start; number = count i + 1 })) c.self.invariant.1
    (c.in_ok-add.ensures.noted (rw key_is rise)) in
    let all : c.push.new.self.items ≡ items ++ uplink ∷ [] = search rules in
    let P : List Uplink → Type 0 = λ uplinks. IsIndexOf uplinks c.add-2.new.self × AreStarts uplinks c.add.new.self in
    subst P (sym all) (c.in_ok-add-2.ensures.noted items last room, starts)
