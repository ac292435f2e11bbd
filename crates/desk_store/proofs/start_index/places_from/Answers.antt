-- The starts rise, so what is behind the partition point is what begins at the moment or later.
use Rattle.std.proofs.Common.{◌∙◌, sym, rules}
use Rattle.std.specs.Prelude.{int_le, int_lt}
use Rattle.std.proofs.lemmas.List.{take_rest}
use Rattle.std.proofs.lemmas.List.Sorted.{IsPartitionPoint-from_clause}
use Rattle.desk_store.specs.declared.start_index.Place.{Place}
use Rattle.desk_store.proofs.Parted.{parted_before, back_passes, from_is}
use Rattle.desk_store.proofs.start_index.places_from.Goals as goal

pub returns : goal.returns
returns c = λ rises.
    let places = c.args.places.now in
    let at = c.partition_point-at.result in
    let point = IsPartitionPoint-from_clause (λ (p : Place). int_lt p.start c.args.moment) places at
    c.partition_point-at.ensures.partitioned (parted_before (λ (p : Place). p.start) c.args.moment places rises) (λ a r f' q. search rules) in
    take_rest places at ∙ sym (back_passes (λ (p : Place). int_lt p.start c.args.moment) (λ (p : Place). int_le c.args.moment p.start) (λ p. from_is c.args.moment p.start) places at c.partition_point-at.ensures.bound point)
