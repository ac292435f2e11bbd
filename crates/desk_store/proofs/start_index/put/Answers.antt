-- Where the starts rise, the partition point is the end of those that don't begin later.
use Rattle.std.proofs.Common.{◌≡◌, ◌≤◌, ◌∙◌, ap, length, rules, arith}
use Rattle.std.specs.Prelude.{int_le}
use Rattle.std.proofs.lemmas.List.Sorted.{IsPartitionPoint-from_clause}
use Rattle.desk_store.specs.declared.start_index.Place.{Place}
use Rattle.desk_store.proofs.Parted.{parted_to, put_at}
use Rattle.desk_store.proofs.start_index.put.Goals as goal

pub returns-clause-put : goal.returns-clause-put
returns-clause-put c = λ rises.
    let places = c.args.places.now.items in
    let at = c.partition_point-at.result in
    let same : c.deref.result.now ≡ places = c.deref.ensures.value in
    let within : at ≤ length places = omega (arith, c.partition_point-at.ensures.bound, ap length same) in
    let point = IsPartitionPoint-from_clause (λ (p : Place). int_le p.start c.args.place.start) c.deref.result.now at
    c.partition_point-at.ensures.partitioned (parted_to (λ (p : Place). p.start) c.args.place.start c.deref.result.now (rw same rises)) (λ a r f' q. search rules) in
    c.in_ok-insert.ensures.items ∙ put_at (λ (p : Place). p.start) c.args.place places at within (rw same at point)
