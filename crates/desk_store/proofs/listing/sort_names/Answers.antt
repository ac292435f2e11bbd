-- `by_octets` is a total order, and names that differ come out strictly ascending and with none lost.
use Rattle.std.specs.Cmp.Lexicographic.{nat_list_cmp_total, slice_cmp}
use Rattle.std.specs.Ordering.{is_lt, nat_cmp}
use Rattle.std.proofs.Common.{rules}
use Rattle.std.proofs.lemmas.List.Sorted.{answers_always, ranks_by}
use Rattle.desk_store.proofs.Listed.{names_listed}
use Rattle.desk_store.proofs.listing.sort_names.Goals as goal

pub returns : goal.returns
returns c = λ distinct. names_listed c.args.names.now.items c.sort_unstable_by.new.self.items distinct c.sort_unstable_by.ensures.permutation
    (c.sort_unstable_by.ensures.sorted (λ x y. is_lt (slice_cmp nat_cmp x y)) (ranks_by nat_list_cmp_total (λ x. x)) (answers_always _ _ _ (λ f a r f' k. search rules)))
