-- The session, the kind and the counter are a unique key, so the first row that is found is the only such uplink.
use Rattle.std.proofs.Common.{[], ◌∷◌, ◌∙◌}
use Rattle.desk_rows.proofs.Lookups.{says_so}
use Rattle.desk_rows.proofs.Ordered.{map_same}
use Rattle.desk_rows.proofs.DeskTables.{everything, finds_first, refl, understood, uplink_key, uplinks}
use Rattle.desk_rows.proofs.uplinks.uplink_with.Goals as goal

pub returns : goal.returns
unfolding understood everything
returns g c = says_so (finds_first uplinks uplink_key (c.args.session, c.args.of, c.args.counter) tt (0 ∷ 2 ∷ 3 ∷ 4 ∷ 5 ∷ 6 ∷ 7 ∷ 8 ∷ []) (refl, refl) refl refl (λ b. b) (λ b. refl) (λ b fits. fits)
    (rw (c.json_integer.ensures.same, c.kind.ensures, c.word.ensures.same) at c.find.ensures)) (λ r has x is. is ∙ map_same _)
